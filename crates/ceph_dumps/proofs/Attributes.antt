-- Which attribute a line is of, and what it says.
use Rattle.std.proofs.Common.{◌≡◌, ◌∙◌, ◌⊎◌, ◌++◌, ℕ, List, MatchOption, None, Option, Some, ap, arith, codes, inl, inr, slice_index, subst, sym, ⊎_elim}
use Rattle.std.proofs.lemmas.List.{append_cancel_left, append_cancel_right}
use Rattle.ceph_dumps.specs.Listing.{IsPinOf, IsShareText, IsValueOf}
use Rattle.ceph_dumps.specs.OwnList.{IsNumberText}
use Rattle.ceph_dumps.specs.declared.listing.EphemeralPin.TheVariants.{Distributed, Random, Unknown}
use Rattle.ceph_dumps.specs.declared.listing.ListedValue.{ListedValue}
use Rattle.ceph_dumps.specs.declared.listing.ListedValue.TheVariants.{Entries, Inode, Pin, Policy}

-- what comes before the last quote of a line that has a value
abbrev IsEntriesTold : List ℕ → List ℕ → Type 0
IsEntriesTold told text = (told ≡ codes "ceph.dir.entries=\"" ++ text) × IsNumberText text

abbrev IsPolicyTold : List ℕ → List ℕ → Type 0
IsPolicyTold told text = ((told ≡ codes "ceph.dir.pin.distributed=\"" ++ text) ⊎ (told ≡ codes "ceph.dir.pin.random=\"" ++ text)) × IsShareText text

abbrev IsPinTold : List ℕ → List ℕ → Type 0
IsPinTold told text = (told ≡ codes "ceph.dir.pin=\"" ++ text) × (value : ListedValue) × IsPinOf text value

abbrev IsAnyTold : List ℕ → Type 0
IsAnyTold told = (text : List ℕ) × (IsEntriesTold told text ⊎ (IsPolicyTold told text ⊎ IsPinTold told text))

-- the quote is the last byte of each
unquoted : (line told front text : List ℕ) → line ≡ told ++ codes "\"" → line ≡ (front ++ text) ++ codes "\"" → told ≡ front ++ text
unquoted line told front text one two = append_cancel_right told (front ++ text) (codes "\"") (sym one ∙ two)

told_any : (line told : List ℕ) (value : ListedValue) → line ≡ told ++ codes "\"" → IsValueOf line value → IsAnyTold told
told_any line told (Entries count) parts (text, is, number) =
    (text, inl (unquoted line told (codes "ceph.dir.entries=\"") text parts is, number.0))
told_any line told (Pin pin) parts (text, is, number) =
    (text, inr (inr (unquoted line told (codes "ceph.dir.pin=\"") text parts is, Pin pin, number)))
told_any line told (Policy None) parts (text, is, share) =
    let front : (told ≡ codes "ceph.dir.pin.distributed=\"" ++ text) ⊎ (told ≡ codes "ceph.dir.pin.random=\"" ++ text) =
    ⊎_elim (λ one. inl (unquoted line told (codes "ceph.dir.pin.distributed=\"") text parts one))
    (λ one. inr (unquoted line told (codes "ceph.dir.pin.random=\"") text parts one)) is in
    (text, inr (inl (front, share.0)))
told_any line told (Policy (Some Distributed)) parts (text, is, share) =
    (text, inr (inl (inl (unquoted line told (codes "ceph.dir.pin.distributed=\"") text parts is), share.0)))
told_any line told (Policy (Some Random)) parts (text, is, share) =
    (text, inr (inl (inr (unquoted line told (codes "ceph.dir.pin.random=\"") text parts is), share.0)))
told_any line told (Policy (Some Unknown)) parts is = absurd is
told_any line told (Inode number) parts is = absurd is

-- a line without a quote at its end has no value
pub no_quote : (line : List ℕ) (value : ListedValue) → ((rest : List ℕ) → line ≡ rest ++ codes "\"" → ⊥) → IsValueOf line value → ⊥
no_quote line (Entries count) none (text, is, number) = none (codes "ceph.dir.entries=\"" ++ text) is
no_quote line (Pin pin) none (text, is, number) = none (codes "ceph.dir.pin=\"" ++ text) is
no_quote line (Policy None) none (text, is, share) =
    ⊎_elim (λ one. none (codes "ceph.dir.pin.distributed=\"" ++ text) one) (λ one. none (codes "ceph.dir.pin.random=\"" ++ text) one) is
no_quote line (Policy (Some Distributed)) none (text, is, share) = none (codes "ceph.dir.pin.distributed=\"" ++ text) is
no_quote line (Policy (Some Random)) none (text, is, share) = none (codes "ceph.dir.pin.random=\"" ++ text) is
no_quote line (Policy (Some Unknown)) none is = is
no_quote line (Inode number) none is = is

module _ (told : List ℕ) where
  -- the tenth byte is no `e`, and the thirteenth no dot
  pin_any : (text : List ℕ) → told ≡ codes "ceph.dir.pin=\"" ++ text → ((value : ListedValue) → IsPinOf text value → ⊥) → IsAnyTold told → ⊥
  pin_any text one none (other, inl (two, number)) =
      let byte : 112 ≡ 101 = ap (λ (bytes : List ℕ). slice_index bytes 9) (sym one ∙ two) in omega (arith, byte)
  pin_any text one none (other, inr (inl (inl two, share))) =
      let byte : 61 ≡ 46 = ap (λ (bytes : List ℕ). slice_index bytes 12) (sym one ∙ two) in omega (arith, byte)
  pin_any text one none (other, inr (inl (inr two, share))) =
      let byte : 61 ≡ 46 = ap (λ (bytes : List ℕ). slice_index bytes 12) (sym one ∙ two) in omega (arith, byte)
  pin_any text one none (other, inr (inr (two, value, pin))) =
      let same : other ≡ text = append_cancel_left (codes "ceph.dir.pin=\"") other text (sym two ∙ one) in
      none value (subst (λ (t : List ℕ). IsPinOf t value) same pin)

  none_any : ((rest : List ℕ) → told ≡ codes "ceph.dir.entries=\"" ++ rest → ⊥) → ((rest : List ℕ) → told ≡ codes "ceph.dir.pin.distributed=\"" ++ rest → ⊥)
      → ((rest : List ℕ) → told ≡ codes "ceph.dir.pin.random=\"" ++ rest → ⊥)
      → ((rest : List ℕ) → told ≡ codes "ceph.dir.pin=\"" ++ rest → ⊥) → IsAnyTold told → ⊥
  none_any entries distributed random pin (other, inl (two, number)) = entries other two
  none_any entries distributed random pin (other, inr (inl (inl two, share))) = distributed other two
  none_any entries distributed random pin (other, inr (inl (inr two, share))) = random other two
  none_any entries distributed random pin (other, inr (inr (two, value, number))) = pin other two

-- so a line of no known attribute has no value, and one of a pin has the pin that the number says
module _ (line told : List ℕ) (parts : line ≡ told ++ codes "\"") where
  pub no_attribute : ((rest : List ℕ) → told ≡ codes "ceph.dir.entries=\"" ++ rest → ⊥)
      → ((rest : List ℕ) → told ≡ codes "ceph.dir.pin.distributed=\"" ++ rest → ⊥)
      → ((rest : List ℕ) → told ≡ codes "ceph.dir.pin.random=\"" ++ rest → ⊥) → ((rest : List ℕ) → told ≡ codes "ceph.dir.pin=\"" ++ rest → ⊥)
      → (value : ListedValue) → IsValueOf line value → ⊥
  no_attribute entries distributed random pin value has = none_any told entries distributed random pin (told_any line told value parts has)

  pub pin_line : (text : List ℕ) (result : Option ListedValue) → told ≡ codes "ceph.dir.pin=\"" ++ text
      → MatchOption result ((value : ListedValue) → IsPinOf text value → ⊥) (IsPinOf text)
      → MatchOption result ((value : ListedValue) → IsValueOf line value → ⊥) (IsValueOf line)
  pin_line text None is none = λ value has. pin_any told text is none (told_any line told value parts has)
  pin_line text (Some (Pin pin)) is has = (text, parts ∙ ap (λ (front : List ℕ). front ++ codes "\"") is, has)
  pin_line text (Some (Entries count)) is has = absurd has
  pin_line text (Some (Policy policy)) is has = absurd has
  pin_line text (Some (Inode number)) is has = absurd has
