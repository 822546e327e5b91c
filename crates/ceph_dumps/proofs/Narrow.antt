-- What was widened is narrowed again.
use Rattle.std.proofs.Common.{◌≡◌, ◌∙◌, ◌<◌, ◌≤◌, ◌+◌, ◌*◌, ◌/◌, ◌%◌, ◌⊎◌, ℕ, true, false, ltb, List, []}
use Rattle.std.proofs.Common.{◌∷◌, ◌++◌, All, Option, Some, None, drop, length, inl, inr, refl, ap, sym, arith, ⊎_elim}
use Rattle.std.proofs.lemmas.List.{append-nil, drop_all}
use Rattle.std.proofs.lemmas.Bool.{cases_Bool, ne_eqb}
use Rattle.std.proofs.lemmas.Bool.Decides.{nat_tests}
use Rattle.std.proofs.lemmas.List.Elements.{All-head, All-tail}
use Rattle.ceph_dumps.specs.WideBytes.{narrow_behind, wide, wide_byte}

plain_byte : (b : ℕ) (text : List ℕ) → b < 128 → narrow_behind None (b ∷ text) ≡ b ∷ narrow_behind None text
plain_byte b text small =
    rw (ne_eqb b 194 (λ same. omega arith), ne_eqb b 195 (λ same. omega arith)) refl

lead_194 : (a b : ℕ) (text : List ℕ) → b < 256 → a ≡ 194 → 128 ≤ b → b < 192 → narrow_behind None (a ∷ (128 + b % 64) ∷ text) ≡ b ∷ narrow_behind None text
lead_194 a b text lt is low high =
    let value : 194 % 4 * 64 + (128 + b % 64) % 64 ≡ b = omega arith in
    rw is (ap (λ (c : ℕ). c ∷ narrow_behind None text) value)

lead_195 : (a b : ℕ) (text : List ℕ) → b < 256 → a ≡ 195 → 192 ≤ b → narrow_behind None (a ∷ (128 + b % 64) ∷ text) ≡ b ∷ narrow_behind None text
lead_195 a b text lt is low =
    let value : 195 % 4 * 64 + (128 + b % 64) % 64 ≡ b = omega arith in
    rw is (ap (λ (c : ℕ). c ∷ narrow_behind None text) value)

low_or_high : (b : ℕ) → (b < 192) ⊎ (192 ≤ b)
low_or_high b =
    ⊎_elim (λ (is : ltb b 192 ≡ true). inl (grind (arith, nat_tests)))
    (λ (is : ltb b 192 ≡ false). inr (grind (arith, nat_tests)))
    (cases_Bool (ltb b 192))

wide_read : (b : ℕ) (text : List ℕ) → b < 256 → 128 ≤ b → narrow_behind None ((192 + b / 64) ∷ (128 + b % 64) ∷ text) ≡ b ∷ narrow_behind None text
wide_read b text lt high =
    ⊎_elim (λ (below : b < 192). lead_194 (192 + b / 64) b text lt (omega arith) high below)
    (λ (above : 192 ≤ b). lead_195 (192 + b / 64) b text lt (omega arith) above)
    (low_or_high b)

byte_read : (b : ℕ) (text : List ℕ) → b < 256 → narrow_behind None (wide_byte b ++ text) ≡ b ∷ narrow_behind None text
byte_read b text lt =
    ⊎_elim (λ (is : ltb b 128 ≡ true). rw is (plain_byte b text (grind (arith, nat_tests))))
    (λ (is : ltb b 128 ≡ false). rw is (wide_read b text lt (grind (arith, nat_tests))))
    (cases_Bool (ltb b 128))

pub narrow-wide : (bytes : List ℕ) → All (λ byte. byte < 256) bytes → narrow_behind None (wide bytes) ≡ bytes
narrow-wide [] all = refl
narrow-wide (b ∷ bytes) all =
    byte_read b (wide bytes) (All-head (λ byte. byte < 256) b bytes all)
    ∙ ap (λ (rest : List ℕ). b ∷ rest) (narrow-wide bytes (All-tail (λ byte. byte < 256) b bytes all))

narrow-nothing : (lead : Option ℕ) → narrow_behind lead [] ≡ []
narrow-nothing None = refl
narrow-nothing (Some byte) = refl

pub narrow-end : (items text : List ℕ) (lead : Option ℕ) (n : ℕ) → items ++ narrow_behind lead (drop n text) ≡ narrow_behind None text → length text ≤ n
    → items ≡ narrow_behind None text
narrow-end items text lead n is past =
    sym (append-nil items)
    ∙ ap (λ (rest : List ℕ). items ++ rest) (sym (narrow-nothing lead))
    ∙ ap (λ (rest : List ℕ). items ++ narrow_behind lead rest) (sym (drop_all n text past))
    ∙ is

-- plain bytes are read as they are, and written so
pub narrow-plain : (text : List ℕ) → All (λ byte. byte < 128) text → narrow_behind None text ≡ text
narrow-plain [] all = refl
narrow-plain (b ∷ text) all =
    plain_byte b text (All-head (λ byte. byte < 128) b text all)
    ∙ ap (λ (rest : List ℕ). b ∷ rest) (narrow-plain text (All-tail (λ byte. byte < 128) b text all))

pub wide-plain : (bytes : List ℕ) → All (λ byte. byte < 128) bytes → wide bytes ≡ bytes
wide-plain [] all = refl
wide-plain (b ∷ bytes) all =
    let small : b < 128 = All-head (λ byte. byte < 128) b bytes all in
    let is : ltb b 128 ≡ true = grind (arith, nat_tests) in
    rw is (ap (λ (rest : List ℕ). b ∷ rest) (wide-plain bytes (All-tail (λ byte. byte < 128) b bytes all)))
