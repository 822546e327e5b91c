-- A text in which no word occurs stays as it is.
use Rattle.std.proofs.Common.{◌≡◌, ◌≢◌, ◌<◌, ◌≤◌, ◌+◌, ◌-◌, ◌∙◌, ℕ, zero, suc, Bool, true, false, List, [], ◌∷◌, length}
use Rattle.std.proofs.Common.{ap, arith, codes, drop, get_or, length-take, refl, slice_index, subst, sym, take, ⊎_elim}
use Rattle.std.proofs.lemmas.Bool.{cases_Bool}
use Rattle.std.proofs.lemmas.List.{drop-take, get_or-take, take-take}
use Rattle.std.proofs.lemmas.List.Elements.{All-from_get_or, All-get_or}
use Rattle.std.proofs.lemmas.Slice.Eq.{bytes_eq-Decides}
use Rattle.std.specs.Str.{bytes_eq}
use Rattle.memchr.specs.Find.{OccursAt}
use Rattle.ceph_dumps.specs.DumpText.{HasNoBackslash, HasNoWord, IsWordless, bare_length, begins_with, word_length, written_over}
use Rattle.ceph_dumps.specs.KeyPath.{place_after}
use Rattle.ceph_dumps.specs.declared.bare_words.Place.{Place}
use Rattle.ceph_dumps.specs.declared.bare_words.Place.TheVariants.{Bare, Escaped, Quoted}

occurs : (text word : List ℕ) → take (length word) text ≡ word → OccursAt text word 0
occurs text word is = record {
  fits =
      let size : length (take (length word) text) ≡ length word = ap (λ (t : List ℕ). length t) is in
      omega (arith, size, length-take (length word) text);
  reads = λ j inside.
      let place : 0 + j ≡ j = omega arith in
      ap (λ (i : ℕ). slice_index text i) place ∙ sym (get_or-take (length word) text j 0 inside) ∙ ap (λ (t : List ℕ). slice_index t j) is;
}

later : (byte : ℕ) (text word : List ℕ) (at : ℕ) → OccursAt text word at → OccursAt (byte ∷ text) word (at + 1)
later byte text word at o = record {
  fits = omega (arith, o.fits);
  reads = λ j inside.
      let place : at + 1 + j ≡ suc (at + j) = omega arith in
      ap (λ (i : ℕ). slice_index (byte ∷ text) i) place ∙ o.reads j inside;
}

behind : (byte : ℕ) (text : List ℕ) → HasNoWord (byte ∷ text) → HasNoWord text
behind byte text none = record {
  inf = λ at o. none.inf (at + 1) (later byte text (codes "inf") at o);
  nan = λ at o. none.nan (at + 1) (later byte text (codes "nan") at o);
}

begun : (text word : List ℕ) → begins_with text word ≡ true → take (length word) text ≡ word
begun text word e = (bytes_eq-Decides (take (length word) text) word).0 e

test_false : (b : Bool) → (b ≡ true → ⊥) → b ≡ false
test_false b never = ⊎_elim (λ (e : b ≡ true). absurd (never e)) (λ (e : b ≡ false). e) (cases_Bool b)

no_word : (byte : ℕ) (text : List ℕ) → HasNoWord (byte ∷ text) → word_length (byte ∷ text) ≡ 0
no_word byte text none =
    let rest = behind byte text none in
    let no_inf = test_false (begins_with (byte ∷ text) (codes "inf"))
    (λ e. none.inf 0 (occurs (byte ∷ text) (codes "inf") (begun (byte ∷ text) (codes "inf") e))) in
    let no_nan = test_false (begins_with (byte ∷ text) (codes "nan"))
    (λ e. none.nan 0 (occurs (byte ∷ text) (codes "nan") (begun (byte ∷ text) (codes "nan") e))) in
    let no_minus_inf = test_false (begins_with (byte ∷ text) (codes "-inf")) (λ e.
    rest.inf 0 (occurs text (codes "inf") (ap (λ (t : List ℕ). drop 1 t) (begun (byte ∷ text) (codes "-inf") e)))) in
    let no_minus_nan = test_false (begins_with (byte ∷ text) (codes "-nan")) (λ e.
    rest.nan 0 (occurs text (codes "nan") (ap (λ (t : List ℕ). drop 1 t) (begun (byte ∷ text) (codes "-nan") e)))) in
    rw (no_inf, no_nan, no_minus_inf, no_minus_nan) refl

nothing_bare : (place : Place) (byte : ℕ) (text : List ℕ) → HasNoWord (byte ∷ text) → bare_length place (byte ∷ text) ≡ 0
nothing_bare Bare byte text none = no_word byte text none
nothing_bare Quoted byte text none = refl
nothing_bare Escaped byte text none = refl

pub stays : (text : List ℕ) (place : Place) → HasNoWord text → written_over 0 place text ≡ text
stays [] place none = refl
stays (byte ∷ text) place none =
    rw (nothing_bare place byte text none)
    (ap (λ (rest : List ℕ). byte ∷ rest) (stays text (place_after place byte) (behind byte text none)))

-- ---- a piece in which no word begins, as none occurs in it and the bytes that a word may reach behind it

behind_some : (text : List ℕ) (n : ℕ) → HasNoWord text → HasNoWord (drop n text)
behind_some text zero none = none
behind_some [] (suc n) none = none
behind_some (byte ∷ text) (suc n) none = behind_some text n (behind byte text none)

nothing : (text : List ℕ) → HasNoWord text → word_length text ≡ 0
nothing [] none = refl
nothing (byte ∷ text) none = no_word byte text none

-- a word has at most four bytes
begins_alike : (text word : List ℕ) (n : ℕ) → length word ≤ n → begins_with (take n text) word ≡ begins_with text word
begins_alike text word n short = ap (λ (t : List ℕ). bytes_eq t word) (take-take (length word) n text short)

alike : (text : List ℕ) (n : ℕ) → 4 ≤ n → word_length (take n text) ≡ word_length text
alike text n long =
    rw (begins_alike text (codes "-inf") n long)
    (rw (begins_alike text (codes "-nan") n long)
    (rw (begins_alike text (codes "inf") n (omega (arith, long))) (rw (begins_alike text (codes "nan") n (omega (arith, long))) refl)))

pub wordless_piece : (text : List ℕ) (n : ℕ) → n + 3 ≤ length text → HasNoWord (take (n + 3) text)
    → HasNoBackslash (take (n + 3) text) → IsWordless text n
wordless_piece text n fits none plain = record {
  within = omega (arith, fits);
  plain = All-from_get_or (λ byte. byte ≢ 92) (take n text) 0 (λ i inside.
      let near : i < n = omega (arith, inside, length-take n text) in
      let same : get_or (take (n + 3) text) i 0 ≡ get_or (take n text) i 0 =
      get_or-take (n + 3) text i 0 (omega (arith, near)) ∙ sym (get_or-take n text i 0 near) in
      subst (λ (byte : ℕ). byte ≢ 92) same
      (All-get_or (λ byte. byte ≢ 92) (take (n + 3) text) i 0 (omega (arith, near, fits, length-take (n + 3) text)) plain));
  none = λ at inside.
      let size : n + 3 ≡ at + (n + 3 - at) = omega (arith, inside) in
      let cut : drop at (take (n + 3) text) ≡ take (n + 3 - at) (drop at text) =
      ap (λ (k : ℕ). drop at (take k text)) size ∙ drop-take at (n + 3 - at) text in
      sym (alike (drop at text) (n + 3 - at) (omega (arith, inside)))
      ∙ ap (λ (t : List ℕ). word_length t) (sym cut)
      ∙ nothing (drop at (take (n + 3) text)) (behind_some (take (n + 3) text) at none);
}
