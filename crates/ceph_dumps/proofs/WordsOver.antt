-- Words that are written over, a byte at a time.
use Rattle.std.proofs.Common.{◌≡◌, ◌≢◌, ◌<◌, ◌+◌, ◌-◌, ◌∙◌, ◌==◌, ℕ, false, true, List, [], ◌∷◌, ◌++◌, length, drop, get_or, set, take, None, Some}
use Rattle.std.proofs.Common.{◌≤◌, Bool, Option, append_assoc, arith, ap, get_or-set_same, length-drop, not, refl, subst, suc, sym, zero}
use mathlib.Core.Bool.{beq}
use native.Mathlib.Numerals.{unary_clauses}
use Rattle.std.proofs.lemmas.Bool.{ne_eqb}
use Rattle.std.proofs.lemmas.Grind.{drop_more_same}
use Rattle.std.proofs.lemmas.List.{drop-drop, drop_more, length-set, take-set-le, take_more}
use Rattle.memchr.specs.Find.{FindsNeedle, OccursAt}
use Rattle.ceph_dumps.specs.DumpText.{IsWordless, over_byte, place_behind, quoting, word_left, word_length, written_over}
use Rattle.ceph_dumps.specs.KeyPath.{place_after}
use Rattle.ceph_dumps.specs.declared.bare_words.Place.{Place}
use Rattle.ceph_dumps.specs.declared.bare_words.Place.TheVariants.{Bare, Escaped, Quoted}

pub nowhere : (text word : List ℕ) (found : Option ℕ) → FindsNeedle text word 0 found → found ≡ None → (at : ℕ) → OccursAt text word at → ⊥
nowhere text word None none is at o = none at (omega arith) (omega (arith, o.fits)) o
nowhere text word (Some k) none is at o = absurd (cc)

module _ (old now whole : List ℕ) (at left : ℕ) (place : Place) (inside : at < length now) (rest : drop at now ≡ drop at old)
    (is : whole ≡ take at now ++ written_over left place (drop at old)) where
  byte : ℕ
  byte = get_or now at 0

  more : List ℕ
  more = drop (at + 1) now

  opened : drop at now ≡ get_or now at 0 ∷ drop (at + 1) now
  opened = drop_more now at 0 inside

  so_far : whole ≡ take at now ++ written_over left place (get_or now at 0 ∷ drop (at + 1) now)
  so_far = is ∙ ap (λ (t : List ℕ). take at now ++ written_over left place t) (sym rest ∙ opened)

  pub rest_on : drop (at + 1) now ≡ drop (at + 1) old
  rest_on = drop_more_same now old at rest

  kept : (n : ℕ) → word_left left place (get_or now at 0 ∷ drop (at + 1) now) ≡ n → n ≡ 0
      → written_over left place (get_or now at 0 ∷ drop (at + 1) now)
      ≡ get_or now at 0 ∷ written_over 0 (place_after place (get_or now at 0)) (drop (at + 1) now)
  kept n e none = rw (e ∙ none) refl

  pub keep_turn : word_left left place (drop at now) ≡ 0
      → whole ≡ take (at + 1) now ++ written_over 0 (place_after place (get_or now at 0)) (drop (at + 1) old)
  keep_turn none =
      so_far
      ∙ ap (λ (t : List ℕ). take at now ++ t) (kept 0 (ap (λ (t : List ℕ). word_left left place t) (sym opened) ∙ none) refl)
      ∙ sym (append_assoc (take at now) (get_or now at 0 ∷ []) (written_over 0 (place_after place (get_or now at 0)) (drop (at + 1) now)))
      ∙ ap (λ (t : List ℕ). t ++ written_over 0 (place_after place (get_or now at 0)) (drop (at + 1) now)) (sym (take_more now at 0 inside))
      ∙ ap (λ (t : List ℕ). take (at + 1) now ++ written_over 0 (place_after place (get_or now at 0)) t) rest_on

  over : (n : ℕ) → word_left left place (get_or now at 0 ∷ drop (at + 1) now) ≡ n → (n == 0) ≡ false
      → written_over left place (get_or now at 0 ∷ drop (at + 1) now) ≡ over_byte (n - 1) ∷ written_over (n - 1) place (drop (at + 1) now)
  over n e some = rw (e, some) refl

  pub over_turn : (n : ℕ) → n ≡ word_left left place (drop at now) → n ≢ 0
      → whole ≡ take (at + 1) (set now at (over_byte (n - 1))) ++ written_over (n - 1) place (drop (at + 1) old)
  over_turn n e some =
      let changed : List ℕ = set now at (over_byte (n - 1)) in
      let front : take (at + 1) changed ≡ take at now ++ over_byte (n - 1) ∷ [] =
      take_more changed at 0 (omega (arith, inside, length-set now at (over_byte (n - 1))))
      ∙ ap (λ (t : List ℕ). t ++ get_or changed at 0 ∷ []) (take-set-le at now at (over_byte (n - 1)) (omega arith))
      ∙ ap (λ (b : ℕ). take at now ++ b ∷ []) (get_or-set_same now at (over_byte (n - 1)) 0 inside) in
      so_far
      ∙ ap (λ (t : List ℕ). take at now ++ t)
      (over n (ap (λ (t : List ℕ). word_left left place t) (sym opened) ∙ sym e) (ne_eqb n 0 some))
      ∙ sym (append_assoc (take at now) (over_byte (n - 1) ∷ []) (written_over (n - 1) place (drop (at + 1) now)))
      ∙ ap (λ (t : List ℕ). t ++ written_over (n - 1) place (drop (at + 1) now)) (sym front)
      ∙ ap (λ (t : List ℕ). take (at + 1) changed ++ written_over (n - 1) place t) rest_on

-- ---- bytes that are passed over at once

no_word_left : (place : Place) (text : List ℕ) → word_length text ≡ 0 → word_left 0 place text ≡ 0
no_word_left Bare text none = none
no_word_left Quoted text none = refl
no_word_left Escaped text none = refl

module _ (old now whole : List ℕ) where
  run : (k at to : ℕ) (place : Place) → at + k ≡ to → to ≤ length now → ((i : ℕ) → at ≤ i → i < to → word_length (drop i now) ≡ 0)
      → drop at now ≡ drop at old → whole ≡ take at now ++ written_over 0 place (drop at old)
      → (whole ≡ take to now ++ written_over 0 (place_behind place (take k (drop at now))) (drop to old)) × (drop to now ≡ drop to old)
  run zero at to place is_to fits none rest is =
      let same : at ≡ to = omega (arith, is_to) in (
        subst (λ (n : ℕ). whole ≡ take n now ++ written_over 0 place (drop n old)) same is,
        subst (λ (n : ℕ). drop n now ≡ drop n old) same rest,
      )
  run (suc k) at to place is_to fits none rest is =
      let inside : at < length now = omega (arith, is_to, fits) in
      let opened : drop at now ≡ get_or now at 0 ∷ drop (at + 1) now = drop_more now at 0 inside in
      let here : word_left 0 place (drop at now) ≡ 0 = no_word_left place (drop at now) (none at (omega arith) (omega (arith, is_to))) in
      let later = run k (at + 1) to (place_after place (get_or now at 0)) (omega (arith, is_to)) fits
      (λ i from before. none i (omega (arith, from)) before)
      (rest_on old now whole at 0 place inside rest is) (keep_turn old now whole at 0 place inside rest is here) in
      (rw opened later.0, later.1)

  pub pass_over : (at count : ℕ) (place : Place) → at ≤ length now → IsWordless (drop at now) count → drop at now ≡ drop at old
      → whole ≡ take at now ++ written_over 0 place (drop at old)
      → (whole ≡ take (at + count) now ++ written_over 0 (place_behind place (take count (drop at now))) (drop (at + count) old))
      × (drop (at + count) now ≡ drop (at + count) old)
  pass_over at count place inside wordless rest is =
      let fits : at + count ≤ length now = omega (arith, inside, wordless.within, length-drop at now) in
      run count at (at + count) place refl fits
      (λ i from before.
      let there : at + (i - at) ≡ i = omega (arith, from) in
      subst (λ (t : List ℕ). word_length t ≡ 0) (drop-drop (i - at) at now ∙ ap (λ (n : ℕ). drop n now) there)
      (wordless.none (i - at) (omega (arith, from, before))))
      rest is

-- ---- where the byte behind some bytes is

pub behind_more : (place : Place) (text : List ℕ) (i : ℕ) → i < length text
    → place_behind place (take (i + 1) text) ≡ place_after (place_behind place (take i text)) (get_or text i 0)
behind_more place [] i inside = absurd (omega (arith, inside))
behind_more place (first ∷ text) zero inside = refl
behind_more place (first ∷ text) (suc i) inside =
    simp unary_clauses (simp unary_clauses at (behind_more (place_after place first) text i (omega (arith, inside))))

pub turned : (is_quoted : Bool) (b : ℕ) → b ≢ 92 → place_after (quoting is_quoted) b ≡ quoting (not (beq is_quoted (b == 34)))
turned false b other = by_cases (b == 34) refl where
  by_cases : (e : Bool) → (b == 34) ≡ e → place_after Bare b ≡ quoting (not (beq false (b == 34)))
  by_cases true is = rw is refl
  by_cases false is = rw is refl
turned true b other = by_cases (b == 34) refl where
  by_cases : (e : Bool) → (b == 34) ≡ e → place_after Quoted b ≡ quoting (not (beq true (b == 34)))
  by_cases true is = rw is refl
  by_cases false is = rw (is, ne_eqb b 92 other) refl
