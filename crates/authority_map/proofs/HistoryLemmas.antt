-- Beginnings of one list, and the step that appends to it.
use Rattle.std.proofs.Common.{◌≡◌, ℕ, ◌+◌, ◌<◌, ◌≤◌, ◌==◌, Bool, true, false, List, [], ◌∷◌, ◌++◌, length}
use Rattle.std.proofs.Common.{take, drop, refl, ap, sym, ◌∙◌, subst, arith, inl, length-append, append-nil, None, MatchBool}
use Rattle.std.proofs.lemmas.Bool.Decides.{nat_tests}
use Rattle.std.proofs.lemmas.List.{take-append-le, take-append-drop}
use Rattle.std.proofs.Math.Seq.{take-append_seam}
use mathlib.Core.List.{IsPrefix}
use lib.Dec.{leb}
use prog.Atomic.{either}
use Rattle.logbook.specs.Pages.{Cell, cell, keeps, no_nib, step, Moves, Goes}
use Rattle.authority_map.specs.Operations.{Operation}
use Rattle.authority_map.specs.Log.{IsCounted, Appends}

-- a beginning is what its length takes
prefix_takes : (xs zs : List Operation) → IsPrefix xs zs → xs ≡ take (length xs) zs
prefix_takes xs zs p = sym (ap (take (length xs)) (sym p.1) ∙ take-append_seam xs p.0)

-- the shorter of two beginnings is a beginning of the longer
pub shorter_is_part : (xs ys zs : List Operation) → IsPrefix xs zs → IsPrefix ys zs → length xs ≤ length ys → IsPrefix xs ys
shorter_is_part xs ys zs p q le =
    let cut : xs ≡ take (length xs) ys = prefix_takes xs zs p ∙ ap (take (length xs)) (sym q.1) ∙ take-append-le (length xs) ys q.0 le in
    (drop (length xs) ys, ap (λ (l : List Operation). l ++ drop (length xs) ys) cut ∙ take-append-drop (length xs) ys)

-- beginnings of one length are the same
pub same_length_same : (xs ys zs : List Operation) → IsPrefix xs zs → IsPrefix ys zs → length xs ≡ length ys → xs ≡ ys
same_length_same xs ys zs p q same = prefix_takes xs zs p ∙ ap (λ (n : ℕ). take n zs) same ∙ sym (prefix_takes ys zs q)

decided_by : (xs ys zs : List Operation) (n m : ℕ) → IsPrefix xs zs → IsPrefix ys zs → n ≡ length xs → m ≡ length ys → (b : Bool)
    → leb n m ≡ b → MatchBool b (IsPrefix xs ys) (IsPrefix ys xs)
decided_by xs ys zs n m p q a b true is = let le : n ≤ m = grind (arith, nat_tests) in shorter_is_part xs ys zs p q (omega arith)
decided_by xs ys zs n m p q a b false is = let le : m < n = grind (arith, nat_tests) in shorter_is_part ys xs zs q p (omega arith)

-- the lengths say which of two beginnings is part of the other
pub lengths_decide : (xs ys zs : List Operation) (n m : ℕ) → IsPrefix xs zs → IsPrefix ys zs → n ≡ length xs → m ≡ length ys
    → MatchBool (leb n m) (IsPrefix xs ys) (IsPrefix ys xs)
lengths_decide xs ys zs n m p q a b = decided_by xs ys zs n m p q a b (leb n m) refl

abbrev pub shows_none : List Operation → List Operation
shows_none log = []

abbrev pub moves_none : List Operation → List Operation → ℕ → Type 0
moves_none xs ys n = Unit {0}

-- the count that the step leaves
abbrev pub counts : ℕ → ℕ → ℕ
counts old n = either (n == old) (old + 1) n

-- the word counts the list after the step, where it counted it before
goes : (log prefix : List Operation) (e : Operation) (old : ℕ) → length prefix ≡ old → IsPrefix prefix log → (b : Bool) → (length log == old) ≡ b
    → Goes IsCounted shows_none moves_none 0 (prefix, (no_nib, None)) (counts old)
    (Appends (step 0 old (old + 1) e) (prefix, (no_nib, None))) ((length log, true) ∷ []) log
goes log prefix e old len part true is =
    let here : length log ≡ old = grind (arith, nat_tests) in
    let same : log ≡ prefix = same_length_same log prefix log ([], append-nil log) part (here ∙ sym len) in
    let counted : counts old (length log) ≡ length (log ++ e ∷ []) = rw is (omega (arith, length-append log (e ∷ []))) in (
      keeps,
      e ∷ [],
      None,
      tt,
      ap (λ (n : ℕ). (n, true) ∷ []) counted,
      inl (refl, refl),
      rw is (ap (λ (l : List Operation). l ++ e ∷ []) same),
    )
goes log prefix e old len part false is =
    let all : log ++ [] ≡ log = append-nil log in
    let counted : counts old (length log) ≡ length (log ++ []) = rw is (ap length (sym all)) in (
      keeps,
      [],
      None,
      tt,
      ap (λ (n : ℕ). (n, true) ∷ []) counted,
      inl (refl, refl),
      rw is tt,
    )

pub appends_moves : (prefix : List Operation) (e : Operation) (old : ℕ) → length prefix ≡ old
    → Moves IsCounted shows_none moves_none 0 (prefix, (no_nib, None)) (counts old)
    (Appends (step 0 old (old + 1) e) (prefix, (no_nib, None)))
appends_moves prefix e old len cells log kept part away =
    let P : List Cell → Type 0 = λ cs. (0 < length cs) × ((cell cs 0).1 ≡ true)
    × Goes IsCounted shows_none moves_none 0 (prefix, (no_nib, None)) (counts old)
    (Appends (step 0 old (old + 1) e) (prefix, (no_nib, None))) cs log in
    subst P (sym kept) (omega arith, refl, goes log prefix e old len part (length log == old) refl)
