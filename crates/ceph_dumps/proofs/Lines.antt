-- The lines of the record of an hour, one by one.
use Rattle.std.proofs.Common.{◌≡◌, ◌∙◌, ◌==◌, ◌<◌, ◌+◌, ◌-◌, ◌++◌, ◌∷◌, ℕ, suc, Bool, false}
use Rattle.std.proofs.Common.{List, [], ap, append-nil, arith, drop, length, refl, slice_index, subst, sym, take}
use Rattle.std.specs.Prelude.{decimal, if◌then◌else◌}
use Rattle.std.proofs.lemmas.Bool.Decides.{nat_tests}
use Rattle.std.proofs.lemmas.List.{flat_map_more, length-take-le, take_more}
use Rattle.ceph_dumps.specs.HourRecord.{IsHeatLine, IsHourLine, line_at, next_number, number_behind, numbers_text}

-- one more number
pub spread_end : (xs : List ℕ) (x : ℕ) → numbers_text (xs ++ x ∷ []) ≡ numbers_text xs ++ next_number (length xs) x
spread_end [] x = append-nil (decimal x)
spread_end (y ∷ ys) x =
    let later : (length (y ∷ ys) == 0) ≡ false = grind (arith, nat_tests) in
    sym (flat_map_more number_behind (decimal y) ys x)
    ∙ sym (ap (λ (first : Bool). numbers_text (y ∷ ys) ++ (if first then decimal x else number_behind x)) later)

pub spread_next : (xs : List ℕ) (at : ℕ) → at < length xs → numbers_text (take at xs) ++ next_number at (slice_index xs at) ≡ numbers_text (take (at + 1) xs)
spread_next xs at inside =
    ap (λ (n : ℕ). numbers_text (take at xs) ++ next_number n (slice_index xs at)) (sym (length-take-le at xs (omega (arith, inside))))
    ∙ (sym (spread_end (take at xs) (slice_index xs at)) ∙ ap numbers_text (sym (take_more xs at 0 inside)))

-- the line of a directory by its number, counted from 1
at_three : (ls : List (List ℕ)) (at : ℕ) → line_at ls (suc (suc (suc at))) ≡ line_at (drop 3 ls) at
at_three [] at = refl
at_three (a ∷ []) at = refl
at_three (a ∷ b ∷ []) at = refl
at_three (a ∷ b ∷ c ∷ ls) at = refl

pub heat_line_at : (ls : List (List ℕ)) (at number : ℕ) → number ≡ at + 4 → IsHourLine (number - 1) (line_at ls (number - 1))
    → IsHeatLine (line_at (drop 3 ls) at)
heat_line_at ls at number is line =
    let place : number - 1 ≡ suc (suc (suc at)) = omega (arith, is) in
    let here : IsHeatLine (line_at ls (suc (suc (suc at)))) = subst (λ (k : ℕ). IsHourLine k (line_at ls k)) place line in
    subst IsHeatLine (at_three ls at) here
