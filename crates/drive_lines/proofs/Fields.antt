-- The fields of a line, one by one.
use Rattle.std.proofs.Common.{◌≡◌, ◌==◌, ℕ, ◌+◌, ◌-◌, ◌<◌, Bool, true, false, List, [], ◌∷◌, length, take, drop, get_or, sym, subst, arith}
use Rattle.std.specs.List.{position_or_len, slice_split}
use Rattle.std.proofs.lemmas.List.{take_all}
use Rattle.std.proofs.lemmas.Grind.{common_steps}
use Rattle.std.proofs.lemmas.List.Elements.{All-from_get_or}
use Rattle.std.proofs.lemmas.List.Splits.{slice_split_first, slice_split_none}
use Rattle.std.proofs.lemmas.List.Sums.{position_or_len_is}

abbrev is_blank : ℕ → Bool
is_blank c = c == 32

first_blank : (line : List ℕ) (at : ℕ) → at < length line → ((k : ℕ) → k < at → (get_or line k 0 == 32) ≡ false) → (get_or line at 0 == 32) ≡ true →
    position_or_len is_blank line ≡ at
first_blank line at inside none here = position_or_len_is is_blank line at 0 (omega arith) none (λ h. here)

whole_rest : (line : List ℕ) (n : ℕ) → take (length line - n) (drop n line) ≡ drop n line
whole_rest line n = take_all (length line - n) (drop n line) (grind (arith, common_steps))

pub split_here : (line : List ℕ) (at : ℕ) → at < length line → ((k : ℕ) → k < at → (get_or line k 0 == 32) ≡ false) → (get_or line at 0 == 32) ≡ true →
    slice_split (λ c. c == 32) line ≡ take at line ∷ slice_split (λ c. c == 32) (take (length line - (at + 1)) (drop (at + 1) line))
split_here line at inside none here =
    let is = first_blank line at inside none here in
    subst (λ (rest : List ℕ). slice_split is_blank line ≡ take at line ∷ slice_split is_blank rest) (sym (whole_rest line (at + 1)))
    (subst (λ (n : ℕ). slice_split is_blank line ≡ take n line ∷ slice_split is_blank (drop (n + 1) line)) is
    (slice_split_first is_blank line 0 (subst (λ (n : ℕ). n < length line) (sym is) inside)))

pub split_none : (line : List ℕ) → ((k : ℕ) → k < length line → (get_or line k 0 == 32) ≡ false) → slice_split (λ c. c == 32) line ≡ line ∷ []
split_none line none = slice_split_none is_blank line (All-from_get_or (λ x. is_blank x ≡ false) line 0 none)
