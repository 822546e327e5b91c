use Rattle.std.proofs.Common.{◌≡◌, ◌+◌, ◌<◌, ℕ, Bool, true, false, ltb, List, get_or, sym, arith, rules}
use Rattle.std.proofs.lemmas.List.Sorted.{answers_always}
use Rattle.std.specs.List.{IsAllAdjacentAnswer}
use Rattle.std.specs.List.Sorted.{IsStrictlyIncreasing}
use Rattle.std.specs.Prelude.{IsTrue}
use Rattle.authority_map.proofs.rewriting.is_rising.Goals as goal

below : (a b : ℕ) → ltb a b ≡ true → a < b
below a b e = grind arith

-- what the walk over the neighbours answers
rising : (xs : List ℕ) (r : Bool) → IsAllAdjacentAnswer (λ x y b. b ≡ ltb x y) xs r → IsTrue r → IsStrictlyIncreasing xs
rising xs true h = λ t k l. below (get_or xs k 0) (get_or xs (k + 1) 0) (sym (h k 0 l))
rising xs false h = λ t. absurd (cc)

pub returns : goal.returns
returns c = rising c.args.dirs.now c.is_sorted_by.result (c.is_sorted_by.ensures.cases ltb (answers_always _ _ _ (λ f a r f' k. search rules)))
