use Rattle.std.proofs.Common.{◌⊎◌, Bool, true, false, List, MatchBool, inl, inr}
use mathlib.Core.List.{IsPrefix}
use Rattle.authority_map.specs.Operations.{Operation}
use Rattle.authority_map.proofs.history.LogPrefix.are_of_one.Goals as goal

either_part : (b : Bool) (xs ys : List Operation) → MatchBool b (IsPrefix xs ys) (IsPrefix ys xs) → IsPrefix xs ys ⊎ IsPrefix ys xs
either_part true xs ys p = inl p
either_part false xs ys p = inr p

pub returns : goal.returns
returns g c = either_part c.is_part_of-part.result c.args.self.now c.args.other.now c.is_part_of-part.ensures
