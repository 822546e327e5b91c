use Rattle.std.proofs.Common.{arith}
use Rattle.std.proofs.lemmas.Int.{ints}
use Rattle.plan_checker.proofs.prices.is_within.Goals as goal

pub returns : goal.returns
returns c = grind (arith, ints)
