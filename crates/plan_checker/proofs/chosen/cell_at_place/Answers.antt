use Rattle.std.proofs.Common.{refl}
use Rattle.plan_checker.specs.Costs.{cell_at_place}
use Rattle.plan_checker.proofs.chosen.cell_at_place.Goals as goal

pub returns : goal.returns
unfolding cell_at_place
returns c = refl
