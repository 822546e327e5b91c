use Rattle.std.proofs.Common.{◌≡◌, ◌≤◌}
use Rattle.plan_checker.specs.Costs.{rank_place}
use Rattle.plan_checker.proofs.chosen.place_of.Given as goal

abbrev pub invariant-loop-number : goal.invariant-loop-number
invariant-loop-number l = (l.place ≡ rank_place l.ranks l.number) × (l.place ≤ l.number)
