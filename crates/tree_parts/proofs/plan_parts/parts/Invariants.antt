use Rattle.std.proofs.Common.{◌≡◌, map}
use Rattle.std.specs.Prelude.{filter}
use Rattle.mds_types.specs.Certificate.{plan_label}
use Rattle.dir_pins.specs.Pins.{below}
use Rattle.tree_parts.specs.PlanParts.{is_part_top, part_of_top}
use Rattle.tree_parts.proofs.plan_parts.parts.Given as goal

-- the parts of the tops so far
abbrev pub invariant-loop-i : goal.invariant-loop-i
invariant-loop-i l = l.parts.items ≡ map (part_of_top l.problem.rows l.dirs l.plan) (filter (is_part_top l.problem.rows (plan_label l.plan)) (below l.i))
