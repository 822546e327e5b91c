-- The lines that a reply prints.
use Rattle.std.specs.Prelude.{◌≡◌, ◌<◌, ℕ, true, List, [], ◌∷◌, length, map, All, Some}
use Rattle.mds_types.specs.declared.plan.Plan.{Plan as ThePlan}
use Rattle.dirtree.specs.Tree.{is_there}
use Rattle.mds_board.specs.InForce.{plan_in_force}
use Rattle.script_board.specs.Board.{BoardData}
use Rattle.script_board.specs.Cost.{AreThere}
use Rattle.script_board.specs.Stat.{directories}
use Rattle.script_session.specs.declared.reply.CommandReply.{CommandReply}
use Rattle.script_session.specs.declared.reply.CommandReply.TheVariants.{Nothing, Cost, Plan, Move, Stat, Step}
use Rattle.script_session.specs.declared.reply.CommandReply.TheVariants.{Export, Journal}
use Rattle.script_session.specs.Cost.{cost_lines}
use Rattle.script_session.specs.Looks.{entry_line, fact_line}
use Rattle.script_session.specs.Move.{move_lines}
use Rattle.script_session.specs.Plan.{plan_lines}
use Rattle.script_session.specs.Stat.{cluster_line, dir_line}
use Rattle.script_session.specs.Steps.{step_line}

abbrev pub reply_lines : BoardData → CommandReply → List (List ℕ)
reply_lines b Nothing = []
reply_lines b (Cost parts) = cost_lines b parts.items
reply_lines b (Plan parts) = plan_lines b parts.items
reply_lines b (Move orders outcomes) = move_lines b orders.items outcomes.items
reply_lines b (Stat dirs) = cluster_line b ∷ map (dir_line b) dirs.items
reply_lines b (Step reply) = step_line reply ∷ []
reply_lines b (Export facts) = map (fact_line b) facts.items
reply_lines b (Journal rank entries) = map (entry_line b rank) entries.items

-- the directories of the reply are there, a plan is in force if the reply shows one, and each order has an outcome
abbrev pub IsPrintable : BoardData → CommandReply → Type 0
IsPrintable b Nothing = Unit {0}
IsPrintable b (Cost parts) = AreThere b parts.items
IsPrintable b (Plan parts) =
    ((plan : ThePlan) × (plan_in_force b.world ≡ Some plan))
    × All (λ part. is_there b.world.state.directories.entries part.top ≡ true) parts.items
IsPrintable b (Move orders outcomes) = length outcomes.items ≡ length orders.items
IsPrintable b (Stat dirs) = (dirs.items ≡ directories b.world.state.directories.entries)
    × All (λ dir. is_there b.world.state.directories.entries dir ≡ true) dirs.items
    × All (λ dir. dir < b.world.state.directories.limit) dirs.items
IsPrintable b (Step reply) = Unit {0}
IsPrintable b (Export facts) = Unit {0}
IsPrintable b (Journal rank entries) = Unit {0}
