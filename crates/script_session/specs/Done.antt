-- What is printed for a command that was carried out.
use Rattle.std.specs.Prelude.{List, [], Option, Some, None}
use Rattle.mds_types.specs.declared.plan.Plan.{Plan}
use Rattle.script_board.specs.declared.fault.Fault.{Fault}
use Rattle.script_board.specs.Board.{BoardData}
use Rattle.script_board.specs.Plan.{IsPlanned}
use Rattle.script_session.specs.Plan.{parts_in_force, plan_lines}
use Rattle.script_session.specs.Reply.{IsPrintable, reply_lines}
use Rattle.script_session.specs.declared.done.Done.{Done}
use Rattle.script_session.specs.declared.done.Done.TheVariants.{Served, Planned, Lines, Carried}
use Rattle.script_session.specs.Printed.{Printed, only_lines}

abbrev pub refused_by : Done → List Fault
refused_by (Served refused) = refused.items
refused_by Planned = []
refused_by (Lines reply) = []
refused_by (Carried refused reply) = refused.items

abbrev pub shown : BoardData → Done → Printed
shown b (Served refused) = record { lines = []; refused = refused.items }
shown b Planned = only_lines (plan_lines b (parts_in_force b))
shown b (Lines reply) = only_lines (reply_lines b reply)
shown b (Carried refused reply) = record { lines = reply_lines b reply; refused = refused.items }

-- the board has what is shown of it
abbrev pub IsShowable : BoardData → Done → Type 0
IsShowable b (Served refused) = Unit {0}
IsShowable b Planned = (old : BoardData) × (plan : Plan) × IsPlanned old plan b
IsShowable b (Lines reply) = IsPrintable b reply
IsShowable b (Carried refused reply) = IsPrintable b reply

-- the same where a script may have no board yet
abbrev pub shown_at : Option BoardData → Done → Printed
shown_at None done = record { lines = []; refused = refused_by done }
shown_at (Some b) done = shown b done

abbrev pub IsShowableAt : Option BoardData → Done → Type 0
IsShowableAt None done = Unit {0}
IsShowableAt (Some b) done = IsShowable b done
