-- What commands mean: what they do to a board, and why a board refuses them.
use Rattle.std.specs.Prelude.{◌≡◌, ℕ, Bool, true, false, List, [], ◌∷◌, ◌⊎◌, Option, Some, None, Result, Ok, Err}
use Rattle.tree_parts.specs.declared.division.Part.{Part}
use Rattle.export_protocol.specs.declared.event.Reply.{Reply}
use Rattle.mds_types.specs.declared.order.Order.{Order}
use Rattle.mds_types.specs.declared.plan.Plan.{Plan}
use Rattle.phased_board.specs.declared.outcome.Outcome.{Outcome}
use Rattle.script_commands.specs.Commands as line
use Rattle.script_commands.specs.Commands.{Command}
use Rattle.script_board.specs.declared.fault.Fault.{Fault}
use Rattle.script_board.specs.declared.fault.Fault.TheVariants.{RanksAgain, Memory}
use Rattle.script_board.specs.Board.{BoardData}
use Rattle.script_board.specs.Commands.{fail, load, make_dir, remove_dir, restart, set_mask, set_pin, set_weights}
use Rattle.script_board.specs.Commands.{stop, tick}
use Rattle.script_board.specs.Cost.{cost}
use Rattle.script_board.specs.Looks.{export_facts, journal_entries}
use Rattle.script_board.specs.Move.{IsMoved}
use Rattle.script_board.specs.Plan.{IsPlanned, plan_due}
use Rattle.script_board.specs.Serve.{IsGone, is_ample}
use Rattle.script_board.specs.Steps.{begin_at, start, take_step}
use Rattle.script_board.specs.Traffic.{IsTraffic}
use Rattle.script_session.specs.Cost.{cost_lines}
use Rattle.script_session.specs.Looks.{entry_line, fact_line, listed}
use Rattle.script_session.specs.Move.{move_lines}
use Rattle.script_session.specs.Plan.{parts_in_force, plan_lines}
use Rattle.script_session.specs.Stat.{stat_lines}
use Rattle.script_session.specs.Steps.{event_of, step_line}
use Rattle.script_session.specs.Printed.{Printed, only_lines}

abbrev pub failure : {A : Type 0} → Result A Fault → Option Fault
failure (Ok x) = None
failure (Err fault) = Some fault

-- A command changes the board and prints nothing, or prints lines about it and leaves it as it is, or is a step of
-- exports or requests, to which the board replies: then a function says what it does. Or the waiting requests are
-- served, a plan is made, directories are moved, or requests are served while directories are moved: several things may
-- come of that.
pub data Meaning : Type 0 where
  Changes : (BoardData → Result BoardData Fault) → Meaning
  Prints : (BoardData → Result (List (List ℕ)) Fault) → Meaning
  Reports : (BoardData → List (List ℕ)) → Meaning
  Steps : (BoardData → Result (Reply × BoardData) Fault) → Meaning
  Serves : Meaning
  Plans : Meaning
  Moves : Meaning
  Traffics : Meaning

-- the lines about these parts
abbrev pub costed : BoardData → Result (List Part) Fault → Result (List (List ℕ)) Fault
costed b (Ok parts) = Ok (cost_lines b parts)
costed b (Err fault) = Err fault

-- what a command means on a board
abbrev pub meaning : Command → Meaning
meaning (line.Ranks n) = Changes (λ b. Err RanksAgain)
meaning (line.Mask text) = Changes (λ b. set_mask b text)
meaning (line.MakeDir path inodes) = Changes (λ b. make_dir b path inodes)
meaning (line.RemoveDir path) = Changes (λ b. remove_dir b path)
meaning (line.Pin path value) = Changes (λ b. set_pin b path value)
meaning (line.Load path hits kind) = Changes (λ b. load b path hits kind)
meaning (line.Weight read write) = Changes (λ b. set_weights b read write)
meaning line.Go = Serves
meaning line.Tick = Changes tick
meaning (line.Cost paths) = Prints (λ b. costed b (cost b paths))
meaning line.Plan = Plans
meaning line.Move = Moves
meaning line.Traffic = Traffics
meaning (line.Stop rank) = Changes (λ b. stop b rank)
meaning (line.Restart rank) = Changes (λ b. restart b rank)
meaning (line.Fail rank round) = Changes (λ b. fail b rank round)
meaning line.Stat = Reports stat_lines
meaning (line.Start from to paths) = Steps (λ b. start b from to paths)
meaning (line.Begin rank path) = Steps (λ b. begin_at b rank path)
meaning (line.Step step) = Steps (λ b. take_step b (event_of step))
meaning (line.Export x) = Prints (λ b. listed (fact_line b) (export_facts b x))
meaning (line.Journal rank) = Prints (λ b. listed (entry_line b rank) (journal_entries b rank))

-- why a board refuses what is meant
abbrev pub cause : BoardData → Meaning → Option Fault
cause b (Changes change) = failure (change b)
cause b (Prints print) = failure (print b)
cause b (Reports report) = None
cause b (Steps step) = failure (step b)
cause b Serves = None
cause b Plans = failure (plan_due b)
cause b Moves = None
cause b Traffics = None

-- whether the board determines what is printed and done
abbrev pub is_function : Meaning → Bool
is_function (Changes change) = true
is_function (Prints print) = true
is_function (Reports report) = true
is_function (Steps step) = true
is_function _ = false

-- whether threads of the ranks do it
abbrev pub is_by_threads : Meaning → Bool
is_by_threads Serves = true
is_by_threads Moves = true
is_by_threads Traffics = true
is_by_threads _ = false

-- the fault is the one that applies, or `Memory` where none does
abbrev pub IsCaused : Option Fault → Fault → Type 0
IsCaused stands fault = (stands ≡ Some fault) ⊎ ((fault ≡ Memory) × (stands ≡ None))

-- a change that prints nothing
abbrev pub IsQuiet : Result BoardData Fault → Printed → Bool → BoardData → Type 0
IsQuiet changed p ample new = (changed ≡ Ok new) × (p ≡ only_lines []) × (ample ≡ true)

-- The board does what is meant: this is printed, and this is the board after it. Ample says whether memory sufficed
-- for all that it does; only `go`, `move` and `traffic` can go on without, and then report it.
abbrev pub Does : BoardData → Meaning → Printed → Bool → BoardData → Type 0
Does b (Changes change) p ample new = IsQuiet (change b) p ample new
Does b (Prints print) p ample new =
    (lines : List (List ℕ)) × (print b ≡ Ok lines) × (p ≡ only_lines lines) × (ample ≡ true) × (new ≡ b)
Does b (Reports report) p ample new = (p ≡ only_lines (report b)) × (ample ≡ true) × (new ≡ b)
Does b (Steps step) p ample new =
    (reply : Reply) × (step b ≡ Ok (reply, new)) × (p ≡ only_lines (step_line reply ∷ [])) × (ample ≡ true)
Does b Serves p ample new = IsGone b p.refused new × (p.lines ≡ []) × (ample ≡ is_ample p.refused)
Does b Plans p ample new =
    (plan : Plan) × IsPlanned b plan new × (p ≡ only_lines (plan_lines new (parts_in_force new))) × (ample ≡ true)
Does b Moves p ample new =
    (orders : List Order) × (outcomes : List Outcome) × IsMoved b p.refused orders outcomes new × (p.lines
    ≡ move_lines new orders outcomes) × (ample ≡ is_ample p.refused)
Does b Traffics p ample new =
    (orders : List Order) × (outcomes : List Outcome) × IsTraffic b p.refused orders outcomes new × (p.lines
    ≡ move_lines new orders outcomes) × (ample ≡ is_ample p.refused)
