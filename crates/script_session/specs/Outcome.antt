-- What a line of a script does, as a function of the session, where memory suffices.
use Rattle.std.specs.Prelude.{ℕ, Bool, true, List, [], ◌∷◌, Option, Some, None, Result, Ok, Err}
use Rattle.export_protocol.specs.declared.event.Reply.{Reply}
use Rattle.script_engine.specs.Answers.{Answer}
use Rattle.script_commands.specs.Commands as line
use Rattle.script_commands.specs.Commands.{Command, Asked, asked}
use Rattle.script_board.specs.declared.fault.Fault.{Fault}
use Rattle.script_board.specs.declared.fault.Fault.TheVariants.{Syntax, Memory}
use Rattle.script_board.specs.Board.{BoardData}
use Rattle.script_session.specs.Does.{Changes, Meaning, Prints, Reports, Steps, is_function, meaning}
use Rattle.script_session.specs.Printed.{Printed, only_lines}
use Rattle.script_session.specs.Steps.{step_line}
use Rattle.script_session.specs.Session.{SessionData, at_beginning, done_answer, fault_answer, settled}

-- what is printed, and the board after it
abbrev pub Outcome : Type 0
Outcome = Result (Printed × BoardData) Fault

abbrev pub silent : Result BoardData Fault → Outcome
silent (Ok b) = Ok (only_lines [], b)
silent (Err fault) = Err fault

abbrev pub printed : BoardData → Result (List (List ℕ)) Fault → Outcome
printed b (Ok lines) = Ok (only_lines lines, b)
printed b (Err fault) = Err fault

abbrev pub replied : Result (Reply × BoardData) Fault → Outcome
replied (Ok done) = Ok (only_lines (step_line done.0 ∷ []), done.1)
replied (Err fault) = Err fault

-- Nothing is said here of what is no function of the board.
abbrev pub outcome : BoardData → Meaning → Outcome
outcome b (Changes change) = silent (change b)
outcome b (Prints print) = printed b (print b)
outcome b (Reports report) = Ok (only_lines (report b), b)
outcome b (Steps step) = replied (step b)
outcome b _ = Err Memory

abbrev pub outcome_at : ℕ → Option BoardData → Command → Outcome
outcome_at limit None command = silent (at_beginning limit command)
outcome_at limit (Some b) command = outcome b (meaning command)

-- what a line prints, and the session after it
abbrev pub LineOutcome : Type 0
LineOutcome = Result (Printed × SessionData) Fault

abbrev pub held : SessionData → Outcome → LineOutcome
held s (Ok done) = Ok (done.0, record s { board = Some done.1 })
held s (Err fault) = Err fault

abbrev pub line_outcome : SessionData → Asked → LineOutcome
line_outcome s line.Nothing = Ok (only_lines [], s)
line_outcome s line.Syntax = Err Syntax
line_outcome s (line.Asks command) = held s (outcome_at s.limit s.board command)

abbrev pub told : SessionData → ℕ → LineOutcome → Answer × SessionData
told s number (Ok done) = (done_answer number done.0 true, settled done.0 done.1)
told s number (Err fault) = (fault_answer number fault, s)

-- the answer to a line, and the session after it
abbrev pub answer_to : SessionData → ℕ → List ℕ → Answer × SessionData
answer_to s number bytes = told s number (line_outcome s (asked bytes))

-- whether a board determines what is asked for
abbrev pub is_determined : Asked → Bool
is_determined (line.Asks command) = is_function (meaning command)
is_determined _ = true

abbrev pub is_sure : List ℕ → Bool
is_sure bytes = is_determined (asked bytes)
