-- A setter or a restorer, after the answers that it was given.
use Rattle.std.specs.Prelude.{◌≡◌, Bool, true, false, ◌||◌, List, [], ◌∷◌, Option, Some, None}
use Rattle.pin_driver.specs.Exchanges.{Exchange}
use Rattle.pin_driver.specs.Notes.{restorer_note, setter_note}
use Rattle.pin_driver.specs.Restoring.{restorer_run, restorer_start}
use Rattle.pin_driver.specs.Sessions.{restorer_asks, setter_asks}
use Rattle.pin_driver.specs.Setting.{setter_run, setter_start}
use Rattle.pin_driver.specs.declared.answer.HostAnswer.{HostAnswer}
use Rattle.pin_driver.specs.declared.note.Note.{Note}
use Rattle.pin_driver.specs.declared.question.Ending.{Ending}
use Rattle.pin_driver.specs.declared.question.Question.{Question}
use Rattle.pin_driver.specs.declared.question.Question.TheVariants as questions
use Rattle.pin_driver.specs.declared.task.Task.{Task}
use Rattle.drive_lines.specs.declared.machine.PinMachine.{PinMachine}
use Rattle.drive_lines.specs.declared.machine.PinMachine.TheVariants.{Setter, Restorer}

-- what is asked after these answers: on the way back by a restorer, else by a setter
abbrev pub run_asks : Bool → Task → List HostAnswer → Question
run_asks true x more = restorer_asks x more
run_asks false x more = setter_asks x more

-- what an answer to a question says of a change
abbrev pub run_note : Bool → Task → Question → HostAnswer → Note
run_note true x q a = restorer_note x q a
run_note false x q a = setter_note q a

-- the machine is the one of the task after these answers
abbrev pub IsAfter : Bool → Task → List HostAnswer → PinMachine → Type 0
IsAfter false x more (Setter s) = (s.task ≡ x) × (s.state ≡ (setter_run x (setter_start x) [] more).0)
IsAfter true x more (Restorer s) = (s.task ≡ x) × (s.state ≡ (restorer_run x (restorer_start x) [] more).0)
IsAfter false x more (Restorer s) = ⊥
IsAfter true x more (Setter s) = ⊥

-- what a machine is to do
abbrev pub machine_task : PinMachine → Task
machine_task (Setter s) = s.task
machine_task (Restorer s) = s.task

-- the question is to set a pin
abbrev pub is_set_question : Question → Bool
is_set_question (questions.Set place pin) = true
is_set_question _ = false

-- how a run ended, where nothing more is asked
abbrev pub ending_of : Question → Option Ending
ending_of (questions.End ending) = Some ending
ending_of _ = None

-- it was asked to set a pin
abbrev pub any_set : List Exchange → Bool
any_set [] = false
any_set (e ∷ h) = any_set h || is_set_question e.asked
