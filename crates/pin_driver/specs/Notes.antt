-- What became of the changes.
use Rattle.std.specs.Prelude.{ℕ, List, ◌∷◌, if◌then◌else◌}
use Rattle.pin_driver.specs.Restoring.{restorable_at}
use Rattle.pin_driver.specs.declared.answer.HostAnswer.{HostAnswer}
use Rattle.pin_driver.specs.declared.answer.HostAnswer.TheVariants as answers
use Rattle.pin_driver.specs.declared.note.Note.{Note}
use Rattle.pin_driver.specs.declared.note.Note.TheVariants as notes
use Rattle.pin_driver.specs.declared.question.Question.{Question}
use Rattle.pin_driver.specs.declared.question.Question.TheVariants as questions
use Rattle.pin_driver.specs.declared.task.Task.{Task}

-- a setter's change is settled where its pin is set, or where its directory is gone
abbrev pub setter_note : Question → HostAnswer → Note
setter_note (questions.Set i pin) answers.Done = notes.Set i
setter_note (questions.Set i pin) answers.Gone = notes.Gone i
setter_note (questions.Get i) answers.Gone = notes.Gone i
setter_note _ a = notes.Nothing

-- a restorer's, too, and where it is left alone: its directory has another inode number, or a pin that is not ours
abbrev pub restorer_note : Task → Question → HostAnswer → Note
restorer_note x (questions.Set i pin) answers.Done = notes.Set i
restorer_note x (questions.Set i pin) answers.Gone = notes.Gone i
restorer_note x (questions.Get i) answers.Gone = notes.Gone i
restorer_note x (questions.Get i) (answers.Found found) =
    if restorable_at x i found then notes.Nothing else notes.LeftAlone i
restorer_note x _ a = notes.Nothing

-- with the place of the change that is settled in front
abbrev pub with_place : Note → List ℕ → List ℕ
with_place notes.Nothing places = places
with_place (notes.Set i) places = i ∷ places
with_place (notes.Gone i) places = i ∷ places
with_place (notes.LeftAlone i) places = i ∷ places
