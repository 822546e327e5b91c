-- The lines that are written: questions, and what became of changes.
use Rattle.std.specs.Prelude.{ℕ, List, [], ◌++◌, codes, decimal, slice_get, Option, Some, None}
use Rattle.pin_driver.specs.PinPlan.{PlanParts}
use Rattle.pin_driver.specs.StoredText.{field_text, kept_bytes, last_text, stored_text}
use Rattle.pin_driver.specs.declared.note.Note.{Note}
use Rattle.pin_driver.specs.declared.note.Note.TheVariants as notes
use Rattle.pin_driver.specs.declared.plan.PlannedChange.{PlannedChange}
use Rattle.pin_driver.specs.declared.question.Ending.{Ending}
use Rattle.pin_driver.specs.declared.question.Ending.TheVariants.{Done, Stopped}
use Rattle.pin_driver.specs.declared.question.Question.{Question}
use Rattle.pin_driver.specs.declared.question.Question.TheVariants as questions
use Rattle.pin_driver.specs.declared.question.Trouble.{Trouble}
use Rattle.pin_driver.specs.declared.question.Trouble.TheVariants as troubles

-- the path of a change, as the stored text writes it
abbrev pub change_path : Option PlannedChange → List ℕ
change_path None = []
change_path (Some change) = kept_bytes change.path

-- the path of the change at a place, to the end of the line
abbrev pub path_text : PlanParts → ℕ → List ℕ
path_text plan place = last_text (change_path (slice_get plan.changes place))

-- a pin, or -1 where there is none
abbrev pub pin_word : Option ℕ → List ℕ
pin_word None = codes "-1"
pin_word (Some rank) = decimal rank

-- the word for why a driver stops
abbrev pub trouble_word : Trouble → List ℕ
trouble_word troubles.NoAnswer = codes "no-answer"
trouble_word troubles.Refused = codes "refused"
trouble_word troubles.Nonsense = codes "nonsense"
trouble_word troubles.RanksChanged = codes "ranks-changed"
trouble_word troubles.NewWarning = codes "new-warning"
trouble_word troubles.OtherDirectory = codes "other-directory"
trouble_word troubles.PinChanged = codes "pin-changed"
trouble_word troubles.TooSlow = codes "too-slow"

-- how a driver ended, to the end of the line
abbrev pub ending_text : Ending → List ℕ
ending_text Done = last_text (codes "done")
ending_text (Stopped trouble) = field_text (codes "stopped") ++ last_text (trouble_word trouble)

-- the line of a question; that to store a text is followed by the text and a line that is a dot
abbrev pub question_text : PlanParts → Question → List ℕ
question_text plan (questions.Wait seconds) = field_text (codes "wait") ++ last_text (decimal seconds)
question_text plan questions.Cluster = last_text (codes "cluster")
question_text plan (questions.Store mark) =
    last_text (codes "store") ++ stored_text plan mark ++ last_text (codes ".")
question_text plan (questions.Get place) = field_text (codes "get") ++ path_text plan place
question_text plan (questions.Set place pin) =
    field_text (codes "set") ++ field_text (pin_word pin) ++ path_text plan place
question_text plan questions.Roots = last_text (codes "roots")
question_text plan (questions.End ending) = field_text (codes "end") ++ ending_text ending

-- the line that says what became of a change, if an answer settled one
abbrev pub note_text : PlanParts → Note → List ℕ
note_text plan notes.Nothing = []
note_text plan (notes.Set place) = field_text (codes "note") ++ field_text (codes "set") ++ path_text plan place
note_text plan (notes.Gone place) = field_text (codes "note") ++ field_text (codes "gone") ++ path_text plan place
note_text plan (notes.LeftAlone place) = field_text (codes "note") ++ field_text (codes "left") ++ path_text plan place
