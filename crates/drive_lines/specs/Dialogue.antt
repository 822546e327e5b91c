-- What is read of a host and written to it.
use Rattle.std.specs.Prelude.{◌≡◌, ◌≢◌, ◌<◌, ◌⊎◌, ⊤, ℕ, Bool, List, [], ◌∷◌, ◌++◌, All, length, Option, Some, None}
use Rattle.std.specs.Io.KnownBytes.{Appends, Consumes, IsAtEnd}
use Rattle.script_engine.specs.Known.{AppendsFront}
use Rattle.pin_driver.specs.Exchanges.{Exchange}
use Rattle.pin_driver.specs.Sessions.{IsRightRun, exchanges_of}
use Rattle.pin_driver.specs.declared.answer.HostAnswer.{HostAnswer}
use Rattle.pin_driver.specs.declared.answer.HostAnswer.TheVariants as answers
use Rattle.pin_driver.specs.declared.question.Question.TheVariants as questions
use Rattle.pin_driver.specs.declared.task.Task.{Task}
use Rattle.drive_lines.specs.HostLines.{Means}
use Rattle.drive_lines.specs.Machines.{any_set, run_asks, run_note}
use Rattle.drive_lines.specs.Questions.{note_text, question_text}
use Rattle.drive_lines.specs.declared.host.TheConstants.{LINE_LIMIT}
use Rattle.drive_lines.specs.declared.host.HostLine.{HostLine}
use Rattle.drive_lines.specs.declared.host.HostLine.TheVariants.{Whole, TooLong, Ended}
use Rattle.drive_lines.specs.declared.run_end.RunEnd.{RunEnd}

-- a reader, and the bytes that it gave so far, which are known only in proofs
pub record HostBytes (R : Type 0) : Type 0 where
  pub reader : R
  pub taken : List ℕ

-- these bytes were read
abbrev pub HasTaken : {R : Type 0} → (R → Option (List ℕ)) → HostBytes R → HostBytes R → List ℕ → Type 0
HasTaken remaining old new bytes =
    Consumes (remaining old.reader) (remaining new.reader) bytes × (new.taken ≡ old.taken ++ bytes)

-- no newline is among these bytes
abbrev pub IsOneLine : List ℕ → Type 0
IsOneLine bytes = All (λ c. c ≢ 10) bytes

-- these bytes are all that there are, where those are known
abbrev pub AreAllKnown : Option (List ℕ) → List ℕ → Type 0
AreAllKnown None bytes = ⊤
AreAllKnown (Some all) bytes = all ≡ bytes

-- the piece is a line that means the answer; or a line that is too long, which is nonsense; or what is left before the
-- end of the input, where nothing answers
abbrev pub GivesAnswer : Option (List ℕ) → List ℕ → List ℕ → HostAnswer → Type 0
GivesAnswer known front piece a =
    ((line : List ℕ) × (piece ≡ line ++ 10 ∷ []) × IsOneLine line × (length line < LINE_LIMIT) × Means line a)
    ⊎ (IsOneLine piece × (length piece ≡ LINE_LIMIT) × (a ≡ answers.Nonsense))
    ⊎ (IsOneLine piece × (length piece < LINE_LIMIT) × AreAllKnown known (front ++ piece) × (a ≡ answers.NoAnswer))

-- the bytes are pieces, each of which gives the answer of an exchange
abbrev pub AreHeard : Option (List ℕ) → List Exchange → List ℕ → Type 0
AreHeard known [] bytes = bytes ≡ []
AreHeard known (e ∷ h) bytes =
    (front : List ℕ) × (piece : List ℕ) × (bytes ≡ front ++ piece) × GivesAnswer known front piece e.answer
    × AreHeard known h front

-- what is written while these are asked and answered
abbrev pub told_text : Bool → Task → List Exchange → List ℕ
told_text way x [] = []
told_text way x (e ∷ h) =
    told_text way x h ++ (question_text x.plan e.asked ++ note_text x.plan (run_note way x e.asked e.answer))

-- what is written of a run up to the question after these answers
abbrev pub run_text : Bool → Task → List HostAnswer → List ℕ
run_text way x more = told_text way x (exchanges_of way x more) ++ question_text x.plan (run_asks way x more)

-- a whole run: these bytes were read, each answer is the one of its piece, and what was written is the text of each
-- question that the machine asks, with what became of the changes, up to the end
pub record IsWholeRun (known : Option (List ℕ)) (way : Bool) (x : Task) (end : RunEnd) (before after : Option (List ℕ))
    (bytes : List ℕ) (more : List HostAnswer) : Type 0 where
  pub heard : AreHeard known (exchanges_of way x more) bytes
  pub told : Appends before after (run_text way x more)
  pub ended : run_asks way x more ≡ questions.End end.ending
  pub was_set : end.was_set ≡ any_set (exchanges_of way x more)
  -- all that was asked is right
  pub right : IsRightRun way x more

-- a run that was cut off: the bytes are those of the answers so far, and more of which no answer was made; and what was
-- written is a beginning of the text of the run so far
pub record IsCutRun (known : Option (List ℕ)) (way : Bool) (x : Task) (before after : Option (List ℕ))
    (bytes : List ℕ) (more : List HostAnswer) : Type 0 where
  pub front : List ℕ
  pub rest : List ℕ
  pub split : bytes ≡ front ++ rest
  pub heard : AreHeard known (exchanges_of way x more) front
  pub told : AppendsFront before after (run_text way x more)
  pub right : IsRightRun way x more

-- these bytes were read for what came next, with this much left after them
abbrev pub IsHostLine : Option (List ℕ) → List ℕ → HostLine → Type 0
IsHostLine left bytes (Whole line) =
    (bytes ≡ line.items ++ 10 ∷ []) × IsOneLine line.items × (length line.items < LINE_LIMIT)
IsHostLine left bytes TooLong = IsOneLine bytes × (length bytes ≡ LINE_LIMIT)
IsHostLine left bytes Ended = IsOneLine bytes × (length bytes < LINE_LIMIT) × IsAtEnd left
