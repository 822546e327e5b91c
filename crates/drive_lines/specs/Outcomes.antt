-- How a run of a plan comes out.
use Rattle.std.specs.Prelude.{◌≡◌, ◌≢◌, ◌⊎◌, ℕ, Bool, true, false, List, [], ◌++◌, All, codes, length, Option, Some}
use Rattle.std.specs.Prelude.{Result, Ok, Err}
use Rattle.std.specs.Io.KnownBytes.{IsAtEnd}
use Rattle.std.specs.List.{flat_map}
use Rattle.pin_driver.specs.Driven.{IsMark}
use Rattle.pin_driver.specs.PinPlan.{PlanParts}
use Rattle.pin_driver.specs.StoredText.{FitsText, last_text, stored_text}
use Rattle.pin_driver.specs.declared.answer.HostAnswer.{HostAnswer}
use Rattle.pin_driver.specs.declared.question.Ending.{Ending}
use Rattle.pin_driver.specs.declared.question.Ending.TheVariants.{Done, Stopped}
use Rattle.pin_driver.specs.declared.question.Mark.{Mark}
use Rattle.pin_driver.specs.declared.task.Pace.{Pace}
use Rattle.pin_driver.specs.declared.task.Task.{Task}
use Rattle.clap.specs.Words.{fault_of}
use Rattle.command_line.specs.Outcome.{EndsWith}
use Rattle.drive_lines.specs.Dialogue.{HasTaken, HostBytes, IsCutRun, IsOneLine, IsWholeRun}
use Rattle.drive_lines.specs.Settings.{IsRefusedBy, asked_settings, mdbal_drive}
use Rattle.drive_lines.specs.declared.host.TheConstants.{LINE_LIMIT}
use Rattle.drive_lines.specs.declared.run_end.RunEnd.{RunEnd}
use Rattle.drive_lines.specs.declared.plan_run_error.PlanRunError.{PlanRunError}
use Rattle.drive_lines.specs.declared.plan_run_error.PlanRunError.TheVariants.{Text, Unended, Cut}
use Rattle.drive_lines.specs.declared.settings.DriveSettings.{DriveSettings}
use Rattle.drive_lines.specs.declared.settings.SettingsError.{SettingsError}
use Rattle.drive_lines.specs.declared.settings.SettingsError.TheVariants.{Words, Value}

-- the line that ends a text
abbrev pub dot_line : List ℕ
dot_line = last_text (codes ".")

-- the text is lines, none of which is only a dot
abbrev pub IsBeforeDot : List ℕ → Type 0
IsBeforeDot text =
    (lines : List (List ℕ)) × (text ≡ flat_map last_text lines)
    × All (λ line. IsOneLine line × (line ≢ codes ".")) lines

-- what was read has no line with only a dot, and then the input ends, or a line is too long
abbrev pub IsNoDot : {R : Type 0} → (R → Option (List ℕ)) → HostBytes R → HostBytes R → Type 0
IsNoDot remaining old new =
    (text : List ℕ) × (tail : List ℕ) × HasTaken remaining old new (text ++ tail) × IsBeforeDot text × IsOneLine tail
    × (IsAtEnd (remaining new.reader) ⊎ (length tail ≡ LINE_LIMIT))

-- the text is the stored text of no plan
abbrev pub IsNoPlan : List ℕ → Type 0
IsNoPlan text =
    (plan : PlanParts) (mark : Mark) → FitsText plan mark → IsMark mark (length plan.changes)
    → text ≢ stored_text plan mark

-- the task of a plan that is this far
abbrev pub task_with : PlanParts → Mark → Pace → Task
task_with plan mark pace = record { plan = plan; first = mark; pace = pace }

module _ {R W : Type 0} (remaining : R → Option (List ℕ)) (contents : W → Option (List ℕ)) (old new : HostBytes R)
    (before after : W) (way : Bool) (pace : Pace) where
  -- the text of a plan was read, and then the plan was driven to an end
  abbrev pub IsPlanRun : RunEnd → Type 0
  IsPlanRun end =
      (plan : PlanParts) × (mark : Mark) × (mid : HostBytes R) × (bytes : List ℕ) × (more : List HostAnswer)
      × HasTaken remaining old mid (stored_text plan mark ++ dot_line) × HasTaken remaining mid new bytes
      × IsWholeRun (remaining mid.reader) way (task_with plan mark pace) end (contents before) (contents after) bytes
      more

  -- the text of a plan was read, and then the run was cut off
  abbrev pub IsPlanCut : Type 0
  IsPlanCut =
      (plan : PlanParts) × (mark : Mark) × (mid : HostBytes R) × (bytes : List ℕ) × (more : List HostAnswer)
      × HasTaken remaining old mid (stored_text plan mark ++ dot_line) × HasTaken remaining mid new bytes
      × IsCutRun (remaining mid.reader) way (task_with plan mark pace) (contents before) (contents after) bytes more

  -- a text that is none of a plan is refused, and nothing is written; so it is where no text ends. Where a device
  -- fails, nothing is written, or a beginning of a run
  abbrev pub IsRunError : PlanRunError → Type 0
  IsRunError (Text error) =
      (after ≡ before)
      × ((text : List ℕ) × HasTaken remaining old new (text ++ dot_line) × IsBeforeDot text × IsNoPlan text)
  IsRunError Unended = (after ≡ before) × IsNoDot remaining old new
  IsRunError (Cut error) = (after ≡ before) ⊎ IsPlanCut

  -- what comes out of a run
  abbrev pub IsRunResult : Result RunEnd PlanRunError → Type 0
  IsRunResult (Ok end) = IsPlanRun end
  IsRunResult (Err error) = IsRunError error

-- 0 where all is done; where it stopped 4 if it was asked to set a pin, else 3
abbrev pub end_status : Ending → Bool → ℕ
end_status Done was_set = 0
end_status (Stopped trouble) true = 4
end_status (Stopped trouble) false = 3

-- the exit status of a run
abbrev pub drive_status : Result RunEnd PlanRunError → ℕ
drive_status (Ok end) = end_status end.ending end.was_set
drive_status (Err error) = 1

-- a run by these settings ended with this status
abbrev pub IsRunExit : {R W : Type 0} → (R → Option (List ℕ)) → (W → Option (List ℕ)) → HostBytes R → HostBytes R → W
    → W → DriveSettings → ℕ → Type 0
IsRunExit remaining contents old new before after found status =
    (outcome : Result RunEnd PlanRunError)
    × IsRunResult remaining contents old new before after found.is_back found.pace outcome
    × (status ≡ drive_status outcome)

-- the words give no settings: the help or the version was written; or nothing was, and the status is 2
abbrev pub IsRefusedExit : {W : Type 0} → W → W → SettingsError → ℕ → Type 0
IsRefusedExit before after (Words error) status = EndsWith error status × (status ≡ 2 → after ≡ before)
IsRefusedExit before after Value status = (status ≡ 2) × (after ≡ before)

-- the words of a command line give settings, and a run by them ended with this status; or they give none, and nothing
-- was read
abbrev pub IsDriveExit : {R W : Type 0} → (R → Option (List ℕ)) → (W → Option (List ℕ)) → HostBytes R → HostBytes R → W
    → W → List (List ℕ) → ℕ → Type 0
IsDriveExit remaining contents old new before after words status =
    ((found : DriveSettings) × (fault_of mdbal_drive words ≡ []) × (asked_settings words ≡ Some found)
    × IsRunExit remaining contents old new before after found status)
    ⊎ ((error : SettingsError) × IsRefusedBy words error × IsRefusedExit before after error status × (new ≡ old))
