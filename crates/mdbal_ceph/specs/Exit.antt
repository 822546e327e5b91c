-- What the program has done when it ends: what it printed, and which files it wrote.
use Rattle.std.specs.Prelude.{◌≡◌, ◌⊎◌, ◌++◌, ◌∷◌, ⊤, ℕ, Bool, true, false, List, [], Option, Some, None, Vec, codes}
use Rattle.std.specs.Prelude.{string_bytes}
use Rattle.std.specs.Global.{Global}
use Rattle.std.specs.Option.{option_map}
use Rattle.std.specs.Io.KnownBytes.{Appends}
use Rattle.clap.specs.Words.{Text, fault_of}
use Rattle.command_line.specs.declared.options_error.OptionsError.{OptionsError}
use Rattle.command_line.specs.declared.options_error.OptionsError.TheVariants.{Memory, Refused as Denied}
use Rattle.ceph_dumps.specs.declared.dump_error.DumpError.{DumpError}
use Rattle.ceph_report.specs.Check.{check_status}
use Rattle.mdbal_ceph.specs.CommandLine.{AreSettings, EndsAs, GivesNoSettings, mdbal_ceph}
use Rattle.mdbal_ceph.specs.Dumps.{DumpKind, DumpValue}
use Rattle.mdbal_ceph.specs.Folder.{FileContent}
use Rattle.mdbal_ceph.specs.Messages.{IsSaid}
use Rattle.mdbal_ceph.specs.NotMade.{IsNotMade}
use Rattle.mdbal_ceph.specs.Options.{AreNamed, IsPlanWritten}
use Rattle.mdbal_ceph.specs.PlanChecks.{IsCompared}
use Rattle.mdbal_ceph.specs.WrongValues.{wrong_text}
use Rattle.mdbal_ceph.specs.Writing.{plan_status}
use Rattle.mdbal_ceph.specs.declared.settings.PlanSettings.{PlanSettings}
use Rattle.mdbal_ceph.specs.declared.no_result.NoResult.{NoResult}
use Rattle.mdbal_ceph.specs.declared.no_result.NoResult.TheVariants as why
use Rattle.mdbal_ceph.specs.declared.settings.Refused.{Refused}
use Rattle.mdbal_ceph.specs.declared.settings.Refused.TheVariants.{ManyFolders, Value, Words}
use Rattle.mdbal_ceph.specs.declared.running.Made.{Made}
use Rattle.mdbal_ceph.specs.declared.running.Made.TheVariants.{Checked, Named, Planned}
use Rattle.mdbal_ceph.specs.declared.writing.PinFiles.{PinFiles}
use Rattle.mdbal_ceph.specs.declared.writing.PlanOutput.{PlanOutput}

-- a file that was written: its name and its bytes; or only a front of them, where that failed
pub data FileWrite : Type 0 where
  Whole : List ℕ → List ℕ → FileWrite
  Front : List ℕ → List ℕ → FileWrite

-- where it is known what was written, this comes after it
abbrev pub Writes : Option (List FileWrite) → Option (List FileWrite) → List FileWrite → Type 0
Writes None new files = ⊤
Writes (Some before) None files = ⊥
Writes (Some before) (Some after) files = after ≡ before ++ files

-- a text goes to the file of this name, where both are there
abbrev pub text_files : Option (List ℕ) → Option (Vec ℕ Global) → List FileWrite
text_files (Some name) (Some text) = Whole name text.items ∷ []
text_files _ _ = []

-- the files of `--pins`: the script that sets the pins is the last
abbrev pub pins_files : Option (List ℕ) → Option PinFiles → List FileWrite
pins_files (Some name) (Some pins) =
    Whole (name ++ codes ".own") pins.own.items ∷ Whole (name ++ codes ".plan") pins.plan.items
    ∷ Whole (name ++ codes ".back") pins.back.items ∷ Whole name pins.script.items ∷ []
pins_files _ _ = []

-- the record of now, and the picture
abbrev pub shown_files : PlanSettings → PlanOutput → List FileWrite
shown_files settings output =
    text_files (option_map (λ name. name.now) settings.record_to) output.hour_record
    ++ text_files (option_map (λ name. name.now) settings.svg) output.picture

abbrev pub plan_files : PlanSettings → PlanOutput → List FileWrite
plan_files settings output =
    shown_files settings output
    ++ text_files (option_map (λ name. name.now) settings.script) output.script
    ++ pins_files (option_map (λ name. name.now) settings.pins) output.pins

-- the files that a run writes, in their order: none but those of a plan
abbrev pub files_made : PlanSettings → Made → List FileWrite
files_made settings (Checked found) = []
files_made settings (Named text) = []
files_made settings (Planned output) = plan_files settings output

-- what it prints
abbrev pub text_made : Made → List ℕ
text_made (Checked found) = found.text.items
text_made (Named text) = text.items
text_made (Planned output) = output.text.items

-- 0 where the plan or all pins of the list hold, where paths are printed, and where changes are proposed; 3 where none
-- are, and 4 where the plan or a pin does not hold
abbrev pub status_made : Made → ℕ
status_made (Checked found) = check_status found.all_hold
status_made (Named text) = 0
status_made (Planned output) = plan_status output.is_proposed

-- after these files one of this name isn't: memory was refused, or its device failed, and there may be a front of it
abbrev pub IsFrontLeft : Option (List FileWrite) → Option (List FileWrite) → List FileWrite → List ℕ → Type 0
IsFrontLeft old new whole name = (front : List ℕ) × Writes old new (whole ++ Front name front ∷ [])

abbrev pub IsCutFor : Option (List FileWrite) → Option (List FileWrite) → List FileWrite → List ℕ → NoResult → Type 0
IsCutFor old new whole name why.Memory = Writes old new whole ⊎ IsFrontLeft old new whole name
IsCutFor old new whole name (why.Unwritten told error) = (string_bytes told ≡ name) × IsFrontLeft old new whole name
IsCutFor old new whole name other = ⊥

-- some of these files were written, in their order, but not the last, for this error
pub record IsCutShort (old new : Option (List FileWrite)) (files : List FileWrite) (error : NoResult) : Type 0 where
  pub whole : List FileWrite
  pub name : List ℕ
  pub bytes : List ℕ
  pub more : List FileWrite
  pub all : files ≡ whole ++ Whole name bytes ∷ more
  pub cut : IsCutFor old new whole name error

-- the text can't be printed
abbrev pub IsUnprinted : NoResult → Type 0
IsUnprinted (why.Unprinted error) = ⊤
IsUnprinted other = ⊥

-- what the settings ask for: `--check` before `--paths0`, and otherwise a plan
abbrev pub IsMadeOf : (List ℕ → FileContent → Type 0) → (List ℕ → DumpValue → Type 0) → PlanSettings
    → Option (List ℕ) → Bool → Made → Type 0
IsMadeOf reads says settings (Some name) paths0 (Checked found) = IsCompared reads says settings.folder.now name found
IsMadeOf reads says settings None true (Named text) =
    AreNamed reads says settings.folder.now (option_map (λ name. name.now) settings.own) text.items
IsMadeOf reads says settings None false (Planned output) = IsPlanWritten reads says settings output
IsMadeOf reads says settings list paths0 made = ⊥

abbrev pub IsAskedFor : (List ℕ → FileContent → Type 0) → (List ℕ → DumpValue → Type 0) → PlanSettings → Made → Type 0
IsAskedFor reads says settings made =
    IsMadeOf reads says settings (option_map (λ name. name.now) settings.check) settings.paths0 made

-- the help or the version was printed, and nothing is said; or they could not be, and this is said
abbrev pub IsHelpSaid : Option (List ℕ) → Option (List ℕ) → ℕ → Type 0
IsHelpSaid old new status =
    ((status ≡ 0) × (new ≡ old))
    ⊎ ((status ≡ 1) × ((error : NoResult) × IsUnprinted error × IsSaid old new error))

-- what is said of words that give no settings: nothing of the help and the version, if they are printed, and otherwise
-- why
abbrev pub IsAnswerSaid : Option (List ℕ) → Option (List ℕ) → ℕ → OptionsError → Type 0
IsAnswerSaid old new status Memory = Appends old new (codes "mdbal_ceph: no memory\n")
IsAnswerSaid old new status (Denied error) = (text : List ℕ) × Appends old new text
IsAnswerSaid old new status other = IsHelpSaid old new status

abbrev pub IsRefusalSaid : Option (List ℕ) → Option (List ℕ) → ℕ → Refused → Type 0
IsRefusalSaid old new status (Words error) = IsAnswerSaid old new status error
IsRefusalSaid old new status (Value wrong) =
    Appends old new (codes "mdbal_ceph: " ++ wrong_text wrong ++ codes ": see --help\n")
IsRefusalSaid old new status ManyFolders =
    Appends old new (codes "mdbal_ceph: --check and --paths0 take one DIR: see --help\n")

module _ {W O M : Type 0} (reads : List ℕ → FileContent → Type 0) (says : List ℕ → DumpValue → Type 0)
    (refuses : DumpKind → List ℕ → DumpError → Type 0) (contents : W → Option (List ℕ))
    (written : O → Option (List FileWrite)) (said : M → Option (List ℕ))
    (before after : W) (old new : O) (quiet loud : M) where
  -- what was asked for was made: its files were written, each whole, and then its text was printed; and nothing is said
  -- on standard error
  abbrev pub IsDone : PlanSettings → ℕ → Type 0
  IsDone settings status =
      (made : Made) × IsAskedFor reads says settings made × (status ≡ status_made made)
      × Writes (written old) (written new) (files_made settings made)
      × Appends (contents before) (contents after) (text_made made)
      × (loud ≡ quiet)

  -- nothing was made for this error, and nothing was written or printed; or a file could not be written whole for it,
  -- nothing was written after it, and nothing was printed; or all files were written, and the text could not be printed
  abbrev pub IsFailedFor : PlanSettings → NoResult → Type 0
  IsFailedFor settings error =
      ((new ≡ old) × (after ≡ before) × IsNotMade reads says refuses settings error)
      ⊎ ((made : Made) × IsAskedFor reads says settings made
      × ((IsCutShort (written old) (written new) (files_made settings made) error × (after ≡ before))
      ⊎ (Writes (written old) (written new) (files_made settings made) × IsUnprinted error)))

  -- there is an error, which is what is said on standard error
  abbrev pub IsFailed : PlanSettings → ℕ → Type 0
  IsFailed settings status =
      (status ≡ 1) × ((error : NoResult) × IsFailedFor settings error × IsSaid (said quiet) (said loud) error)

  -- a run by these settings ends with this status
  abbrev pub IsRun : PlanSettings → ℕ → Type 0
  IsRun settings status = IsDone settings status ⊎ IsFailed settings status

  -- the words of a command line give settings, and a run by them ends with this status; or they give none. Then no file
  -- is written, and nothing is printed but the help or the version
  abbrev pub IsExit : List Text → ℕ → Type 0
  IsExit words status =
      ((settings : PlanSettings) × (fault_of mdbal_ceph words ≡ []) × AreSettings words settings
      × IsRun settings status)
      ⊎ ((refused : Refused) × GivesNoSettings words refused × EndsAs refused status × (new ≡ old)
      × (status ≡ 2 → after ≡ before) × IsRefusalSaid (said quiet) (said loud) status refused)
