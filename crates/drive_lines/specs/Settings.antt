-- The command line of `mdbal_drive`, as a command of `clap`, and what its words ask for.
use Rattle.std.specs.Prelude.{◌≡◌, ℕ, Bool, true, false, List, [], Option, Some, None, codes, if◌then◌else◌}
use Rattle.std.specs.Prelude.{option_and_then}
use Rattle.std.specs.Str.{bytes_eq}
use Rattle.clap.specs.Words.{App, Row, Rule, Text, fault_of, first_of, matches_of, new_app, new_rule, with_rule}
use Rattle.command_line.specs.Outcome.{Explains}
use Rattle.drive_lines.specs.HostLines.{answered_number}
use Rattle.drive_lines.specs.declared.settings.DriveSettings.{DriveSettings}
use Rattle.drive_lines.specs.declared.settings.SettingsError.{SettingsError}
use Rattle.drive_lines.specs.declared.settings.SettingsError.TheVariants.{Words, Value}

infixl 10 ◌>>=◌
abbrev ◌>>=◌ : {A B : Type 0} → Option A → (A → Option B) → Option B
o >>= f = option_and_then f o

-- `WAY`, which has to be there
abbrev pub way_rule : Rule
way_rule = record (new_rule (codes "way")) { value_names = 1; required = true }

-- an option with a number
abbrev pub number_rule : Text → Rule
number_rule name = record (new_rule name) { long = Some name; value_names = 1 }

-- the program, which has a version
abbrev pub drive_app : App
drive_app = let app = new_app (codes "mdbal_drive") in record app { top = record app.top { has_version = true } }

-- `mdbal_drive WAY [--batch-inodes N] [--poll N] [--longest-wait N]`
abbrev pub mdbal_drive : App
mdbal_drive =
    with_rule (with_rule (with_rule (with_rule drive_app way_rule) (number_rule (codes "batch-inodes")))
    (number_rule (codes "poll"))) (number_rule (codes "longest-wait"))

-- whether the pins are restored
abbrev pub way_of : Option Text → Option Bool
way_of None = None
way_of (Some word) =
    if bytes_eq word (codes "set") then Some false
    else if bytes_eq word (codes "restore") then Some true
    else None

-- the number of an option, or this one where the option isn't there
abbrev pub number_or : ℕ → Option Text → Option ℕ
number_or other None = Some other
number_or other (Some text) = answered_number text

-- the settings that these values give, if each has its form
abbrev pub settings_of : Option Text → Option Text → Option Text → Option Text → Option DriveSettings
settings_of way batch poll longest = do
  is_back ← way_of way
  batch_inodes ← number_or 100000 batch
  poll_seconds ← number_or 5 poll
  longest_wait ← number_or 600 longest
  Some (record {
    is_back = is_back;
    pace = record { batch_inodes = batch_inodes; poll_seconds = poll_seconds; longest_wait = longest_wait };
  })

-- the settings that were found in the words
abbrev pub found_settings : List Row → Option DriveSettings
found_settings rows =
    settings_of (first_of (codes "way") rows) (first_of (codes "batch-inodes") rows) (first_of (codes "poll") rows)
    (first_of (codes "longest-wait") rows)

-- the settings of the words of a command line
abbrev pub asked_settings : List Text → Option DriveSettings
asked_settings words = found_settings (matches_of mdbal_drive words)

-- why the words give no settings: `clap` refuses them, or they ask for the help or the version; or a value has another
-- form
abbrev pub IsRefusedBy : List Text → SettingsError → Type 0
IsRefusedBy words (Words error) = Explains (fault_of mdbal_drive words) error
IsRefusedBy words Value = (fault_of mdbal_drive words ≡ []) × (asked_settings words ≡ None)
