-- The command line of `mdbal_ceph`, as a command of `clap`.
use Rattle.std.specs.Prelude.{◌≡◌, ◌⊎◌, ℕ, List, [], ◌∷◌, Some, None, codes, Option, true, is_some}
use Rattle.std.specs.Prelude.{if◌then◌else◌}
use Rattle.std.specs.List.{fold}
use Rattle.std.specs.Option.{option_map}
use Rattle.clap.specs.Words.{App, Row, Rule, Text, fault_of, matches_of, new_app, new_rule, with_rule}
use Rattle.clap.specs.declared.builder.action.ArgAction.TheVariants.{Append, SetTrue}
use Rattle.command_line.specs.Outcome.{Explains}
use Rattle.command_line.specs.declared.options_error.OptionsError.{OptionsError}
use Rattle.command_line.specs.declared.options_error.OptionsError.TheVariants.{Help, Memory, Refused as Denied, Version}
use Rattle.mdbal_ceph.specs.declared.arguments.PlanOption.{PlanOption}
use Rattle.mdbal_ceph.specs.declared.settings.PlanSettings.{PlanSettings}
use Rattle.mdbal_ceph.specs.declared.settings.Refused.{Refused}
use Rattle.mdbal_ceph.specs.declared.settings.Refused.TheVariants.{ManyFolders, Value, Words}
use Rattle.mdbal_ceph.specs.Options.{AreRead, FitTogether}
use Rattle.mdbal_ceph.specs.WrongValues.{AreRight, IsFirstWrong, value_order}

-- `DIR ..`, of which one at least has to be there
abbrev pub folder_rule : Rule
folder_rule = record (new_rule (codes "folder")) { value_names = 1; required = true; action = Some Append }

-- an option with no value
abbrev pub flag_rule : Text → Rule
flag_rule name = record (new_rule name) { long = Some name; action = Some SetTrue }

-- an option with a value, and the value where it isn't there, if that has one
abbrev pub value_rule : Text → List Text → Rule
value_rule name defaults = record (new_rule name) { long = Some name; value_names = 1; defaults = defaults }

abbrev pub option_rules : List Rule
option_rules =
    value_rule (codes "parts") (codes "auto" ∷ []) ∷ value_rule (codes "most-pins") (codes "10000" ∷ [])
    ∷ value_rule (codes "mask") [] ∷ value_rule (codes "own") [] ∷ value_rule (codes "check") []
    ∷ value_rule (codes "least-gain") (codes "5" ∷ []) ∷ value_rule (codes "least-heat") []
    ∷ value_rule (codes "least-by-inodes") (codes "0" ∷ []) ∷ value_rule (codes "keep") (codes "5" ∷ [])
    ∷ value_rule (codes "most-inodes") [] ∷ value_rule (codes "leave") []
    ∷ value_rule (codes "hours") (codes "24" ∷ []) ∷ value_rule (codes "made") (codes "0" ∷ [])
    ∷ value_rule (codes "record") [] ∷ value_rule (codes "mount") (codes "/mnt/cephfs" ∷ [])
    ∷ value_rule (codes "pins") [] ∷ flag_rule (codes "subvolumes") ∷ value_rule (codes "svg") []
    ∷ value_rule (codes "script") []
    ∷ flag_rule (codes "json") ∷ flag_rule (codes "paths0") ∷ []

abbrev pub defaults_of : Option Text → List Text
defaults_of None = []
defaults_of (Some text) = text ∷ []

abbrev pub option_rule : PlanOption → Rule
option_rule option =
    if is_some option.value
    then value_rule option.name.now (defaults_of (option_map (λ text. text.now) option.default))
    else flag_rule option.name.now

abbrev pub with_options : App → List PlanOption → App
with_options app options = fold (λ one option. with_rule one (option_rule option)) app options

-- the program, which has a version
abbrev pub plan_command : App
plan_command = let app = new_app (codes "mdbal_ceph") in record app { top = record app.top { has_version = true } }

-- `mdbal_ceph [options] DIR ..`
abbrev pub mdbal_ceph : App
mdbal_ceph = fold with_rule (with_rule plan_command folder_rule) option_rules

-- the settings are those of the words of the command line, each value is one that its option takes, and they fit
-- together
abbrev pub AreSettings : List Text → PlanSettings → Type 0
AreSettings words settings =
    AreRead (matches_of mdbal_ceph words) settings × FitTogether settings × AreRight (matches_of mdbal_ceph words)

-- each value is one that its option takes, and the settings that they give don't fit together
pub record DoNotFit (rows : List Row) : Type 0 where
  pub right : AreRight rows
  pub settings : PlanSettings
  pub read : AreRead rows settings
  pub unfit : FitTogether settings → ⊥

-- why what `clap` found gives no settings: this value is the first that is wrong; or there are earlier hours where only
-- one folder is looked at
abbrev pub GivesNone : List Row → Refused → Type 0
GivesNone rows (Words error) = ⊥
GivesNone rows (Value wrong) = IsFirstWrong rows value_order wrong
GivesNone rows ManyFolders = DoNotFit rows

-- why the words give none: `clap` refuses them, or they ask for the help or the version; or `clap` takes them, and what
-- it found gives none
abbrev pub GivesNoSettings : List Text → Refused → Type 0
GivesNoSettings words (Words error) = Explains (fault_of mdbal_ceph words) error
GivesNoSettings words other = (fault_of mdbal_ceph words ≡ []) × GivesNone (matches_of mdbal_ceph words) other

-- the status then: 0 where the help or the version was written, 1 where it could not be, and otherwise 2
abbrev pub AnswersAs : OptionsError → ℕ → Type 0
AnswersAs (Help error) status = (status ≡ 0) ⊎ (status ≡ 1)
AnswersAs (Version error) status = (status ≡ 0) ⊎ (status ≡ 1)
AnswersAs Memory status = status ≡ 2
AnswersAs (Denied error) status = status ≡ 2

abbrev pub EndsAs : Refused → ℕ → Type 0
EndsAs (Words error) status = AnswersAs error status
EndsAs (Value wrong) status = status ≡ 2
EndsAs ManyFolders status = status ≡ 2
