-- The answer to a line that gives no settings.
use Rattle.std.specs.Prelude.{◌≡◌, ◌≢◌, ◌⊎◌, ⊤, ℕ}
use Rattle.clap.specs.Words.{IsAmong, Kinds, kind_of}
use Rattle.clap.specs.declared.error.Error.{Error}
use Rattle.clap.specs.declared.error.kind.ErrorKind.TheVariants as kind
use Rattle.command_line.specs.declared.options_error.OptionsError.{OptionsError}
use Rattle.command_line.specs.declared.options_error.OptionsError.TheVariants.{Memory, Help, Version, Refused}

-- the outcome where `clap` gives this error
abbrev pub StandsFor : Error → OptionsError → Type 0
StandsFor error Memory = kind_of error ≡ kind.OutOfMemory
StandsFor error (Help given) = (given ≡ error) × (kind_of error ≡ kind.DisplayHelp)
StandsFor error (Version given) = (given ≡ error) × (kind_of error ≡ kind.DisplayVersion)
StandsFor error (Refused given) =
    (given ≡ error) × (kind_of error ≢ kind.OutOfMemory) × (kind_of error ≢ kind.DisplayHelp)
    × (kind_of error ≢ kind.DisplayVersion)

-- the program ends with this status: 0 where the help or the version was written, 3 where it wasn't, otherwise 2
abbrev pub EndsWith : OptionsError → ℕ → Type 0
EndsWith (Help error) status = (status ≡ 0) ⊎ (status ≡ 3)
EndsWith (Version error) status = (status ≡ 0) ⊎ (status ≡ 3)
EndsWith _ status = status ≡ 2

-- the outcome fits the kinds of fault that the words have: memory was refused, or the help or the version is one of
-- them and was asked for, or the fault is one of the others
abbrev pub Explains : Kinds → OptionsError → Type 0
Explains kinds Memory = ⊤
Explains kinds (Help error) = (kind_of error ≡ kind.DisplayHelp) × IsAmong kind.DisplayHelp kinds
Explains kinds (Version error) = (kind_of error ≡ kind.DisplayVersion) × IsAmong kind.DisplayVersion kinds
Explains kinds (Refused error) =
    (kind_of error ≢ kind.DisplayHelp) × (kind_of error ≢ kind.DisplayVersion) × (kind_of error ≢ kind.OutOfMemory)
    × IsAmong (kind_of error) kinds
