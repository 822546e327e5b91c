-- The program's command is of the simple kind of which `clap` says what its words mean.
use Rattle.std.proofs.Common.{◌≡◌, ◌∙◌, true, refl, sym, ap, subst, inl, inr}
use Rattle.clap.specs.Words.{is_simple_and_free}
use Rattle.clap.specs.Simple.{is_simple}
use Rattle.clap.proofs.OnLiterals.{clap_on_literals}
use Rattle.clap.specs.Kinds.{HasKind, IsAmong, Kinds}
use Rattle.clap.specs.Values.{kind_of}
use Rattle.clap.specs.declared.error.Error.{Error}
use Rattle.clap.specs.declared.error.kind.ErrorKind.{ErrorKind}
use Rattle.clap.specs.declared.error.kind.ErrorKind.TheVariants as kind
use Rattle.command_line.specs.Outcome.{Explains, StandsFor}
use Rattle.command_line.specs.declared.options_error.OptionsError.{OptionsError}
use Rattle.command_line.specs.declared.options_error.OptionsError.TheVariants.{Help, Memory, Refused, Version}
use Rattle.certificate_judge.specs.CommandLine.{mdbal_check}

pub is_plain_line : is_simple_and_free mdbal_check ≡ true
unfolding clap_on_literals
is_plain_line = refl

pub is_simple_line : is_simple mdbal_check ≡ true
unfolding clap_on_literals
is_simple_line = refl

-- what the error says of the kinds
pub explained : (error : Error) (e : OptionsError) (kinds : Kinds) → StandsFor error e → HasKind kinds error → Explains kinds e
explained error Memory kinds s h = tt
explained error (Help given) kinds s (inl memory) =
    let bad : kind.OutOfMemory ≡ kind.DisplayHelp = sym memory ∙ s.1 in
    cc
explained error (Help given) kinds s (inr among) = (ap kind_of s.0 ∙ s.1, subst (λ (k : ErrorKind). IsAmong k kinds) s.1 among)
explained error (Version given) kinds s (inl memory) =
    let bad : kind.OutOfMemory ≡ kind.DisplayVersion = sym memory ∙ s.1 in
    cc
explained error (Version given) kinds s (inr among) = (ap kind_of s.0 ∙ s.1, subst (λ (k : ErrorKind). IsAmong k kinds) s.1 among)
explained error (Refused given) kinds s (inl memory) = absurd (s.1 memory)
explained error (Refused given) kinds s (inr among) = rw s.0 (s.2, s.3, s.1, among)
