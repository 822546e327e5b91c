-- The program's command: how it grows, and that it is one of which `clap` says what is found in words.
use Rattle.std.proofs.Common.{◌≡◌, ◌∙◌, ◌+◌, ◌<◌, ℕ, List, true, ap, get_or, inl, inr, length, refl, subst, sym, take}
use Rattle.std.proofs.lemmas.List.Sums.{fold_more}
use Rattle.clap.specs.Kinds.{HasKind, IsAmong, Kinds}
use Rattle.clap.specs.Values.{kind_of}
use Rattle.clap.specs.Words.{App, is_simple, is_simple_and_free, with_rule}
use Rattle.clap.specs.declared.error.Error.{Error}
use Rattle.clap.specs.declared.error.kind.ErrorKind.{ErrorKind}
use Rattle.clap.specs.declared.error.kind.ErrorKind.TheVariants as kind
use Rattle.command_line.specs.Outcome.{Explains, StandsFor}
use Rattle.command_line.specs.declared.options_error.OptionsError.{OptionsError}
use Rattle.command_line.specs.declared.options_error.OptionsError.TheVariants.{Help, Memory, Refused, Version}
use Rattle.clap.proofs.OnLiterals.{clap_on_literals}
use Rattle.mdbal_ceph.specs.CommandLine.{mdbal_ceph, option_rule, with_options}
use Rattle.mdbal_ceph.specs.declared.arguments.PlanOption.{PlanOption}

pub is_simple_line : is_simple mdbal_ceph ≡ true
unfolding clap_on_literals
is_simple_line = refl

pub is_plain_line : is_simple_and_free mdbal_ceph ≡ true
unfolding clap_on_literals
is_plain_line = refl

-- what the error says of the kinds
pub explained : (error : Error) (e : OptionsError) (kinds : Kinds) → StandsFor error e → HasKind kinds error → Explains kinds e
explained error Memory kinds s h = tt
explained error (Help given) kinds s (inl memory) =
    let bad : kind.OutOfMemory ≡ kind.DisplayHelp = sym memory ∙ s.1 in
    cc
explained error (Help given) kinds s (inr among) = (ap kind_of s.0 ∙ s.1, subst (λ (k : ErrorKind). IsAmong k kinds) s.1 among)
explained error (Version given) kinds s (inl memory) =
    let bad : kind.OutOfMemory ≡ kind.DisplayVersion = sym memory ∙ s.1 in
    cc
explained error (Version given) kinds s (inr among) = (ap kind_of s.0 ∙ s.1, subst (λ (k : ErrorKind). IsAmong k kinds) s.1 among)
explained error (Refused given) kinds s (inl memory) = absurd (s.1 memory)
explained error (Refused given) kinds s (inr among) = rw s.0 (s.2, s.3, s.1, among)

-- one more option
pub one_more : (options : List PlanOption) (a before after : App) (at : ℕ) (d : PlanOption) → at < length options
    → after ≡ with_rule before (option_rule (get_or options at d)) → before ≡ with_options a (take at options)
    → after ≡ with_options a (take (at + 1) options)
one_more options a before after at d inside made was =
    made
    ∙ (ap (λ (one : App). with_rule one (option_rule (get_or options at d))) was
    ∙ sym (fold_more (λ (one : App) (option : PlanOption). with_rule one (option_rule option)) a options at d inside))
