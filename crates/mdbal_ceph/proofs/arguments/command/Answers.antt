use Rattle.std.proofs.Common.{◌≡◌, ◌∙◌, List, ap, sym}
use Rattle.std.specs.List.{fold}
use Rattle.std.proofs.lemmas.List.Folds.{fold-map}
use Rattle.std.proofs.lemmas.Result.{IfOk-weaker}
use Rattle.clap.specs.Words.{App, Rule, app_of, with_rule}
use Rattle.mdbal_ceph.specs.CommandLine.{folder_rule, option_rule, option_rules, plan_command}
use Rattle.mdbal_ceph.proofs.arguments.command.Goals as goal

pub returns : goal.returns
returns c =
    let first : app_of c.in_ok-command.command ≡ with_rule plan_command folder_rule =
    c.in_ok-command.ensures.shape c.folder_arg.ensures.local
    ∙ (ap (λ (r : Rule). with_rule (app_of c.plain_command.result) r) c.folder_arg.ensures.rule
    ∙ ap (λ (a : App). with_rule a folder_rule) c.plain_command.ensures) in
    IfOk-weaker c.with_options.result _ _
    (λ r adds. adds
    ∙ (sym (fold-map with_rule option_rule (app_of c.in_ok-command.command) c.options.result.now)
    ∙ (ap (λ (rules : List Rule). fold with_rule (app_of c.in_ok-command.command) rules) c.options.ensures
    ∙ ap (λ (a : App). fold with_rule a option_rules) first)))
    c.with_options.ensures
