use Rattle.std.proofs.Common.{◌∙◌, ap}
use Rattle.plan_text.specs.Fields.{checked_name, name_in}
use Rattle.plan_text.proofs.NumberLemmas.{read_no_text, read_text}
use Rattle.plan_text.proofs.fields.name_in.Goals as goal

pub returns-in-Ok-clause-value : goal.returns-in-Ok-clause-value
unfolding name_in
returns-in-Ok-clause-value c =
    c.checked_name.ensures.value ∙ ap checked_name c.in-Ok.ensures.cases.0 ∙ read_text checked_name c.args.field.now c.in-Ok.ensures.cases.1

pub returns-in-Err-clause-value : goal.returns-in-Err-clause-value
unfolding name_in
returns-in-Err-clause-value c = read_no_text checked_name c.args.field.now c.in-Err.ensures.cases.0
