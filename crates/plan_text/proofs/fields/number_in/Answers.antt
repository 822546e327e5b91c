use Rattle.std.proofs.Common.{◌∙◌, ap}
use Rattle.plan_text.specs.Fields.{number_in, number_within}
use Rattle.plan_text.proofs.NumberLemmas.{read_no_text, read_text}
use Rattle.plan_text.proofs.fields.number_in.Goals as goal

pub returns-in-Ok-clause-value : goal.returns-in-Ok-clause-value
unfolding number_in
returns-in-Ok-clause-value c =
    c.number_within.ensures.value ∙ ap (number_within c.args.limit) c.in-Ok.ensures.cases.0
    ∙ read_text (number_within c.args.limit) c.args.field.now c.in-Ok.ensures.cases.1

pub returns-in-Err-clause-value : goal.returns-in-Err-clause-value
unfolding number_in
returns-in-Err-clause-value c = read_no_text (number_within c.args.limit) c.args.field.now c.in-Err.ensures.cases.0
