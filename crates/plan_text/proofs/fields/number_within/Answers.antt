use Rattle.std.proofs.Common.{arith}
use Rattle.plan_text.proofs.NumberLemmas.{number_large, number_parsed, number_refused}
use Rattle.plan_text.proofs.fields.number_within.Goals as goal

pub returns-in-Ok-clause-value : goal.returns-in-Ok-clause-value
returns-in-Ok-clause-value c = number_parsed c.args.limit c.args.text.now c.parse.result c.parse.ensures.value.0 c.in-Ok.number c.in-Ok.is
    c.if-number-limit.true

pub returns-in_default-clause-value : goal.returns-in_default-clause-value
returns-in_default-clause-value c = number_large c.args.limit c.args.text.now c.parse.result c.parse.ensures.value.0 c.in-Ok.number
    c.in-Ok.is c.if-number-limit.false

pub returns-in_default-2-clause-value : goal.returns-in_default-2-clause-value
returns-in_default-2-clause-value c = number_refused c.args.limit c.args.text.now c.parse.result c.parse.ensures.value.0
    c.in_default.field-0 c.in_default.is (omega arith)
