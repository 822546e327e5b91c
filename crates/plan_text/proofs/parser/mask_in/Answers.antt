use Rattle.std.proofs.Common.{◌∙◌, ap}
use Rattle.mds_types.specs.Mask.{mask_bits}
use Rattle.plan_text.specs.Fields.{mask_in}
use Rattle.plan_text.proofs.NumberLemmas.{read_no_text, read_text}
use Rattle.plan_text.proofs.parser.mask_in.Goals as goal

pub returns-in-Ok : goal.returns-in-Ok
unfolding mask_in
returns-in-Ok c =
    c.ok.ensures.value ∙ c.parse.ensures ∙ ap mask_bits c.in-Ok.ensures.cases.0
    ∙ read_text mask_bits c.args.field.now c.in-Ok.ensures.cases.1

pub returns-in-Err : goal.returns-in-Err
unfolding mask_in
returns-in-Err c = read_no_text mask_bits c.args.field.now c.in-Err.ensures.cases.0
