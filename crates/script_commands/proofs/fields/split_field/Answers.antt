use Rattle.std.proofs.Common.{arith}
use Rattle.script_commands.proofs.FieldLemmas.{no_field_left, field_and_rest}
use Rattle.script_commands.proofs.fields.split_field.Goals as goal

pub returns-then-length-eq0 : goal.returns-then-length-eq0
returns-then-length-eq0 c = no_field_left c.args.line.now c.blank_count.result c.field_length-length.result c.blank_count.ensures.value
    c.field_length-length.ensures.value c.if-length-eq0.true

pub returns : goal.returns
returns c = field_and_rest c.args.line.now c.blank_count.result c.field_length-length.result c.blank_count.ensures.value
    c.field_length-length.ensures.value (omega arith)
