use Rattle.std.proofs.Common.{length, sym, ◌∙◌}
use Rattle.std.proofs.lemmas.Bool.{eqb-true, eq-eqb}
use Rattle.script_commands.proofs.FieldLemmas.{blank_line, no_fields}
use Rattle.script_commands.proofs.fields.is_blank_line.Goals as goal

pub returns : goal.returns
returns c = (
  λ e. blank_line c.args.line.now (sym c.blank_count.ensures.value ∙ eqb-true c.blank_count.result (length c.args.line.now) e),
  λ e. eq-eqb c.blank_count.result (length c.args.line.now) (c.blank_count.ensures.value ∙ no_fields c.args.line.now e),
)
