use Rattle.std.proofs.Common.{sym, ◌∙◌, arith}
use Rattle.std.proofs.lemmas.List.Sums.{position_or_len_is}
use Rattle.plan_text.specs.Fields.{ends_field}
use Rattle.plan_text.proofs.fields.field_length.Goals as goal

pub returns-then-ends_field-clause-value : goal.returns-then-ends_field-clause-value
returns-then-ends_field-clause-value c =
    sym (position_or_len_is ends_field c.args.text.now c.loop-i.i 0 (omega arith) c.loop-i.invariant
    (λ h. sym c.ends_field.ensures ∙ c.if-ends_field.true))

pub returns-clause-value : goal.returns-clause-value
returns-clause-value c = sym
    (position_or_len_is ends_field c.args.text.now _ 0 (omega arith) (λ k h. c.loop-i.invariant k (omega arith))
    (λ h. absurd (omega arith)))
