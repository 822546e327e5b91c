use Rattle.std.proofs.Common.{ℕ, not, ap, sym, ◌∙◌, arith}
use Rattle.std.proofs.lemmas.List.Sums.{position_or_len_is}
use Rattle.script_commands.specs.Commands.{is_blank}
use Rattle.script_commands.proofs.fields.blank_count.Goals as goal

pub returns-then-not-is_blank-clause-value : goal.returns-then-not-is_blank-clause-value
returns-then-not-is_blank-clause-value c =
    sym (position_or_len_is (λ (b : ℕ). not (is_blank b)) c.args.line.now c.loop-i.i 0 (omega arith)
    (λ k h. ap not (c.loop-i.invariant k h)) (λ h. ap not (sym c.is_blank.ensures ∙ c.if-not-is_blank.true)))

pub returns-clause-value : goal.returns-clause-value
returns-clause-value c = sym
    (position_or_len_is (λ (b : ℕ). not (is_blank b)) c.args.line.now _ 0 (omega arith) (λ k h. ap not (c.loop-i.invariant k (omega arith)))
    (λ h. absurd (omega arith)))
