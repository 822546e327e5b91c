use Rattle.std.proofs.Common.{◌≡◌, ◌∙◌, ◌+◌, ◌*◌, ◌%◌, ◌^◌, ℕ, true, false, ap, sym, arith}
use Rattle.mds_types.specs.RankSet.{has_rank}
use Rattle.plan_text.proofs.BitsLemmas.{shifted, with_bit, without_bit}
use Rattle.plan_text.proofs.writer.bits_of.Goals as goal
use Rattle.plan_text.proofs.writer.bits_of.Goals.{then-has, else-has}

pub loop-number-preserved : goal.loop-number-preserved
loop-number-preserved c =
    let number : c.in-Some.rank ≡ c.loop-number.number = c.in-Some.ensures.value in
    elim c.if-has.branch [
      | then-has w ↦
          let has : has_rank c.args.ranks c.loop-number.number ≡ true = ap (has_rank c.args.ranks) (sym number) ∙ (sym c.has.ensures ∙ w.if-has.true) in
          w.bits-is ∙ (ap (λ (b : ℕ). b + 1 * 2 ^ c.loop-number.number % 18446744073709551616) c.loop-number.invariant
          ∙ (ap (λ (b : ℕ). c.args.ranks % 2 ^ c.loop-number.number + b) (shifted c.loop-number.number (omega arith))
          ∙ with_bit c.args.ranks c.loop-number.number has))
      | else-has w ↦
          let has : has_rank c.args.ranks c.loop-number.number ≡ false = ap (has_rank c.args.ranks) (sym number) ∙ (sym c.has.ensures ∙ w.if-has.false) in
          w.bits-is ∙ (c.loop-number.invariant ∙ without_bit c.args.ranks c.loop-number.number (omega arith) has)
    ]
