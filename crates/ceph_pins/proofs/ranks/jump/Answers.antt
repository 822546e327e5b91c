use Rattle.std.proofs.Common.{◌+◌, ◌*◌, ◌%◌, ◌^◌, ◌∙◌, ℕ, ap, arith, sym}
use Rattle.ceph_pins.proofs.Jumps.{jumped, last_jump, next_key, next_rises, no_jump}
use Rattle.ceph_pins.proofs.ranks.jump.Goals as goal

pub loop-step-preserved : goal.loop-step-preserved
loop-step-preserved c =
    let hash : ℕ = c.args.hash in
    let step : ℕ = c.loop-step.step in
    let drawn = ap (λ (k : ℕ). (k * 2862933555777941757 % 2 ^ 64 + 1) % 2 ^ 64) c.loop-step.invariant.key ∙ sym (next_key hash step) in
    let there = jumped hash step c.loop-step.rank _ c.loop-step.invariant.rank drawn in
    record {
      key = drawn;
      rank = there;
      up = omega (arith, there, next_rises hash step);
      small = omega arith;
    }

pub returns-then-next-from-clause-value : goal.returns-then-next-from-clause-value
returns-then-next-from-clause-value c =
    let hash : ℕ = c.args.hash in
    let step : ℕ = c.loop-step.step in
    let drawn = ap (λ (k : ℕ). (k * 2862933555777941757 % 2 ^ 64 + 1) % 2 ^ 64) c.loop-step.invariant.key ∙ sym (next_key hash step) in
    let there = jumped hash step c.loop-step.rank _ c.loop-step.invariant.rank drawn in
    c.loop-step.invariant.rank ∙ sym (last_jump hash c.args.size step c.loop-step-test.true (omega arith) (omega (arith, there)))

pub returns-clause-value : goal.returns-clause-value
returns-clause-value c = no_jump c.args.hash c.args.size c.loop-step.rank (omega arith) (omega arith)
