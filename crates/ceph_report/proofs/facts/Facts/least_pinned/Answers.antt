use Rattle.std.proofs.Common.{◌≡◌, ◌∙◌, ℕ, ap, arith}
use Rattle.ceph_report.specs.Told.{least_pinned}
use Rattle.ceph_report.proofs.facts.Facts.least_pinned.Goals as goal

pub returns : goal.returns
returns c =
    let end : c.loop-number.number ≡ 64 = omega (arith, c.loop-number-test.false, c.loop-number.auto.number-end) in
    c.loop-number.invariant ∙ ap (λ (n : ℕ). least_pinned c.args.self.now n) end
