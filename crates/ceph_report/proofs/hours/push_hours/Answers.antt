use Rattle.std.proofs.Common.{◌≡◌, arith, length, slice_get}
use Rattle.ceph_report.proofs.Lines.{below_none, below_more, below_same}
use Rattle.ceph_report.specs.Hours.{hour_line_at, hour_lines}
use Rattle.ceph_report.proofs.hours.push_hours.Goals as goal

pub loop-at-init : goal.loop-at-init
loop-at-init c = below_none (λ h. hour_line_at c.args.ranks (slice_get c.args.hours.now h)) _

pub loop-at-preserved : goal.loop-at-preserved
loop-at-preserved c =
    below_more (λ h. hour_line_at c.args.ranks (slice_get c.args.hours.now h)) _ _ _ c.loop-at.at c.loop-at.invariant c.in_ok-push_hour_at.ensures

pub returns : goal.returns
unfolding hour_lines
returns c =
    let end : c.loop-at.at ≡ length c.args.hours.now = omega (arith, c.loop-at-test.false, c.loop-at.auto.at-end) in
    below_same (λ h. hour_line_at c.args.ranks (slice_get c.args.hours.now h)) _ _ c.loop-at.at (length c.args.hours.now) c.loop-at.invariant end
