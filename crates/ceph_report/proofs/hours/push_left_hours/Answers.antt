use Rattle.std.proofs.Common.{◌≡◌, arith, length, slice_get}
use Rattle.ceph_report.proofs.Lines.{below_none, below_more, below_same}
use Rattle.ceph_report.specs.Hours.{left_hour_at, left_hour_lines}
use Rattle.ceph_report.proofs.hours.push_left_hours.Goals as goal

pub loop-at-init : goal.loop-at-init
loop-at-init c = below_none (λ h. left_hour_at (slice_get c.args.names.now h)) _

pub loop-at-preserved : goal.loop-at-preserved
loop-at-preserved c =
    below_more (λ h. left_hour_at (slice_get c.args.names.now h)) _ _ _ c.loop-at.at c.loop-at.invariant c.in_ok-push_left_at.ensures

pub returns : goal.returns
unfolding left_hour_lines
returns c =
    let end : c.loop-at.at ≡ length c.args.names.now = omega (arith, c.loop-at-test.false, c.loop-at.auto.at-end) in
    below_same (λ h. left_hour_at (slice_get c.args.names.now h)) _ _ c.loop-at.at (length c.args.names.now) c.loop-at.invariant end
