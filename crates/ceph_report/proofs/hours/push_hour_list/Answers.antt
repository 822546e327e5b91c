use Rattle.std.proofs.Common.{◌≡◌, arith, length, slice_get}
use Rattle.std.proofs.lemmas.Result.{on_ok_weaker}
use Rattle.ceph_report.proofs.Lines.{below_none, below_more, below_framed}
use Rattle.ceph_report.specs.Hours.{hour_list, hour_member}
use Rattle.ceph_report.proofs.hours.push_hour_list.Goals as goal

pub loop-at-init : goal.loop-at-init
loop-at-init c = below_none (λ h. hour_member h (slice_get c.args.hours.now h)) _

pub loop-at-preserved : goal.loop-at-preserved
loop-at-preserved c =
    below_more (λ h. hour_member h (slice_get c.args.hours.now h)) _ _ _ c.loop-at.at c.loop-at.invariant c.in_ok-push_hour_member.ensures

pub returns : goal.returns
unfolding hour_list
returns c =
    let end : c.loop-at.at ≡ length c.args.hours.now = omega (arith, c.loop-at-test.false, c.loop-at.auto.at-end) in
    on_ok_weaker c.push_text-2.result
    (λ e. below_framed (λ h. hour_member h (slice_get c.args.hours.now h)) _ _ _ _ _ _ c.loop-at.at (length c.args.hours.now)
    c.in_ok-push_text.ensures c.loop-at.invariant end e)
    c.push_text-2.ensures
