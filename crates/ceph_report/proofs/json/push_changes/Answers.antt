use Rattle.std.proofs.Common.{slice_get}
use Rattle.ceph_report.specs.Json.{one_member}
use Rattle.ceph_report.proofs.Lines.{below_more, below_none}
use Rattle.ceph_report.proofs.json.push_changes.Goals as goal

pub loop-at-init : goal.loop-at-init
loop-at-init c = below_none (λ i. one_member c.args.form c.args.facts.now i (slice_get c.args.changes.now i)) _

pub loop-at-preserved : goal.loop-at-preserved
loop-at-preserved c = below_more (λ i. one_member c.args.form c.args.facts.now i (slice_get c.args.changes.now i)) _ _ _ c.loop-at.at
    c.loop-at.invariant c.in_ok-push_one.ensures
