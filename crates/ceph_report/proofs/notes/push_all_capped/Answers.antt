use Rattle.std.proofs.Common.{◌≡◌, arith}
use Rattle.ceph_report.proofs.Lines.{below_none, below_more, below_same}
use Rattle.std.proofs.Common.{length}
use Rattle.ceph_report.specs.Report.{capped_line, capped_lines}
use Rattle.ceph_report.proofs.notes.push_all_capped.Goals as goal

pub loop-at-init : goal.loop-at-init
loop-at-init c = below_none (capped_line c.args.directories.now) _

pub loop-at-preserved : goal.loop-at-preserved
loop-at-preserved c = below_more (capped_line c.args.directories.now) _ _ _ c.loop-at.at c.loop-at.invariant c.in_ok-push_capped.ensures

pub returns : goal.returns
unfolding capped_lines
returns c =
    let end : c.loop-at.at ≡ length c.args.directories.now = omega (arith, c.loop-at-test.false, c.loop-at.auto.at-end) in
    below_same (capped_line c.args.directories.now) _ _ c.loop-at.at (length c.args.directories.now) c.loop-at.invariant end
