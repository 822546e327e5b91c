use Rattle.std.proofs.Common.{◌≡◌, arith}
use Rattle.ceph_report.proofs.Lines.{below_none, below_more, below_same}
use Rattle.ceph_report.specs.Report.{absent_line, absent_lines}
use Rattle.ceph_report.proofs.notes.push_all_absent.Goals as goal

pub loop-number-init : goal.loop-number-init
loop-number-init c = below_none (absent_line c.args.facts.now) _

pub loop-number-preserved : goal.loop-number-preserved
loop-number-preserved c = below_more (absent_line c.args.facts.now) _ _ _ c.loop-number.number c.loop-number.invariant c.in_ok-push_absent.ensures

pub returns : goal.returns
unfolding absent_lines
returns c =
    let end : c.loop-number.number ≡ c.args.facts.now.size = omega (arith, c.loop-number-test.false, c.loop-number.auto.number-end) in
    below_same (absent_line c.args.facts.now) _ _ c.loop-number.number (c.args.facts.now.size) c.loop-number.invariant end
