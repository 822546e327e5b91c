use Rattle.std.proofs.Common.{◌≡◌, arith}
use Rattle.ceph_report.proofs.Lines.{below_none, below_more, below_all}
use Rattle.ceph_report.specs.Report.{rank_table, told_line}
use Rattle.ceph_report.proofs.report.push_ranks.Goals as goal

pub loop-number-init : goal.loop-number-init
loop-number-init c = below_none (told_line c.args.facts.now) _

pub loop-number-preserved : goal.loop-number-preserved
loop-number-preserved c = below_more (told_line c.args.facts.now) _ _ _ c.loop-number.number c.loop-number.invariant c.in_ok-push_told.ensures

pub returns : goal.returns
unfolding rank_table
returns c =
    let end : c.loop-number.number ≡ 64 = omega (arith, c.loop-number-test.false, c.loop-number.auto.number-end) in
    below_all (told_line c.args.facts.now) _ _ _ _ c.loop-number.number (64) c.in_ok-push_text.ensures c.loop-number.invariant end
