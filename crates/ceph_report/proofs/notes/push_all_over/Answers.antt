use Rattle.std.proofs.Common.{◌≡◌, ℕ, ap, arith, length, ◌++◌, ◌∙◌}
use Rattle.ceph_report.proofs.Lines.{below_none, below_more, below_same}
use Rattle.ceph_report.specs.Text.{lines_below}
use Rattle.ceph_report.specs.Report.{over_line, over_lines}
use Rattle.ceph_report.proofs.notes.push_all_over.Goals as goal

pub loop-at-init : goal.loop-at-init
loop-at-init c = below_none (over_line c.args.facts.now c.heat_now-all.result) _

pub loop-at-preserved : goal.loop-at-preserved
loop-at-preserved c = below_more (over_line c.args.facts.now c.heat_now-all.result) _ _ _ c.loop-at.at c.loop-at.invariant c.in_ok-push_over.ensures

pub returns : goal.returns
unfolding over_lines
returns c =
    let end : c.loop-at.at ≡ length c.args.facts.now.directories.now = omega (arith, c.loop-at-test.false, c.loop-at.auto.at-end) in
    below_same (over_line c.args.facts.now c.heat_now-all.result) _ _ c.loop-at.at (length c.args.facts.now.directories.now) c.loop-at.invariant end
    ∙ ap (λ (all : ℕ). c.args.text.now.items ++ lines_below (over_line c.args.facts.now all) (length c.args.facts.now.directories.now)) c.heat_now-all.ensures
