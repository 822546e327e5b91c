use Rattle.std.proofs.Common.{◌≡◌, ◌∙◌, ◌-◌, ◌++◌, ℕ, List, ap, arith, codes, length, min, slice_get}
use Rattle.std.proofs.lemmas.Result.{on_ok_weaker}
use Rattle.ceph_report.specs.Report.{brought_line, brought_lines, more_line}
use Rattle.ceph_report.proofs.Lines.{below_foot, below_more, below_none}
use Rattle.ceph_report.proofs.report.push_move_lines.Goals as goal

pub loop-at-init : goal.loop-at-init
loop-at-init c = below_none (λ i. brought_line c.args.directories.now (slice_get c.args.moves.now i)) _

pub loop-at-preserved : goal.loop-at-preserved
loop-at-preserved c = below_more (λ i. brought_line c.args.directories.now (slice_get c.args.moves.now i)) _ _ _ c.loop-at.at
    c.loop-at.invariant c.in_ok-push_move.ensures

pub returns : goal.returns
unfolding brought_lines
returns c =
    let end : c.loop-at.at ≡ min 40 (length c.args.moves.now) = omega (arith, c.loop-at-test.false, c.loop-at.auto.at-end) in
    let line : ℕ → List ℕ = λ i. brought_line c.args.directories.now (slice_get c.args.moves.now i) in
    let more : c.saturating_sub.result ≡ length c.args.moves.now - 40 = omega (arith, c.saturating_sub.ensures) in
    on_ok_weaker c.push_more.result
    (λ e. below_foot line _ _ _ _ c.loop-at.at (min 40 (length c.args.moves.now)) c.loop-at.invariant end
    (e ∙ ap (λ (k : ℕ). c.loop-at.text.items ++ more_line k (codes " smaller ones\n")) more)) c.push_more.ensures
