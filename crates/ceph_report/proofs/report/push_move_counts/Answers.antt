use Rattle.std.proofs.Common.{◌∙◌, append_assoc}
use Rattle.std.proofs.lemmas.Result.{on_ok_weaker}
use Rattle.ceph_report.specs.Report.{move_counts}
use Rattle.ceph_report.proofs.report.push_move_counts.Goals as goal

pub returns : goal.returns
unfolding move_counts
returns c = on_ok_weaker c.push_text.result (λ e. e
    ∙ simp (append_assoc, c.in_ok-push_number-3.ensures, c.in_ok-push_number-2.ensures, c.in_ok-push_number.ensures, c.from.ensures))
    c.push_text.ensures
