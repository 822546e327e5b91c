use Rattle.std.proofs.Common.{◌∙◌, append_assoc}
use Rattle.std.proofs.lemmas.Result.{on_ok_weaker}
use Rattle.ceph_report.specs.Report.{count_line}
use Rattle.ceph_report.proofs.report.push_counts.Goals as goal

pub returns : goal.returns
unfolding count_line
returns c = on_ok_weaker c.push_text-2.result (λ e. e
    ∙ simp (
      append_assoc,
      c.in_ok-push_standing.ensures,
      c.in_ok-push_text.ensures,
      c.in_ok-push_number.ensures,
      c.in_ok-push_move_counts.ensures,
    )) c.push_text-2.ensures
