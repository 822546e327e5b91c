use Rattle.std.proofs.Common.{◌∙◌, append_assoc}
use Rattle.std.proofs.lemmas.Result.{on_ok_weaker}
use Rattle.ceph_report.specs.Hours.{worst_line}
use Rattle.ceph_report.proofs.hours.push_worst.Goals as goal

pub returns : goal.returns
unfolding worst_line
returns c = on_ok_weaker c.push_text.result (λ e. e
    ∙ simp (
      append_assoc,
      c.in_ok-push_ratios.ensures,
      c.worst_ratio-now.ensures,
      c.worst_ratio-planned.ensures,
      c.worst_ratio-bound.ensures,
    )) c.push_text.ensures
