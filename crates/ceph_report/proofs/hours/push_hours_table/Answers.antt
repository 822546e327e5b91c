use Rattle.std.proofs.Common.{◌∙◌, append_assoc}
use Rattle.std.proofs.lemmas.Result.{on_ok_weaker}
use Rattle.ceph_report.specs.Hours.{hours_table}
use Rattle.ceph_report.proofs.hours.push_hours_table.Goals as goal

pub returns : goal.returns
unfolding hours_table
returns c = on_ok_weaker c.push_left_hours.result (λ e. e
    ∙ simp (append_assoc, c.in_ok-push_worst.ensures, c.in_ok-push_hours.ensures, c.in_ok-push_text.ensures)) c.push_left_hours.ensures
