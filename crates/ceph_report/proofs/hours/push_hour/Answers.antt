use Rattle.std.proofs.Common.{◌∙◌, append_assoc}
use Rattle.std.proofs.lemmas.Result.{on_ok_weaker}
use Rattle.ceph_report.specs.Hours.{hour_line}
use Rattle.ceph_report.proofs.hours.push_hour.Goals as goal

pub returns : goal.returns
unfolding hour_line
returns c = on_ok_weaker c.push_name.result (λ e. e
    ∙ simp (append_assoc, c.in_ok-push_ratios.ensures, c.hour_ratio-now.ensures, c.hour_ratio-planned.ensures, c.hour_ratio-bound.ensures))
    c.push_name.ensures
