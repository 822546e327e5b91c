use Rattle.std.proofs.Common.{◌∙◌, append_assoc}
use Rattle.std.proofs.lemmas.Result.{on_ok_weaker}
use Rattle.ceph_report.specs.Report.{heat_lines}
use Rattle.ceph_report.proofs.report.push_heats.Goals as goal

pub returns : goal.returns
unfolding heat_lines
returns c = on_ok_weaker c.push_heat-3.result (λ e. e
    ∙ simp (
      append_assoc,
      c.in_ok-push_ratio.ensures,
      c.in_ok-push_heat-2.ensures,
      c.in_ok-push_heat.ensures,
      c.per_mille-cooler.ensures,
      c.saturating_sub.ensures,
      c.hottest_now-now.ensures,
      c.hottest_planned-planned.ensures,
    )) c.push_heat-3.ensures
