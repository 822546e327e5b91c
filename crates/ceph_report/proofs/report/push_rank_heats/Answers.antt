use Rattle.std.proofs.Common.{◌∙◌, append_assoc}
use Rattle.std.proofs.lemmas.Result.{on_ok_weaker}
use Rattle.ceph_report.specs.Report.{rank_heats}
use Rattle.ceph_report.proofs.report.push_rank_heats.Goals as goal

pub returns : goal.returns
unfolding rank_heats
returns c = on_ok_weaker c.push_heat-3.result (λ e. e
    ∙ simp (
      append_assoc,
      c.in_ok-push_heat-2.ensures,
      c.in_ok-push_heat.ensures,
      c.in_ok-push_columns.ensures,
      c.from.ensures,
      c.number_at.ensures,
      c.number_at-2.ensures,
      c.number_at-3.ensures,
      c.deref.ensures.value,
    )) c.push_heat-3.ensures
