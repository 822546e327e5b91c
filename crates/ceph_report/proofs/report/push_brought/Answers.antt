use Rattle.std.proofs.Common.{◌∙◌, append_assoc}
use Rattle.std.proofs.lemmas.Result.{on_ok_weaker}
use Rattle.ceph_report.specs.Report.{brought_text}
use Rattle.ceph_report.proofs.report.push_brought.Goals as goal

pub returns : goal.returns
unfolding brought_text
returns c = on_ok_weaker c.push_place.result (λ e. e
    ∙ simp (
      append_assoc,
      c.in_ok-push_text.ensures,
      c.in_ok-push_columns-2.ensures,
      c.in_ok-push_heat.ensures,
      c.in_ok-push_columns.ensures,
      c.from.ensures,
      c.number.ensures.value,
    )) c.push_place.ensures
