use Rattle.std.proofs.Common.{◌∙◌, append_assoc}
use Rattle.std.proofs.lemmas.Result.{on_ok_weaker}
use Rattle.ceph_report.specs.Spreading.{advice_line}
use Rattle.ceph_report.proofs.spreading.push_line.Goals as goal

pub returns : goal.returns
unfolding advice_line
returns c = on_ok_weaker c.push_text.result (λ e. e
    ∙ simp (
      append_assoc,
      c.in_ok-push_hundredths.ensures,
      c.in_ok-push_spread.ensures,
      c.in_ok-push_children.ensures,
      c.planned_share.ensures,
      c.heat_now.ensures,
    )) c.push_text.ensures
