use Rattle.std.proofs.Common.{◌∙◌, append_assoc}
use Rattle.std.proofs.lemmas.Result.{on_ok_weaker}
use Rattle.ceph_report.specs.Spreading.{children_text}
use Rattle.ceph_report.proofs.spreading.push_children.Goals as goal

pub returns : goal.returns
unfolding children_text
returns c = on_ok_weaker c.push_text.result (λ e. e
    ∙ simp (
      append_assoc,
      c.in_ok-push_number-2.ensures,
      c.in_ok-push_number.ensures,
      c.in_ok-push_path.ensures,
      c.fair_shares.ensures,
      c.deref.ensures.value,
    )) c.push_text.ensures
