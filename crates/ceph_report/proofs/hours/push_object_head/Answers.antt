use Rattle.std.proofs.Common.{◌∙◌, append_assoc}
use Rattle.std.proofs.lemmas.Result.{on_ok_weaker}
use Rattle.ceph_report.specs.Hours.{hour_head}
use Rattle.ceph_report.proofs.hours.push_object_head.Goals as goal

pub returns : goal.returns
unfolding hour_head
returns c = on_ok_weaker c.push_text-3.result (λ e. e
    ∙ simp (
      append_assoc,
      c.in_ok-push_text-2.ensures,
      c.in_ok-push_path_value.ensures,
      c.in_ok-push_text.ensures,
      c.truth.ensures,
      c.deref.ensures.value,
    )) c.push_text-3.ensures
