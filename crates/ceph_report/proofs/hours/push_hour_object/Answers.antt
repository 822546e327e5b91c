use Rattle.std.proofs.Common.{◌∙◌, append_assoc}
use Rattle.std.proofs.lemmas.Result.{on_ok_weaker}
use Rattle.ceph_report.specs.Hours.{hour_object}
use Rattle.ceph_report.proofs.hours.push_hour_object.Goals as goal

pub returns : goal.returns
unfolding hour_object
returns c = on_ok_weaker c.push_text.result (λ e. e
    ∙ simp (
      append_assoc,
      c.in_ok-push_number-3.ensures,
      c.in_ok-push_number-2.ensures,
      c.in_ok-push_number.ensures,
      c.in_ok-push_object_head.ensures,
      c.hottest.ensures,
      c.hottest-2.ensures,
      c.deref.ensures.value,
      c.deref-2.ensures.value,
    ))
    c.push_text.ensures
