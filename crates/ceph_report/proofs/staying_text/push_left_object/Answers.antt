use Rattle.std.proofs.Common.{◌∙◌, append_assoc}
use Rattle.std.proofs.lemmas.Result.{on_ok_weaker}
use Rattle.ceph_report.specs.Left.{left_object}
use Rattle.ceph_report.proofs.staying_text.push_left_object.Goals as goal

pub returns : goal.returns
unfolding left_object
returns c = on_ok_weaker c.push_text-4.result (λ e. e
    ∙ simp (
      append_assoc,
      c.in_ok-push_number.ensures,
      c.in_ok-push_text-3.ensures,
      c.in_ok-push_text-2.ensures,
      c.in_ok-push_place.ensures,
      c.in_ok-push_text.ensures,
      c.reason_name.ensures,
    )) c.push_text-4.ensures
