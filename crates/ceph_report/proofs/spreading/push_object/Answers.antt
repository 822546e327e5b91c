use Rattle.std.proofs.Common.{◌∙◌, append_assoc}
use Rattle.std.proofs.lemmas.Result.{on_ok_weaker}
use Rattle.ceph_report.specs.Spreading.{advice_object}
use Rattle.ceph_report.proofs.spreading.push_object.Goals as goal

pub returns : goal.returns
unfolding advice_object
returns c = on_ok_weaker c.push_text-2.result (λ e. e
    ∙ simp (
      append_assoc,
      c.in_ok-push_number-4.ensures,
      c.in_ok-push_number-3.ensures,
      c.in_ok-push_number-2.ensures,
      c.in_ok-push_number.ensures,
      c.in_ok-push_path_value.ensures,
      c.in_ok-push_text.ensures,
      c.hottest.ensures,
      c.from.ensures,
      c.deref.ensures.value,
      c.deref-2.ensures.value,
    )) c.push_text-2.ensures
