use Rattle.std.proofs.Common.{◌∙◌, append_assoc}
use Rattle.std.proofs.lemmas.Result.{on_ok_weaker}
use Rattle.ceph_report.specs.Check.{astray_text}
use Rattle.ceph_report.proofs.check.push_astray.Goals as goal

pub returns : goal.returns
unfolding astray_text
returns c = on_ok_weaker c.push_place.result (λ e. e
    ∙ simp (
      append_assoc,
      c.in_ok-push_path.ensures,
      c.in_ok-push_number.ensures,
      c.in_ok-push_text.ensures,
      c.deref.ensures.value,
      c.from.ensures,
      c.number.ensures.value,
    )) c.push_place.ensures
