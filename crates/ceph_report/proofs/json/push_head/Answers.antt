use Rattle.std.proofs.Common.{◌∙◌, append_assoc}
use Rattle.std.proofs.lemmas.Result.{on_ok_weaker}
use Rattle.ceph_report.specs.Json.{plan_head}
use Rattle.ceph_report.proofs.json.push_head.Goals as goal

pub returns : goal.returns
unfolding plan_head
returns c = on_ok_weaker c.push_modes.result (λ e. e
    ∙ simp (
      append_assoc,
      c.in_ok-push_number-3.ensures,
      c.in_ok-push_number-2.ensures,
      c.in_ok-push_number.ensures,
      c.in_ok-push_text-2.ensures,
      c.in_ok-push_text.ensures,
      c.truth.ensures,
    )) c.push_modes.ensures
