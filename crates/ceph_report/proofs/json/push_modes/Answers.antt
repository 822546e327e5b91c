use Rattle.std.proofs.Common.{◌∙◌, append_assoc}
use Rattle.std.proofs.lemmas.Result.{on_ok_weaker}
use Rattle.ceph_report.specs.Json.{mode_members}
use Rattle.ceph_report.proofs.json.push_modes.Goals as goal

pub returns : goal.returns
unfolding mode_members
returns c = on_ok_weaker c.push_text-6.result (λ e. e
    ∙ simp (
      append_assoc,
      c.in_ok-push_text-5.ensures,
      c.in_ok-push_text-4.ensures,
      c.in_ok-push_text-3.ensures,
      c.in_ok-push_text-2.ensures,
      c.in_ok-push_text.ensures,
      c.truth.ensures,
      c.truth-2.ensures,
      c.truth-3.ensures,
    )) c.push_text-6.ensures
