use Rattle.std.proofs.Common.{◌∙◌, append_assoc}
use Rattle.std.proofs.lemmas.Result.{on_ok_weaker}
use Rattle.ceph_report.specs.Json.{rank_numbers}
use Rattle.ceph_report.proofs.json.push_rank_heats.Goals as goal

pub returns : goal.returns
unfolding rank_numbers
returns c = on_ok_weaker c.push_number-4.result (λ e. e
    ∙ simp (
      append_assoc,
      c.in_ok-push_number-3.ensures,
      c.in_ok-push_number-2.ensures,
      c.in_ok-push_number.ensures,
      c.from.ensures,
      c.number_at.ensures,
      c.number_at-planned.ensures,
      c.number_at-2.ensures,
      c.deref.ensures.value,
    )) c.push_number-4.ensures
