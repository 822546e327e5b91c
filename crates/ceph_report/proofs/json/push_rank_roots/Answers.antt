use Rattle.std.proofs.Common.{◌∙◌, append_assoc}
use Rattle.std.proofs.lemmas.Result.{on_ok_weaker}
use Rattle.ceph_report.specs.Json.{root_numbers}
use Rattle.ceph_report.proofs.json.push_rank_roots.Goals as goal

pub returns : goal.returns
unfolding root_numbers
returns c = on_ok_weaker c.push_text.result (λ e. e
    ∙ simp (
      append_assoc,
      c.in_ok-push_number-2.ensures,
      c.in_ok-push_number.ensures,
      c.number_at.ensures,
      c.number_at-planned.ensures,
      c.deref.ensures.value,
      c.deref-2.ensures.value,
    )) c.push_text.ensures
