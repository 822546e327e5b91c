use Rattle.std.proofs.Common.{◌∙◌, append_assoc}
use Rattle.std.proofs.lemmas.Result.{on_ok_weaker}
use Rattle.ceph_report.specs.Json.{pin_members}
use Rattle.ceph_report.proofs.json.push_pins_of.Goals as goal

pub returns : goal.returns
unfolding pin_members
returns c = on_ok_weaker c.push_text-3.result
    (λ e. e ∙ simp (
      append_assoc,
      c.in_ok-push_pin_rank-2.ensures,
      c.in_ok-push_text-2.ensures,
      c.in_ok-push_pin_rank.ensures,
      c.before_pin.ensures,
      c.in_ok-push_text.ensures,
    ))
    c.push_text-3.ensures
