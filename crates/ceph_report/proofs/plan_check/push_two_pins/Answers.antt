use Rattle.std.proofs.Common.{◌∙◌, append_assoc}
use Rattle.std.proofs.lemmas.Result.{on_ok_weaker}
use Rattle.ceph_report.specs.PlanCheck.{two_pins_text}
use Rattle.ceph_report.proofs.plan_check.push_two_pins.Goals as goal

pub returns : goal.returns
unfolding two_pins_text
returns c = on_ok_weaker c.push_text-3.result (λ e. e
    ∙ simp (append_assoc, c.in_ok-push_text.ensures, c.in_ok-push_pin.ensures, c.in_ok-push_text-2.ensures, c.in_ok-push_pin-2.ensures))
    c.push_text-3.ensures
