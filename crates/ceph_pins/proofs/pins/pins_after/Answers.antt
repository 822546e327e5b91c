use Rattle.std.proofs.Common.{◌∙◌, ◌==◌, ℕ, List, Option, ap, sym, arith, take, cond}
use Rattle.ceph_plan.specs.Changes.{applied, changed}
use Rattle.ceph_plan.specs.declared.row.PinChange.{PinChange}
use Rattle.ceph_pins.specs.OwnList.{earlier_pin}
use Rattle.ceph_pins.proofs.Changing.{applied_next}
use Rattle.ceph_pins.proofs.pins.pins_after.Goals as goal

pub loop-change-preserved : goal.loop-change-preserved
loop-change-preserved c =
    let changes : List PinChange = c.args.changes.now in
    let own : ℕ → Option ℕ = earlier_pin c.args.rows.now in
    let n : ℕ = c.loop-change.change-index in
    let change : PinChange = c.change-item.result in
    record {
      size = c.change_pin.ensures.size ∙ c.loop-change.invariant.size;
      pins = λ i l.
          c.change_pin.ensures.pins i (omega (arith, l, c.loop-change.invariant.size))
          ∙ (ap (λ (pin : Option ℕ). cond (change.row == i) change.pin pin) (c.loop-change.invariant.pins i l)
          ∙ (ap (λ (one : PinChange). changed (applied own (take n changes)) one i) c.change-item.is
          ∙ sym (applied_next own changes n change i c.loop-change-test.true)));
    }
