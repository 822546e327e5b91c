use Rattle.std.proofs.Common.{◌≡◌, ◌∙◌, ℕ, List, Some, ap, arith, length, length-append, refl, sym}
use Rattle.std.specs.List.{slice_get}
use Rattle.std.proofs.lemmas.Option.{slice_get_read}
use Rattle.ceph_plan.specs.declared.hours.Hour.{Hour}
use Rattle.ceph_plan.specs.ChosenHours.{load_at, load_in_hour}
use Rattle.ceph_plan.specs.Packing.{heats_in}
use Rattle.ceph_plan.proofs.HourLists.{heats-there, more-numbers, pinned-there}
use Rattle.ceph_plan.proofs.hour_choice.loads_of.Goals as goal

pub loop-hour-preserved : goal.loop-hour-preserved
loop-hour-preserved c =
    let ranks : ℕ = c.args.ranks in
    let hours : List Hour = c.args.hours.now in
    let i : ℕ = c.loop-hour.hour-index in
    let hour : Hour = c.hour-item.result in
    let there : slice_get hours i ≡ Some hour = slice_get_read hours (length hours) i hour refl c.loop-hour-test.true c.hour-item.is in
    record {
      size = ap length c.in_ok-push.ensures.items ∙ simp length-append (omega (arith, c.loop-hour.invariant.size));
      loads = more-numbers (λ (h load : ℕ). load ≡ load_in_hour ranks hours h) c.loop-hour.loads.items c.push.new.self.items i c.load_of.result
          c.loop-hour.invariant.size c.in_ok-push.ensures.items
          (c.load_of.ensures
          ∙ (ap (λ (xs : List ℕ). load_at ranks xs hour.pinned.items) (sym (heats-there hours i hour there))
          ∙ ap (λ (xs : List ℕ). load_at ranks (heats_in hours i) xs) (sym (pinned-there hours i hour there))))
          c.loop-hour.invariant.loads;
    }
