use Rattle.std.proofs.Common.{◌≡◌, ◌∙◌, ℕ, List, Some, ap, arith, length, length-append, refl, subst, sym}
use Rattle.std.specs.List.{slice_get}
use Rattle.std.proofs.lemmas.Option.{slice_get_read}
use Rattle.ceph_plan.specs.declared.hours.Hour.{Hour}
use Rattle.ceph_plan.specs.Packing.{heats_in, pinned_in}
use Rattle.ceph_plan.specs.Shares.{IsBoundOfHour}
use Rattle.ceph_plan.proofs.HourLists.{heats-there, more-numbers, pinned-there}
use Rattle.ceph_plan.proofs.shares.bounds_of.Goals as goal

pub loop-hour-preserved : goal.loop-hour-preserved
loop-hour-preserved c =
    let ranks : ℕ = c.args.ranks in
    let hours : List Hour = c.args.hours.now in
    let i : ℕ = c.loop-hour.hour-index in
    let hour : Hour = c.hour-item.result in
    let there : slice_get hours i ≡ Some hour = slice_get_read hours (length hours) i hour refl c.loop-hour-test.true c.hour-item.is in
    record {
      size = ap length c.in_ok-push.ensures.items ∙ simp length-append (omega (arith, c.loop-hour.invariant.size));
      bounds = more-numbers (λ (h bound : ℕ). IsBoundOfHour ranks (pinned_in hours h) (heats_in hours h) bound) c.loop-hour.bounds.items
          c.push.new.self.items i c.hour_bound.result
          c.loop-hour.invariant.size c.in_ok-push.ensures.items
          (subst (λ (xs : List ℕ). IsBoundOfHour ranks xs (heats_in hours i) c.hour_bound.result) (sym (pinned-there hours i hour there))
          (subst (λ (xs : List ℕ). IsBoundOfHour ranks hour.pinned.items xs c.hour_bound.result) (sym (heats-there hours i hour there)) c.hour_bound.ensures))
          c.loop-hour.invariant.bounds;
    }
