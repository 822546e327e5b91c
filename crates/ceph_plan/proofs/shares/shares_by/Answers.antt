use Rattle.std.proofs.Common.{◌≡◌, ◌∙◌, [], ℕ, List, Option, Some, ap, arith, length, length-append, refl, slice_index, subst, sym}
use Rattle.std.specs.List.{slice_get}
use Rattle.std.specs.Option.{option_map_or}
use Rattle.std.proofs.lemmas.Option.{slice_get_read}
use Rattle.ceph_plan.specs.declared.hours.Hour.{Hour}
use Rattle.ceph_plan.specs.Packing.{heats_in, pinned_in}
use Rattle.ceph_plan.specs.Shares.{CountFor}
use Rattle.ceph_plan.proofs.HourLists.{heats-there, more-hours, pinned-there}
use Rattle.ceph_plan.proofs.shares.shares_by.Goals as goal

pub loop-h-preserved : goal.loop-h-preserved
loop-h-preserved c =
    let hours : List Hour = c.args.hours.now in
    let n : ℕ = length hours in
    let bounds : List ℕ = c.args.bounds.now in
    let weights : List ℕ = c.args.weights.now in
    let h : ℕ = c.loop-h.h in
    let hour : Hour = c.index-hours-h.result in
    let new : Hour = c.in_ok-share_hour.field-0 in
    let there : slice_get hours h ≡ Some hour = slice_get_read hours n h hour refl c.loop-h-test.true c.index-hours-h.is in
    record {
      size = ap length c.in_ok-push.ensures.items ∙ simp length-append (omega (arith, c.loop-h.invariant.size));
      heats = more-hours (λ (k : ℕ) (o : Option Hour). CountFor n (slice_index bounds k) (slice_index weights k) (heats_in hours k)
          (option_map_or (λ (one : Hour). one.heats.items) o []))
          c.loop-h.found.items c.push.new.self.items h new c.loop-h.invariant.size c.in_ok-push.ensures.items
          (subst (λ (xs : List ℕ). CountFor n (slice_index bounds h) (slice_index weights h) xs new.heats.items)
          (sym (heats-there hours h hour there)) c.in_ok-share_hour.ensures.heats)
          c.loop-h.invariant.heats;
      pinned = more-hours (λ (k : ℕ) (o : Option Hour). CountFor n (slice_index bounds k) (slice_index weights k) (pinned_in hours k)
          (option_map_or (λ (one : Hour). one.pinned.items) o []))
          c.loop-h.found.items c.push.new.self.items h new c.loop-h.invariant.size c.in_ok-push.ensures.items
          (subst (λ (xs : List ℕ). CountFor n (slice_index bounds h) (slice_index weights h) xs new.pinned.items)
          (sym (pinned-there hours h hour there)) c.in_ok-share_hour.ensures.pinned)
          c.loop-h.invariant.pinned;
    }
