use Rattle.std.proofs.Common.{◌≡◌, ◌<◌, ◌-◌, ◌∙◌, ◌⊎◌, ◌↔◌, ◌==◌, ◌&&◌, ◌||◌, ℕ, Bool, List}
use Rattle.std.proofs.Common.{Option, Some, None, false, true, length, slice_get, refl, ap, sym, subst}
use Rattle.std.specs.Option.{option_map_or}
use Rattle.std.proofs.lemmas.List.{get_or_read}
use Rattle.std.proofs.lemmas.Option.{slice_get_read}
use Rattle.ceph_dumps.specs.declared.listing.EphemeralPin.TheVariants.{Random}
use Rattle.ceph_snapshot.specs.declared.directory.Directory.{Directory}
use Rattle.ceph_snapshot.specs.Holding.{is_marked, parent_at, pin_at}
use Rattle.ceph_snapshot.specs.Policies.{HasBeaten, policy_at}
use Rattle.ceph_snapshot.proofs.Adding.{add-back, before-inside}
use Rattle.ceph_snapshot.proofs.Beaten.{beaten_more, so_read}
use Rattle.ceph_snapshot.proofs.policies.above_random.Goals as goal

pub loop-at-preserved : goal.loop-at-preserved
loop-at-preserved c =
    let ds : List Directory = c.args.directories.now in
    let marks : List Bool = c.loop-at.marks.items in
    let at : ℕ = c.loop-at.at - 1 in
    let d : Directory = c.index-directories-at.result in
    let is_so : Bool = c.is_beaten-is_so.result in
    let low : 0 < at = (before-inside c.loop-at.at (length ds) c.loop-at-test.true c.loop-at.auto.at).0 in
    let inside : at < length ds = (before-inside c.loop-at.at (length ds) c.loop-at-test.true c.loop-at.auto.at).1 in
    let read : slice_get ds at ≡ Some d = slice_get_read ds (length ds) at d refl inside c.index-directories-at.is in
    let parent : d.parent ≡ parent_at ds at = sym (ap (λ (o : Option Directory). option_map_or (λ (one : Directory). one.parent) o 0) read) in
    let within : at < length marks = subst (λ (n : ℕ). at < n) (sym c.loop-at.invariant.size) inside in
    let was : c.index.result.now ≡ is_marked marks at = get_or_read marks at c.index.result.now within c.index.ensures false in
    let so : (is_so ≡ true) ↔ ((pin_at ds at ≡ None) × ((is_marked marks at ≡ true) ⊎ (policy_at ds at ≡ Some Random))) =
    so_read ds at d c.index.result.now (is_marked marks at) is_so read was c.is_beaten-is_so.ensures in
    let made : (i : ℕ) → 0 < i → i < length ds → is_marked c.mark_if.new.marks.items i ≡ (is_so && (i == parent_at ds at)) || is_marked marks i =
    λ i some below. subst (λ (p : ℕ). is_marked c.mark_if.new.marks.items i ≡ (is_so && (i == p)) || is_marked marks i) parent
    (c.mark_if.ensures.marks i some (subst (λ (n : ℕ). i < n) (sym c.loop-at.invariant.size) below)) in
    record {
      size = c.mark_if.ensures.size ∙ c.loop-at.invariant.size;
      marks = λ first. beaten_more ds (is_marked marks) (is_marked c.mark_if.new.marks.items) at is_so first low inside
          (λ i some below. subst (λ (n : ℕ). (is_marked marks i ≡ true) ↔ HasBeaten ds n i)
          (sym (add-back c.loop-at.at c.loop-at-test.true)) (c.loop-at.invariant.marks first i some below))
          so made;
    }
