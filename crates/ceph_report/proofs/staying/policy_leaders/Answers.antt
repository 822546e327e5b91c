use Rattle.std.proofs.Common.{◌≡◌, ◌∙◌, ◌+◌, ◌<◌, ◌≤◌, ◌++◌, ◌∷◌, [], ℕ, Bool, List, Option, Some, ap, arith, get_or, length, refl, slice_get, sym, subst}
use Rattle.std.specs.Option.{option_map_or}
use Rattle.std.proofs.lemmas.Option.{slice_get_read}
use Rattle.ceph_snapshot.specs.declared.directory.Directory.{Directory}
use Rattle.ceph_snapshot.specs.Holding.{parent_at}
use Rattle.ceph_report.specs.Moves.{AreLeaders, leader_of}
use Rattle.ceph_report.specs.Staying.{has_policy_at}
use Rattle.ceph_report.proofs.Led.{above_more, leaders_more}
use Rattle.ceph_report.proofs.Totals.{policy_is}
use Rattle.ceph_report.proofs.staying.policy_leaders.Goals as goal

pub loop-at-preserved : goal.loop-at-preserved
loop-at-preserved c =
    let ds : List Directory = c.args.directories.now in
    let items : List ℕ = c.loop-at.leaders.items in
    let at : ℕ = c.loop-at.at in
    let size : length items ≡ at = c.loop-at.invariant.led.size in
    let one : ℕ = c.leader-one.result in
    let d : Directory = c.index-directories-at.result in
    let inside : at < length ds = omega (arith, c.loop-at-test.true) in
    let read : slice_get ds at ≡ Some d = slice_get_read ds (length ds) at d refl inside c.index-directories-at.is in
    let parent : d.parent ≡ parent_at ds at = sym (ap (λ (o : Option Directory). option_map_or (λ (one : Directory). one.parent) o 0) read) in
    let leads : c.is_some-has_policy.result ≡ has_policy_at ds at = c.is_some-has_policy.ensures ∙ policy_is ds at d read in
    let is : one ≡ leader_of (has_policy_at ds at) (parent_at ds at) at items =
    c.leader-one.ensures.is
    ∙ (ap (λ (xs : List ℕ). leader_of c.is_some-has_policy.result d.parent (length xs) xs) c.deref.ensures.value
    ∙ (ap (λ (k : ℕ). leader_of c.is_some-has_policy.result d.parent k items) size
    ∙ (ap (λ (p : Bool). leader_of p d.parent at items) leads
    ∙ ap (λ (p : ℕ). leader_of (has_policy_at ds at) p at items) parent))) in
    let last : one ≤ length items = subst (λ (xs : List ℕ). one ≤ length xs) c.deref.ensures.value c.leader-one.ensures.above in
    let pushed : c.push.new.self.items ≡ items ++ one ∷ [] = c.in_ok-push.ensures.items in
    subst (λ (xs : List ℕ). record {
      led : AreLeaders (parent_at ds) (has_policy_at ds) (at + 1) xs;
      above : (i : ℕ) → i < at + 1 → get_or xs i 0 ≤ i;
    }) (sym pushed) (record {
      led = leaders_more (parent_at ds) (has_policy_at ds) items at one c.loop-at.invariant.led is;
      above = above_more items at one size c.loop-at.invariant.above last;
    })
