use Rattle.std.proofs.Common.{◌≡◌, ◌<◌, ◌↔◌, ℕ, Bool, List, true, length, slice_get, subst}
use Rattle.std.specs.Option.{option_map}
use Rattle.ceph_snapshot.specs.declared.directory.Directory.{Directory}
use Rattle.ceph_snapshot.specs.Holding.{AreParentsFirst, is_marked}
use Rattle.ceph_snapshot.specs.Policies.{HasBeaten, kept_where}
use Rattle.ceph_snapshot.proofs.Beaten.{are_kept}
use Rattle.ceph_snapshot.proofs.Owners.{numbers_kept, owner_kept}
use Rattle.ceph_snapshot.proofs.policies.keep.Goals as goal

pub returns-clause-kept : goal.returns-clause-kept
returns-clause-kept c =
    let old : List Directory = c.args.directories.now.items in
    let new : List Directory = c.mark_kept.new.directories.items in
    let marks : List Bool = c.in_ok-above.above.items in
    are_kept old new marks c.mark_kept.ensures.size
    (subst (λ (bs : List Bool). (i : ℕ) → i < length old → slice_get new i ≡ option_map (kept_where (is_marked bs i)) (slice_get old i))
    c.as_slice-2.ensures.value c.mark_kept.ensures.kept)
    (subst (λ (ds : List Directory). AreParentsFirst ds → (i : ℕ) → 0 < i → i < length ds → (is_marked marks i ≡ true) ↔ HasBeaten ds 1 i)
    c.as_slice.ensures.value c.in_ok-above.ensures.marks)

pub returns-clause-owner : goal.returns-clause-owner
returns-clause-owner c =
    let old : List Directory = c.args.directories.now.items in
    let new : List Directory = c.mark_kept.new.directories.items in
    let marks : List Bool = c.in_ok-above.above.items in
    owner_kept old new marks c.mark_kept.ensures.size
    (subst (λ (bs : List Bool). (i : ℕ) → i < length old → slice_get new i ≡ option_map (kept_where (is_marked bs i)) (slice_get old i))
    c.as_slice-2.ensures.value c.mark_kept.ensures.kept)

pub returns-clause-numbers : goal.returns-clause-numbers
returns-clause-numbers c =
    let old : List Directory = c.args.directories.now.items in
    let new : List Directory = c.mark_kept.new.directories.items in
    let marks : List Bool = c.in_ok-above.above.items in
    numbers_kept old new marks c.mark_kept.ensures.size
    (subst (λ (bs : List Bool). (i : ℕ) → i < length old → slice_get new i ≡ option_map (kept_where (is_marked bs i)) (slice_get old i))
    c.as_slice-2.ensures.value c.mark_kept.ensures.kept)
