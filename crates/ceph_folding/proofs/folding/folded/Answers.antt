use Rattle.std.proofs.Common.{◌≡◌, ◌<◌, ◌∙◌, ℕ, Bool, Global, List, Vec, false, inl, inr, length, slice_get, slice_index, subst, take, ap, sym}
use Rattle.std.proofs.lemmas.Result.{err_from_is_err_and}
use Rattle.std.specs.List.{IsAmong}
use Rattle.ceph_snapshot.specs.declared.directory.Directory.{Directory}
use Rattle.ceph_folding.specs.Folding.{AreHoursLeft, IsHome, brought, kept_below, put_together}
use Rattle.ceph_folding.specs.TooMany.{IsPastCount, IsTooMuch}
use Rattle.ceph_snapshot.specs.Holding.{heat_at, inodes_at, parent_at, writes_at, is_marked}
use Rattle.ceph_folding.proofs.Folds.{handed_back, has_left}
use Rattle.ceph_snapshot.proofs.Growth.{growth_for}
use Rattle.ceph_folding.proofs.folding.folded.Goals as goal

pub returns-clause-left : goal.returns-clause-left
returns-clause-left c =
    let ds : List Directory = c.args.directories.items in
    let gone : List Bool = c.args.gone.now in
    let homes : List ℕ = c.in_ok-homes.homes.items in
    let parents : List ℕ = c.in_ok-parents.parents.items in
    let heats : List ℕ = c.in_ok-heats.heats.items in
    let writes : List ℕ = c.in_ok-writes.writes.items in
    let inodes : List ℕ = c.in_ok-inodes.inodes.items in
    let closed : List Directory = c.close_up-kept.new.directories in
    let kept : ℕ = c.close_up-kept.result in
    let nearest : (i : ℕ) → i < length ds → IsHome ds (is_marked gone) i (slice_index homes i) =
    rw c.as_slice-before.ensures.value at c.in_ok-homes.ensures.homes in
    let inside : (i : ℕ) → i < length ds → slice_index homes i < length ds = rw c.as_slice-before.ensures.value at c.in_ok-homes.ensures.inside in
    let warm : (i : ℕ) → i < length ds → slice_index heats i ≡ brought (heat_at ds) (slice_index homes) (length ds) i =
    rw (c.as_slice-before.ensures.value, c.as_slice-at_home.ensures.value) at c.in_ok-heats.ensures.sums in
    let wrote : (i : ℕ) → i < length ds → slice_index writes i ≡ brought (writes_at ds) (slice_index homes) (length ds) i =
    rw (c.as_slice-before.ensures.value, c.as_slice-at_home.ensures.value) at c.in_ok-writes.ensures.sums in
    let many : (i : ℕ) → i < length ds → slice_index inodes i ≡ brought (inodes_at ds) (slice_index homes) (length ds) i =
    rw (c.as_slice-before.ensures.value, c.as_slice-at_home.ensures.value) at c.in_ok-inodes.ensures.sums in
    let ups : (i : ℕ) → i < length ds → slice_index parents i ≡ kept_below (is_marked gone) (slice_index homes (parent_at ds i)) =
    rw (c.as_slice-before.ensures.value, c.as_slice-at_home.ensures.value) at c.in_ok-parents.ensures.parents in
    let count : kept ≡ kept_below (is_marked gone) (length ds) = rw c.deref_mut.ensures.value at c.close_up-kept.ensures.count in
    let closes : (i : ℕ) → i < length ds → is_marked gone i ≡ false
    → slice_get closed (kept_below (is_marked gone) i) ≡ put_together ds parents heats writes inodes i =
    rw (c.deref_mut.ensures.value, c.deref-2.ensures.value, c.deref-3.ensures.value, c.deref-4.ensures.value, c.deref-5.ensures.value) at
    c.close_up-kept.ensures.kept in
    let all : length closed ≡ length ds = c.close_up-kept.ensures.size ∙ ap length c.deref_mut.ensures.value in
    let is : c.truncate.new.self.items ≡ take kept closed = c.truncate.ensures.items
    ∙ ap (take kept) (handed_back closed _ _ (all ∙ sym c.args.directories.ok.0)) in
    let then : AreHoursLeft (is_marked gone) (slice_index homes) c.args.hours.now.items c.in_ok-then.then.items =
    rw (c.deref.ensures.value, c.as_slice-at_home.ensures.value) at c.in_ok-then.ensures.left in (
      slice_index homes,
      has_left ds closed c.truncate.new.self.items gone homes parents heats writes inodes kept nearest inside count closes
          ups warm wrote many all is,
      then,
    )

pub returns-in_err-heats-clause-many : goal.returns-in_err-heats-clause-many
returns-in_err-heats-clause-many c =
    let ds : List Directory = c.args.directories.items in
    let gone : List Bool = c.args.gone.now in
    let home : ℕ → ℕ = slice_index c.in_ok-homes.homes.items in
    let nearest : (i : ℕ) → i < length ds → IsHome ds (is_marked gone) i (home i) =
    rw c.as_slice-before.ensures.value at c.in_ok-homes.ensures.homes in
    let e = err_from_is_err_and c.from_residual-in_err-heats.result c.from_residual-in_err-heats.ensures.1 in
    rw (e.1, e.2)
    (growth_for (IsPastCount (heat_at ds) home (length ds)) (IsTooMuch ds c.args.hours.now.items (is_marked gone)) c.in_err-heats.field-0.0
    (λ past. record { home = home; nearest = nearest; much = inl past })
    (rw (c.as_slice-before.ensures.value, c.as_slice-at_home.ensures.value) at c.in_err-heats.ensures.many))

pub returns-in_err-writes-clause-many : goal.returns-in_err-writes-clause-many
returns-in_err-writes-clause-many c =
    let ds : List Directory = c.args.directories.items in
    let gone : List Bool = c.args.gone.now in
    let home : ℕ → ℕ = slice_index c.in_ok-homes.homes.items in
    let nearest : (i : ℕ) → i < length ds → IsHome ds (is_marked gone) i (home i) =
    rw c.as_slice-before.ensures.value at c.in_ok-homes.ensures.homes in
    let e = err_from_is_err_and c.from_residual-in_err-writes.result c.from_residual-in_err-writes.ensures.1 in
    rw (e.1, e.2)
    (growth_for (IsPastCount (writes_at ds) home (length ds)) (IsTooMuch ds c.args.hours.now.items (is_marked gone)) c.in_err-writes.field-0.0
    (λ past. record { home = home; nearest = nearest; much = inr (inl past) })
    (rw (c.as_slice-before.ensures.value, c.as_slice-at_home.ensures.value) at c.in_err-writes.ensures.many))

pub returns-in_err-inodes-clause-many : goal.returns-in_err-inodes-clause-many
returns-in_err-inodes-clause-many c =
    let ds : List Directory = c.args.directories.items in
    let gone : List Bool = c.args.gone.now in
    let home : ℕ → ℕ = slice_index c.in_ok-homes.homes.items in
    let nearest : (i : ℕ) → i < length ds → IsHome ds (is_marked gone) i (home i) =
    rw c.as_slice-before.ensures.value at c.in_ok-homes.ensures.homes in
    let e = err_from_is_err_and c.from_residual-in_err-inodes.result c.from_residual-in_err-inodes.ensures.1 in
    rw (e.1, e.2)
    (growth_for (IsPastCount (inodes_at ds) home (length ds)) (IsTooMuch ds c.args.hours.now.items (is_marked gone)) c.in_err-inodes.field-0.0
    (λ past. record { home = home; nearest = nearest; much = inr (inr (inl past)) })
    (rw (c.as_slice-before.ensures.value, c.as_slice-at_home.ensures.value) at c.in_err-inodes.ensures.many))

pub returns-in_err-then-clause-many : goal.returns-in_err-then-clause-many
returns-in_err-then-clause-many c =
    let ds : List Directory = c.args.directories.items in
    let gone : List Bool = c.args.gone.now in
    let home : ℕ → ℕ = slice_index c.in_ok-homes.homes.items in
    let hours : List (Vec ℕ Global) = c.args.hours.now.items in
    let nearest : (i : ℕ) → i < length ds → IsHome ds (is_marked gone) i (home i) =
    rw c.as_slice-before.ensures.value at c.in_ok-homes.ensures.homes in
    let e = err_from_is_err_and c.from_residual-in_err-then.result c.from_residual-in_err-then.ensures.1 in
    rw (e.1, e.2)
    (growth_for ((hour : Vec ℕ Global) × IsAmong hours hour × IsPastCount (slice_index hour.items) home (length gone))
    (IsTooMuch ds hours (is_marked gone)) c.in_err-then.field-0.0
    (λ past. record {
      home = home;
      nearest = nearest;
      much = inr (inr (inr (past.0, past.1, subst (IsPastCount (slice_index past.0.items) home) c.requires.size past.2)));
    })
    (rw (c.deref.ensures.value, c.as_slice-at_home.ensures.value) at c.in_err-then.ensures.many))
