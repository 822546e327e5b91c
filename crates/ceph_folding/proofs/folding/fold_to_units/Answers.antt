use Rattle.std.proofs.Common.{◌≡◌, ◌<◌, ◌≤◌, ℕ, Bool, List, arith, false, length, not, subst, true}
use Rattle.mds_types.proofs.SumsLemmas.{count_below-le}
use Rattle.ceph_snapshot.specs.declared.directory.Directory.{Directory}
use Rattle.ceph_snapshot.specs.Holding.{AreParentsFirst, is_marked}
use Rattle.ceph_folding.specs.Folding.{AreHoursLeft, HasLeft, IsPlain}
use Rattle.ceph_folding.proofs.ParentsFirst.{first_left}
use Rattle.ceph_folding.proofs.Folds.{same_heat, same_inodes, same_writes}
use Rattle.ceph_folding.proofs.StillKept.{still-unpinnable, units-kept}
use Rattle.ceph_folding.proofs.folding.fold_to_units.Goals as goal

-- no more are left than there were
no_more : (ds left : List Directory) (gone : ℕ → Bool) (home : ℕ → ℕ) → HasLeft ds left gone home → length left ≤ length ds
no_more ds left gone home has = omega (arith, has.size, count_below-le (length ds) (λ i. not (gone i)))

pub overflow_sub-folded : goal.overflow_sub-folded
overflow_sub-folded c =
    omega (arith, no_more _ _ _ _ c.in_ok-left.ensures.left.1, c.in_ok-left.left.ok.0, c.args.directories.ok.0, c.len.ensures, c.len-count.ensures)

pub returns-clause-units : goal.returns-clause-units
returns-clause-units c =
    let ds : List Directory = c.args.directories.items in
    let gone : List Bool = c.in_ok-gone.gone.items in
    record {
      gone = is_marked gone;
      home = c.in_ok-left.ensures.left.0;
      plain = subst (λ (those : List Directory). (i : ℕ) → i < length those → is_marked gone i ≡ true → IsPlain those i)
          c.deref-2.ensures.value c.in_ok-gone.ensures.plain;
      other = subst (λ (those : List Directory). (i : ℕ) → i < length those → is_marked gone i ≡ true
          → is_marked c.args.units.now i ≡ false) c.deref-2.ensures.value c.in_ok-gone.ensures.other;
      all = subst (λ (those : List Directory). (i : ℕ) → i < length those → IsPlain those i → is_marked c.args.units.now i ≡ false
          → is_marked gone i ≡ true) c.deref-2.ensures.value c.in_ok-gone.ensures.all;
      has = subst (λ (marks : List Bool). HasLeft ds c.in_ok-left.left.items (is_marked marks) c.in_ok-left.ensures.left.0)
          c.deref-3.ensures.value c.in_ok-left.ensures.left.1;
    }

pub returns-clause-kept : goal.returns-clause-kept
returns-clause-kept c = units-kept c.args.directories.items c.in_ok-left.left.items (is_marked c.args.units.now) (returns-clause-units c)

pub returns-clause-unpinnable : goal.returns-clause-unpinnable
returns-clause-unpinnable c = still-unpinnable c.args.directories.items c.in_ok-left.left.items (returns-clause-kept c)

pub returns-clause-count : goal.returns-clause-count
returns-clause-count c =
    omega (arith, no_more _ _ _ _ c.in_ok-left.ensures.left.1, c.in_ok-left.left.ok.0, c.args.directories.ok.0, c.len.ensures, c.len-count.ensures)

pub returns-clause-heat : goal.returns-clause-heat
returns-clause-heat c = same_heat _ _ _ _ c.in_ok-left.ensures.left.1

pub returns-clause-writes : goal.returns-clause-writes
returns-clause-writes c = same_writes _ _ _ _ c.in_ok-left.ensures.left.1

pub returns-clause-inodes : goal.returns-clause-inodes
returns-clause-inodes c = same_inodes _ _ _ _ c.in_ok-left.ensures.left.1

pub returns-clause-hours : goal.returns-clause-hours
returns-clause-hours c = (
  is_marked c.in_ok-gone.gone.items,
  c.in_ok-left.ensures.left.0,
  subst (λ (gone : List Bool). HasLeft c.args.directories.items c.in_ok-left.left.items (is_marked gone) c.in_ok-left.ensures.left.0)
      c.deref-3.ensures.value c.in_ok-left.ensures.left.1,
  subst (λ (gone : List Bool). AreHoursLeft (is_marked gone) c.in_ok-left.ensures.left.0 c.args.hours.now.items c.folded.new.hours.items)
      c.deref-3.ensures.value c.in_ok-left.ensures.left.2,
)

pub returns-clause-first : goal.returns-clause-first
returns-clause-first c =
    let ds : List Directory = c.args.directories.items in
    let left = returns-clause-units c in
    let first : AreParentsFirst ds =
    subst AreParentsFirst c.deref.ensures.value (c.are_parents_first.ensures.0 c.if-not-are_parents_first.false) in
    first_left ds c.in_ok-left.left.items left.gone left.home first left.plain left.has
