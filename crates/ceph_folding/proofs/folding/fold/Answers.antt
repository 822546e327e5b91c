use Rattle.std.proofs.Common.{Bool, List, false, subst}
use Rattle.ceph_snapshot.specs.declared.directory.Directory.{Directory}
use Rattle.ceph_folding.specs.Folding.{AreGone, AreHoursLeft, HasLeft}
use Rattle.ceph_snapshot.specs.Holding.{is_marked}
use Rattle.ceph_folding.proofs.Folds.{nothing_folded, nothing_left, same_heat, same_inodes, same_writes}
use Rattle.ceph_folding.proofs.FoldedHours.{hours_same}
use Rattle.ceph_folding.proofs.StillKept.{folded-kept, still-kept}
use Rattle.ceph_folding.proofs.folding.fold.Goals as goal

pub returns-then-count-limit-clause-folded : goal.returns-then-count-limit-clause-folded
returns-then-count-limit-clause-folded c = nothing_folded c.args.directories.items

pub returns-clause-heat : goal.returns-clause-heat
returns-clause-heat c = same_heat _ _ _ _ c.in_ok-left.ensures.left.1

pub returns-clause-writes : goal.returns-clause-writes
returns-clause-writes c = same_writes _ _ _ _ c.in_ok-left.ensures.left.1

pub returns-clause-inodes : goal.returns-clause-inodes
returns-clause-inodes c = same_inodes _ _ _ _ c.in_ok-left.ensures.left.1

pub returns-then-count-limit-clause-unpinnable : goal.returns-then-count-limit-clause-unpinnable
returns-then-count-limit-clause-unpinnable c = λ keep. still-kept c.args.directories.items c.args.directories.items
    (nothing_folded c.args.directories.items) keep

pub returns-clause-unpinnable : goal.returns-clause-unpinnable
returns-clause-unpinnable c = λ keep.
    still-kept c.args.directories.items c.in_ok-left.left.items (
      is_marked c.in_ok-gone.gone.items,
      c.in_ok-left.ensures.left.0,
      subst (λ (ds : List Directory). AreGone ds (is_marked c.in_ok-gone.gone.items)) c.deref-2.ensures.value c.in_ok-gone.ensures.gone,
      subst (λ (gone : List Bool). HasLeft c.args.directories.items c.in_ok-left.left.items (is_marked gone) c.in_ok-left.ensures.left.0)
          c.deref-3.ensures.value c.in_ok-left.ensures.left.1,
    ) keep

pub returns-then-count-limit-clause-kept : goal.returns-then-count-limit-clause-kept
returns-then-count-limit-clause-kept c = folded-kept c.args.directories.items c.args.directories.items (nothing_folded c.args.directories.items)

pub returns-clause-kept : goal.returns-clause-kept
returns-clause-kept c =
    folded-kept c.args.directories.items c.in_ok-left.left.items (
      is_marked c.in_ok-gone.gone.items,
      c.in_ok-left.ensures.left.0,
      subst (λ (ds : List Directory). AreGone ds (is_marked c.in_ok-gone.gone.items)) c.deref-2.ensures.value c.in_ok-gone.ensures.gone,
      subst (λ (gone : List Bool). HasLeft c.args.directories.items c.in_ok-left.left.items (is_marked gone) c.in_ok-left.ensures.left.0)
          c.deref-3.ensures.value c.in_ok-left.ensures.left.1,
    )

pub returns-then-count-limit-clause-hours : goal.returns-then-count-limit-clause-hours
returns-then-count-limit-clause-hours c = (λ i. false, λ i. i, nothing_left c.args.directories.items, hours_same c.args.hours.now.items)

pub returns-clause-hours : goal.returns-clause-hours
returns-clause-hours c = (
  is_marked c.in_ok-gone.gone.items,
  c.in_ok-left.ensures.left.0,
  subst (λ (gone : List Bool). HasLeft c.args.directories.items c.in_ok-left.left.items (is_marked gone) c.in_ok-left.ensures.left.0)
      c.deref-3.ensures.value c.in_ok-left.ensures.left.1,
  subst (λ (gone : List Bool). AreHoursLeft (is_marked gone) c.in_ok-left.ensures.left.0 c.args.hours.now.items c.folded.new.hours.items)
      c.deref-3.ensures.value c.in_ok-left.ensures.left.2,
)
