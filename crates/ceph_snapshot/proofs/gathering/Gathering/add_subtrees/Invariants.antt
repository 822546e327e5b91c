use Rattle.std.proofs.Common.{◌≡◌, ◌<◌, ◌++◌, ℕ, List, Some, get_or, take}
use Rattle.ceph_dumps.specs.declared.subtrees.SubtreeRoot.{SubtreeRoot}
use Rattle.ceph_snapshot.specs.Authority.{IsClaim, StillClaimed}
use Rattle.ceph_snapshot.specs.Facts.{Fact, roots_in}
use Rattle.ceph_snapshot.specs.Heard.{HasTold}
use Rattle.ceph_snapshot.specs.Names.{path_number}
use Rattle.ceph_snapshot.proofs.gathering.Gathering.add_subtrees.Given as goal

abbrev pub invariant-loop-root : goal.invariant-loop-root
invariant-loop-root l = record {
  claimed : (k : ℕ) (d : SubtreeRoot) → k < l.root-index → (fragment : List ℕ) → IsClaim (get_or l.roots k d) fragment
      → path_number l.self.fragments fragment ≡ Some l.rank;
  kept : StillClaimed l.fn.self.fragments l.self.fragments;
  seen : l.self.tree.seen ≡ l.fn.self.tree.seen;
  told : (facts : List Fact) → HasTold l.fn.self facts → HasTold l.self (facts ++ roots_in l.rank (take l.root-index l.roots));
  listed : l.self.is_listed ≡ l.fn.self.is_listed;
  numbered : l.self.is_numbered ≡ l.fn.self.is_numbered;
}
