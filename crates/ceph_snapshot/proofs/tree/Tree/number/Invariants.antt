use Rattle.std.proofs.Common.{◌≡◌, take}
use Rattle.ceph_snapshot.specs.Facts.{StillTold}
use Rattle.ceph_snapshot.specs.Named.{AreOldOr}
use Rattle.ceph_snapshot.specs.Names.{IsAtOrAbove}
use Rattle.ceph_snapshot.specs.Sightings.{IsParentOf}
use Rattle.ceph_snapshot.proofs.tree.Tree.number.Given as goal

-- the path up to here lies below the directory with this number
abbrev pub invariant-loop-end : goal.invariant-loop-end
invariant-loop-end l = record {
  seen : l.self.seen ≡ l.fn.self.seen;
  kept : StillTold l.fn.self.nodes l.self.nodes;
  only : AreOldOr l.fn.self.nodes (λ other. IsAtOrAbove other l.path) l.self.nodes;
  above : IsParentOf l.self.nodes (take l.end l.path) l.number;
}
