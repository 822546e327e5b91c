use Rattle.std.proofs.Common.{◌≡◌, ◌++◌, take}
use Rattle.ceph_snapshot.specs.Heard.{StillHasTold}
use Rattle.ceph_snapshot.specs.Sightings.{seen_in}
use Rattle.ceph_snapshot.proofs.gathering.Gathering.add_loads.Given as goal

abbrev pub invariant-loop-fragment : goal.invariant-loop-fragment
invariant-loop-fragment l = record {
  seen : l.self.tree.seen ≡ l.fn.self.tree.seen ++ seen_in l.rank (take l.fragment-index l.loads);
  told : StillHasTold l.fn.self l.self;
  listed : l.self.is_listed ≡ l.fn.self.is_listed;
  numbered : l.self.is_numbered ≡ l.fn.self.is_numbered;
}
