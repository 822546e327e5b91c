use Rattle.std.proofs.Common.{◌≡◌, ◌++◌, List, take}
use Rattle.ceph_snapshot.specs.Facts.{Fact, values_in}
use Rattle.ceph_snapshot.specs.Heard.{HasTold}
use Rattle.ceph_snapshot.proofs.gathering.Gathering.add_values.Given as goal

abbrev pub invariant-loop-listed : goal.invariant-loop-listed
invariant-loop-listed l = record {
  claims : l.self.fragments ≡ l.fn.self.fragments;
  seen : l.self.tree.seen ≡ l.fn.self.tree.seen;
  told : (facts : List Fact) → HasTold l.fn.self facts → HasTold l.self (facts ++ values_in (take l.listed-index l.listing));
  listed : l.self.is_listed ≡ l.fn.self.is_listed;
  numbered : l.self.is_numbered ≡ l.fn.self.is_numbered;
}
