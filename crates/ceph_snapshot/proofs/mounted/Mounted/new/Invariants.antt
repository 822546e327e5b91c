use Rattle.std.proofs.Common.{ℕ, nat_eq, take}
use Rattle.std.specs.HashMap.{get}
use Rattle.ceph_snapshot.specs.Mounts.{paths_of}
use Rattle.ceph_snapshot.specs.Places.{IsNumberPlace}
use Rattle.ceph_snapshot.proofs.mounted.Mounted.new.Given as goal

abbrev pub invariant-loop-at : goal.invariant-loop-at
invariant-loop-at l = (number : ℕ) → IsNumberPlace l.listing.items (paths_of (take l.at l.listing.items) number) (get nat_eq l.places number)
