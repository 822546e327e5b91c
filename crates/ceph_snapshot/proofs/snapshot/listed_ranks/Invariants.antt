use Rattle.std.proofs.Common.{◌≡◌, ℕ, List, take}
use Rattle.std.specs.HashMap.{get_by}
use Rattle.std.specs.Str.{bytes_eq}
use Rattle.ceph_snapshot.specs.Gathered.{listed_rank}
use Rattle.ceph_snapshot.proofs.snapshot.listed_ranks.Given as goal

abbrev pub invariant-loop-pin : goal.invariant-loop-pin
invariant-loop-pin l = (path : List ℕ) → get_by (λ key. bytes_eq path key.items) l.ranks ≡ listed_rank (take l.pin-index l.own) path
