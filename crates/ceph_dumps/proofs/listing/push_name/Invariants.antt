use Rattle.std.proofs.Common.{◌≡◌, ◌++◌, length}
use Rattle.ceph_dumps.specs.OwnList.{named_bytes}
use Rattle.ceph_dumps.proofs.listing.push_name.Given as goal

-- what is added so far, with what the rest means, is all that the name means
abbrev pub invariant-loop-rest : goal.invariant-loop-rest
invariant-loop-rest l = l.path.items ++ named_bytes 0 l.rest ≡ l.initial.path.items ++ named_bytes 0 l.name

abbrev pub decreases-loop-rest : goal.decreases-loop-rest
decreases-loop-rest l = length l.rest
