use Rattle.std.proofs.Common.{◌≡◌, ◌++◌, length}
use Rattle.ceph_dumps.specs.WideBytes.{wide}
use Rattle.ceph_dumps.proofs.wide_bytes.widened.Given as goal

-- what is widened so far, with the rest widened, is all of it widened
abbrev pub invariant-loop-rest : goal.invariant-loop-rest
invariant-loop-rest l = l.text.items ++ wide l.rest ≡ wide l.bytes

abbrev pub decreases-loop-rest : goal.decreases-loop-rest
decreases-loop-rest l = length l.rest
