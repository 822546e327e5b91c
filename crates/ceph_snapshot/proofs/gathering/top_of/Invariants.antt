use Rattle.std.proofs.Common.{◌≢◌, ◌<◌, ℕ, get_or}
use Rattle.ceph_snapshot.proofs.gathering.top_of.Given as goal

-- no slash so far but the first byte
abbrev pub invariant-loop-end : goal.invariant-loop-end
invariant-loop-end l = (k : ℕ) → 0 < k → k < l.end → get_or l.path k 0 ≢ 47
