use Rattle.std.proofs.Common.{◌≡◌, ◌&&◌, ℕ, nat_lt}
use Rattle.mds_types.specs.RankSet.{has_rank}
use Rattle.ceph_dumps.proofs.rank_sets.common_ranks.Given as goal

-- the ranks of both below this one
abbrev pub invariant-loop-number : goal.invariant-loop-number
invariant-loop-number l = (rank : ℕ) → has_rank l.bits rank ≡ (nat_lt rank l.number && (has_rank l.one rank && has_rank l.other rank))
