use Rattle.std.proofs.Common.{◌<◌, ℕ, slice_index}
use Rattle.mds_types.specs.declared.limits.TheConstants.{RANK_LIMIT}
use Rattle.ceph_dumps.proofs.cluster.ranks_of.Given as goal

-- all numbers so far are those of ranks
abbrev pub invariant-loop-number : goal.invariant-loop-number
invariant-loop-number l = (i : ℕ) → i < l.number-index → slice_index l.numbers i < RANK_LIMIT
