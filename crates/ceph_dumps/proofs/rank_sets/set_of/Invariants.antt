use Rattle.std.proofs.Common.{◌≡◌, ◌<◌, ◌↔◌, ℕ, slice_index, true}
use Rattle.mds_types.specs.RankSet.{has_rank}
use Rattle.ceph_dumps.proofs.rank_sets.set_of.Given as goal

-- the ranks so far are the numbers so far
abbrev pub invariant-loop-number : goal.invariant-loop-number
invariant-loop-number l = (rank : ℕ) → rank < 64 → (has_rank l.bits rank ≡ true) ↔ ((at : ℕ) × (at < l.number-index) × (slice_index l.numbers at ≡ rank))
