use Rattle.std.proofs.Common.{◌≡◌, ◌<◌, ℕ, false, true, get_or, slice_index}
use Rattle.mds_types.specs.Problem.{now_at}
use Rattle.mds_types.specs.RankSet.{has_rank}
use Rattle.ceph_plan.specs.Candidates.{Leaves}
use Rattle.ceph_plan.proofs.candidate.is_cold_staying.Given as goal

abbrev pub invariant-loop-i : goal.invariant-loop-i
invariant-loop-i l =
    (j : ℕ) → j < l.i → has_rank l.ranks (now_at l.rows j) ≡ true → Leaves l.rows l.part l.rank j → get_or l.warm (slice_index l.part j) false ≡ true
