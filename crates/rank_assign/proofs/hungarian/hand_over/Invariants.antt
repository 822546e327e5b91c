use Rattle.std.proofs.Common.{length, slice_index}
use Rattle.rank_assign.specs.Ways.{via_at, turn_at}
use Rattle.rank_assign.proofs.HandLemmas.{IsHanding}
use Rattle.rank_assign.proofs.hungarian.hand_over.Given as goal

abbrev pub decreases-loop-place : goal.decreases-loop-place
decreases-loop-place l = turn_at l.ways l.place

abbrev pub invariant-loop-place : goal.invariant-loop-place
invariant-loop-place l =
    IsHanding (length l.initial.owners) (slice_index l.initial.owners) (via_at l.ways) (turn_at l.ways) (slice_index l.owners) l.part
    l.place
