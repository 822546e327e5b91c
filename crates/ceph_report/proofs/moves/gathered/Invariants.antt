use Rattle.std.proofs.Common.{◌≡◌, ℕ, None, get_or, slice_index}
use Rattle.ceph_report.specs.Moves.{pin_move, moves_below}
use Rattle.ceph_report.proofs.moves.gathered.Given as goal

abbrev pub invariant-loop-at : goal.invariant-loop-at
invariant-loop-at l = l.moves.items ≡ moves_below (λ (i : ℕ). pin_move (get_or l.pins i None) (slice_index l.inodes i) (slice_index l.heats i) i) l.at
