use Rattle.std.proofs.Common.{ℕ, ◌+◌, slice_index}
use Rattle.ceph_report.specs.Amounts.{AreAmounts, heat_now}
use Rattle.ceph_report.proofs.moves.heats_now.Given as goal

abbrev pub invariant-loop-at : goal.invariant-loop-at
invariant-loop-at l = AreAmounts l.heats.items (λ (r : ℕ). slice_index l.fn.spread r + heat_now l.directories r l.at)
