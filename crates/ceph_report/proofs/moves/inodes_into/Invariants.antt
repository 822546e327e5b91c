use Rattle.std.proofs.Common.{ℕ}
use Rattle.ceph_report.specs.Amounts.{AreAmounts, inodes_to}
use Rattle.ceph_report.proofs.moves.inodes_into.Given as goal

abbrev pub invariant-loop-at : goal.invariant-loop-at
invariant-loop-at l = AreAmounts l.inodes.items (λ (r : ℕ). inodes_to l.fn.directories l.fn.holds l.fn.goals r l.at)
