use Rattle.std.proofs.Common.{◌≤◌, ◌-◌, length}
use Rattle.rank_assign.specs.Chunks.{AreSummed}
use Rattle.rank_assign.proofs.chunks.add_rows.Given as goal

-- the first rows are added
abbrev pub invariant-loop-first : goal.invariant-loop-first
invariant-loop-first g l = record {
  inside : l.first ≤ length l.of.rows.now;
  added : AreSummed l.of.rows.now l.of.part.now l.of.count 0 l.first l.total;
}

abbrev pub decreases-loop-first : goal.decreases-loop-first
decreases-loop-first g l = length l.of.rows.now - l.first
