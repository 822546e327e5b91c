use Rattle.std.proofs.Common.{◌≡◌, length}
use Rattle.rank_assign.specs.Chunks.{edge, AreSummed}
use Rattle.rank_assign.proofs.chunks.add_chunks.Given as goal

-- the first chunks are added
abbrev pub invariant-loop-k : goal.invariant-loop-k
invariant-loop-k g l = record {
  size : length l.total ≡ length l.initial.total;
  added : AreSummed l.of.rows.now l.of.part.now l.of.count 0 (edge (length l.of.rows.now) l.fn.batch.first l.fn.batch.chunk l.k) l.total;
}
