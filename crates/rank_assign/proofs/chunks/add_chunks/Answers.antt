use Rattle.std.proofs.Common.{◌+◌, ◌∙◌, ℕ, length, arith}
use Rattle.rank_assign.specs.Chunks.{edge, AreSummed}
use Rattle.rank_assign.proofs.ChunkLemmas.{edge_rises, joined}
use Rattle.rank_assign.proofs.chunks.add_chunks.Goals as goal

pub loop-k-preserved : goal.loop-k-preserved
loop-k-preserved g c =
    let n : ℕ = length c.args.of.rows.now in
    let from : ℕ = edge n c.args.batch.first c.args.batch.chunk c.loop-k.k in
    let to : ℕ = edge n c.args.batch.first c.args.batch.chunk (c.loop-k.k + 1) in
    let at = c.in_ok-tables.ensures.sums c.loop-k.k c.index.result.now (omega (arith, c.loop-k-test.true)) in
    let here : AreSummed c.args.of.rows.now c.args.of.part.now c.args.of.count from to c.in-Ok.sums.items =
    rw (← c.index.ensures, c.in-Ok.is) at at in
    let each = rw c.deref.ensures.value at c.add_sums.ensures.each in
    record {
      size = c.add_sums.ensures.size ∙ c.loop-k.invariant.size;
      added = joined c.args.of.rows.now c.args.of.part.now c.args.of.count from to c.loop-k.total c.in-Ok.sums.items
          (edge_rises n c.args.batch.first c.args.batch.chunk c.loop-k.k) c.loop-k.invariant.added here c.add_sums.new.total
          c.add_sums.ensures.size each;
    }
