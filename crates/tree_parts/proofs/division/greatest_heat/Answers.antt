use Rattle.std.proofs.Common.{arith}
use Rattle.tree_parts.proofs.Passes.{greatest_more}
use Rattle.tree_parts.proofs.division.greatest_heat.Goals as goal

pub loop-part-preserved : goal.loop-part-preserved
loop-part-preserved c = greatest_more c.args.parts.now c.loop-part.part-index c.part-item.result c.max-greatest.result c.loop-part.greatest
    (omega arith) c.part-item.is c.loop-part.invariant c.max-greatest.ensures
