use Rattle.residual_cut.proofs.CutIs.{cut_is}
use Rattle.residual_cut.proofs.cut.cut_linked.Goals as goal

pub returns-clause-cut : goal.returns-clause-cut
returns-clause-cut c =
    cut_is c.args.of.rows.now c.args.of.bound (record {
      part = c.in_ok-part.part;
      count = c.in_ok-part.count;
      rows = c.in_ok-table.table;
    }) c.args.of.can_cut.forest c.args.of.can_cut.some c.in_ok-table.ensures.table c.in_ok-table.ensures.counted c.in_ok-part.ensures.size
    (rw c.deref.ensures.value at c.in_ok-part.ensures.labelled)
