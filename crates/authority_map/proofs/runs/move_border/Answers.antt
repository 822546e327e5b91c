use Rattle.std.proofs.Common.{arith, rules}
use Rattle.authority_map.proofs.RunLemmas.{few_runs}
use Rattle.authority_map.proofs.Shifts.{runs_moved, cells_moved, index_set, index_kept}
use Rattle.authority_map.proofs.runs.move_border.Goals as goal

pub overflow_cast-run : goal.overflow_cast-run
overflow_cast-run c = omega (
  arith,
  few_runs c.args.limit c.args.runs.now.starts.items c.args.runs.now.cells.items c.requires.table.shape,
  c.requires.moves.there,
  c.ranges.limit,
)

pub overflow_sub-run : goal.overflow_sub-run
overflow_sub-run c = omega (arith, c.requires.moves.some, c.requires.moves.least, c.requires.moves.most)

pub returns-then-dir-eq0-clause-table : goal.returns-then-dir-eq0-clause-table
returns-then-dir-eq0-clause-table c =
    let t = c.requires.table in
    let starts = c.args.runs.now.starts.items in
    record {
      shape = runs_moved c.args.limit starts c.args.run c.args.start c.args.dir t.shape.order c.requires.moves c.args.runs.now.cells.items t.shape;
      indexed = index_set c.args.limit starts c.args.run c.args.start c.args.dir t.shape.order c.requires.moves c.args.index.now.items
          t.indexed c.if-dir-eq0.true;
      room = search rules;
    }

pub returns-else-dir-eq0-clause-table : goal.returns-else-dir-eq0-clause-table
returns-else-dir-eq0-clause-table c =
    let t = c.requires.table in
    let starts = c.args.runs.now.starts.items in
    record {
      shape = runs_moved c.args.limit starts c.args.run c.args.start c.args.dir t.shape.order c.requires.moves c.args.runs.now.cells.items t.shape;
      indexed = index_kept c.args.limit starts c.args.run c.args.start c.args.dir t.shape.order c.requires.moves c.args.index.now.items
          t.indexed c.if-dir-eq0.false;
      room = search rules;
    }

pub returns-then-dir-eq0-clause-cells : goal.returns-then-dir-eq0-clause-cells
returns-then-dir-eq0-clause-cells c = cells_moved c.args.limit c.args.runs.now.starts.items c.args.run c.args.start c.args.dir
    c.requires.table.shape.order c.requires.moves c.args.runs.now.cells.items

pub returns-else-dir-eq0-clause-cells : goal.returns-else-dir-eq0-clause-cells
returns-else-dir-eq0-clause-cells c = cells_moved c.args.limit c.args.runs.now.starts.items c.args.run c.args.start c.args.dir
    c.requires.table.shape.order c.requires.moves c.args.runs.now.cells.items
