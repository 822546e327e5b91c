use Rattle.std.proofs.Common.{◌+◌, ◌-◌, ◌<◌, min, sym, ◌∙◌, arith, rules}
use Rattle.authority_map.specs.Runs.{AreBefore, HasCells, HasFirst}
use Rattle.authority_map.proofs.RunLemmas.{few_runs, not_sooner}
use Rattle.authority_map.proofs.Appending.{before_appended, cells_appended, longer, more, more_cells, piece, runs_appended}
use Rattle.authority_map.proofs.rewriting.keep.Goals as goal

pub extend-requires-clause-some : goal.extend-requires-clause-some
extend-requires-clause-some c =
    let more : c.args.first < c.run_end.result =
    ((c.run_end.ensures.inside c.args.first).1 (omega (arith, c.requires.order, c.if-first-end.false), c.indexed_run_of-run.ensures)).1
    in
    (omega (arith, c.min-middle.ensures, more, c.requires.order.0, c.if-first-end.false), omega (arith, c.min-middle.ensures, c.requires.order.1))

pub slice_bounds-more-count : goal.slice_bounds-more-count
slice_bounds-more-count c =
    omega (
      arith,
      not_sooner c.as_slice-starts.result.now (rw (← c.as_slice-starts.ensures.value) at c.requires.table.shape.order)
          c.indexed_run_of-run.result c.indexed_run_of-last.result c.args.first (c.args.end - 1) c.indexed_run_of-run.ensures
          c.indexed_run_of-last.ensures (omega (arith, c.requires.order.0, c.if-first-end.false)),
    )

pub slice_bounds-more-start : goal.slice_bounds-more-start
slice_bounds-more-start c =
    omega (
      arith,
      not_sooner c.as_slice-starts.result.now (rw (← c.as_slice-starts.ensures.value) at c.requires.table.shape.order)
          c.indexed_run_of-run.result c.indexed_run_of-last.result c.args.first (c.args.end - 1) c.indexed_run_of-run.ensures
          c.indexed_run_of-last.ensures (omega (arith, c.requires.order.0, c.if-first-end.false)),
    )

pub slice_bounds-more_cells-count : goal.slice_bounds-more_cells-count
slice_bounds-more_cells-count c =
    omega (
      arith,
      not_sooner c.as_slice-starts.result.now (rw (← c.as_slice-starts.ensures.value) at c.requires.table.shape.order)
          c.indexed_run_of-run.result c.indexed_run_of-last.result c.args.first (c.args.end - 1) c.indexed_run_of-run.ensures
          c.indexed_run_of-last.ensures (omega (arith, c.requires.order.0, c.if-first-end.false)),
    )

pub slice_bounds-more_cells-start : goal.slice_bounds-more_cells-start
slice_bounds-more_cells-start c =
    omega (
      arith,
      not_sooner c.as_slice-starts.result.now (rw (← c.as_slice-starts.ensures.value) at c.requires.table.shape.order)
          c.indexed_run_of-run.result c.indexed_run_of-last.result c.args.first (c.args.end - 1) c.indexed_run_of-run.ensures
          c.indexed_run_of-last.ensures (omega (arith, c.requires.order.0, c.if-first-end.false)),
    )

pub unreachable-requires : goal.unreachable-requires
unreachable-requires c =
    let before : AreBefore (min c.run_end.result c.args.end) c.extend.new.made.starts.items = rw (← c.min-middle.ensures) c.extend.ensures.made.before in
    let whole = piece c.args.limit c.as_slice-starts.result.now c.as_slice-cells.result.now
    (rw (← c.as_slice-starts.ensures.value, ← c.as_slice-cells.ensures.value) at c.requires.table.shape) c.indexed_run_of-run.result
    c.indexed_run_of-last.result c.args.first c.args.end c.run_end.result c.indexed_run_of-run.ensures c.indexed_run_of-last.ensures
    (omega (arith, c.requires.order.0, c.if-first-end.false)) c.requires.order.1 c.run_end.ensures.inside in
    let few = few_runs c.args.limit _ _
    (runs_appended c.args.limit c.as_slice-starts.result.now c.as_slice-cells.result.now c.extend.new.made.starts.items
    c.extend.new.made.cells.items c.indexed_run_of-run.result (c.indexed_run_of-last.result + 1 - (c.indexed_run_of-run.result + 1))
    (min c.run_end.result c.args.end) c.args.end
    (rw (← c.as_slice-starts.ensures.value, ← c.as_slice-cells.ensures.value) at c.requires.table.shape) c.extend.ensures.made.shape
    before whole) in
    absurd (omega (
      arith,
      few,
      longer c.args.limit c.as_slice-starts.result.now c.as_slice-cells.result.now c.extend.new.made.starts.items
          c.extend.new.made.cells.items c.indexed_run_of-run.result (c.indexed_run_of-last.result + 1 - (c.indexed_run_of-run.result + 1))
          (min c.run_end.result c.args.end) c.args.end
          (rw (← c.as_slice-starts.ensures.value, ← c.as_slice-cells.ensures.value) at c.requires.table.shape) c.extend.ensures.made.shape
          before whole,
      more c.args.limit c.as_slice-starts.result.now c.as_slice-cells.result.now c.extend.new.made.starts.items
          c.extend.new.made.cells.items c.indexed_run_of-run.result (c.indexed_run_of-last.result + 1 - (c.indexed_run_of-run.result + 1))
          (min c.run_end.result c.args.end) c.args.end
          (rw (← c.as_slice-starts.ensures.value, ← c.as_slice-cells.ensures.value) at c.requires.table.shape) c.extend.ensures.made.shape
          before whole,
      c.extend.ensures.made.room.starts,
      c.in_default.ensures.full,
      c.extend.new.made.starts.ok,
    ))

pub unreachable-requires-in_default-extend_from_slice : goal.unreachable-requires-in_default-extend_from_slice
unreachable-requires-in_default-extend_from_slice c =
    let before : AreBefore (min c.run_end.result c.args.end) c.extend.new.made.starts.items = rw (← c.min-middle.ensures) c.extend.ensures.made.before in
    let whole = piece c.args.limit c.as_slice-starts.result.now c.as_slice-cells.result.now
    (rw (← c.as_slice-starts.ensures.value, ← c.as_slice-cells.ensures.value) at c.requires.table.shape) c.indexed_run_of-run.result
    c.indexed_run_of-last.result c.args.first c.args.end c.run_end.result c.indexed_run_of-run.ensures c.indexed_run_of-last.ensures
    (omega (arith, c.requires.order.0, c.if-first-end.false)) c.requires.order.1 c.run_end.ensures.inside in
    let few = few_runs c.args.limit _ _
    (runs_appended c.args.limit c.as_slice-starts.result.now c.as_slice-cells.result.now c.extend.new.made.starts.items
    c.extend.new.made.cells.items c.indexed_run_of-run.result (c.indexed_run_of-last.result + 1 - (c.indexed_run_of-run.result + 1))
    (min c.run_end.result c.args.end) c.args.end
    (rw (← c.as_slice-starts.ensures.value, ← c.as_slice-cells.ensures.value) at c.requires.table.shape) c.extend.ensures.made.shape
    before whole) in
    absurd (omega (
      arith,
      few,
      longer c.args.limit c.as_slice-starts.result.now c.as_slice-cells.result.now c.extend.new.made.starts.items
          c.extend.new.made.cells.items c.indexed_run_of-run.result (c.indexed_run_of-last.result + 1 - (c.indexed_run_of-run.result + 1))
          (min c.run_end.result c.args.end) c.args.end
          (rw (← c.as_slice-starts.ensures.value, ← c.as_slice-cells.ensures.value) at c.requires.table.shape) c.extend.ensures.made.shape
          before whole,
      more_cells c.args.limit c.as_slice-starts.result.now c.as_slice-cells.result.now c.extend.new.made.starts.items
          c.extend.new.made.cells.items c.indexed_run_of-run.result (c.indexed_run_of-last.result + 1 - (c.indexed_run_of-run.result + 1))
          (min c.run_end.result c.args.end) c.args.end
          (rw (← c.as_slice-starts.ensures.value, ← c.as_slice-cells.ensures.value) at c.requires.table.shape) c.extend.ensures.made.shape
          before whole,
      c.extend.ensures.made.shape.sized,
      c.extend.ensures.made.room.cells,
      c.in_default-extend_from_slice.ensures.full,
      c.extend.new.made.cells.ok,
    ))

pub returns-clause-made : goal.returns-clause-made
returns-clause-made c =
    let before : AreBefore (min c.run_end.result c.args.end) c.extend.new.made.starts.items = rw (← c.min-middle.ensures) c.extend.ensures.made.before in
    let whole = piece c.args.limit c.as_slice-starts.result.now c.as_slice-cells.result.now
    (rw (← c.as_slice-starts.ensures.value, ← c.as_slice-cells.ensures.value) at c.requires.table.shape) c.indexed_run_of-run.result
    c.indexed_run_of-last.result c.args.first c.args.end c.run_end.result c.indexed_run_of-run.ensures c.indexed_run_of-last.ensures
    (omega (arith, c.requires.order.0, c.if-first-end.false)) c.requires.order.1 c.run_end.ensures.inside in
    record {
      shape = rw (c.in-Ok.ensures.items, c.in-Ok-extend_from_slice.ensures.items)
          (runs_appended c.args.limit c.as_slice-starts.result.now c.as_slice-cells.result.now c.extend.new.made.starts.items
          c.extend.new.made.cells.items c.indexed_run_of-run.result (c.indexed_run_of-last.result + 1 - (c.indexed_run_of-run.result + 1))
          (min c.run_end.result c.args.end) c.args.end
          (rw (← c.as_slice-starts.ensures.value, ← c.as_slice-cells.ensures.value) at c.requires.table.shape) c.extend.ensures.made.shape
          before whole);
      room = search rules;
      before = rw c.in-Ok.ensures.items
          (before_appended c.args.limit c.as_slice-starts.result.now c.as_slice-cells.result.now c.extend.new.made.starts.items
          c.extend.new.made.cells.items c.indexed_run_of-run.result (c.indexed_run_of-last.result + 1 - (c.indexed_run_of-run.result + 1))
          (min c.run_end.result c.args.end) c.args.end
          (rw (← c.as_slice-starts.ensures.value, ← c.as_slice-cells.ensures.value) at c.requires.table.shape) c.extend.ensures.made.shape
          before whole);
    }

pub returns-clause-cells : goal.returns-clause-cells
returns-clause-cells c old want has first same =
    let had : HasCells c.args.limit c.as_slice-starts.result.now c.as_slice-cells.result.now old 0 0 =
    rw (c.as_slice-starts.ensures.value, c.as_slice-cells.ensures.value) has in
    let before : AreBefore (min c.run_end.result c.args.end) c.extend.new.made.starts.items = rw (← c.min-middle.ensures) c.extend.ensures.made.before in
    let whole = piece c.args.limit c.as_slice-starts.result.now c.as_slice-cells.result.now
    (rw (← c.as_slice-starts.ensures.value, ← c.as_slice-cells.ensures.value) at c.requires.table.shape) c.indexed_run_of-run.result
    c.indexed_run_of-last.result c.args.first c.args.end c.run_end.result c.indexed_run_of-run.ensures c.indexed_run_of-last.ensures
    (omega (arith, c.requires.order.0, c.if-first-end.false)) c.requires.order.1 c.run_end.ensures.inside in
    let run = c.indexed_run_of-run.result in
    let made : HasFirst (min c.run_end.result c.args.end) c.extend.new.made.starts.items c.extend.new.made.cells.items want = rw (← c.min-middle.ensures)
    (c.extend.ensures.cells want first (λ d from until.
    let inside = (c.run_end.ensures.inside d).0 (omega (arith, c.indexed_run_of-run.ensures.from, from), omega (arith, until, c.min-middle.ensures)) in
    same d from (omega (arith, until, c.min-middle.ensures)) ∙ sym (had.each run d inside.0 inside.1))) in
    rw (c.in-Ok.ensures.items, c.in-Ok-extend_from_slice.ensures.items)
    (cells_appended c.args.limit c.as_slice-starts.result.now c.as_slice-cells.result.now c.extend.new.made.starts.items
    c.extend.new.made.cells.items c.indexed_run_of-run.result (c.indexed_run_of-last.result + 1 - (c.indexed_run_of-run.result + 1))
    (min c.run_end.result c.args.end) c.args.end
    (rw (← c.as_slice-starts.ensures.value, ← c.as_slice-cells.ensures.value) at c.requires.table.shape) c.extend.ensures.made.shape
    before whole old want had made c.extend.ensures.last
    (λ d next after until. same d (omega (arith, c.indexed_run_of-run.ensures.until next, after)) until) c.requires.order.1)
