use Rattle.std.proofs.Common.{◌≡◌, ◌≢◌, ◌-◌, ◌++◌, ◌∷◌, [], ℕ, length, get_or, sym, ap, ◌∙◌, arith, rules}
use Rattle.std.proofs.lemmas.List.{get_or_read, length-append}
use Rattle.std.proofs.Math.Seq.{get_or-append_seam}
use Rattle.authority_map.proofs.Extending.{before_extended, before_kept, cells_extended, cells_kept, few_before, runs_extended}
use Rattle.authority_map.proofs.rewriting.extend.Goals as goal

pub push_reserved-requires : goal.push_reserved-requires
push_reserved-requires c =
    let made = c.args.made.now in
    omega (
      arith,
      few_before c.args.limit made.starts.items made.cells.items c.args.first c.requires.made.shape c.requires.made.before,
      c.requires.some.0,
      c.requires.some.1,
      c.requires.made.room.starts,
      made.starts.ok,
    )

pub push_reserved-requires-then-index-cell : goal.push_reserved-requires-then-index-cell
push_reserved-requires-then-index-cell c =
    let made = c.args.made.now in
    omega (
      arith,
      few_before c.args.limit made.starts.items made.cells.items c.args.first c.requires.made.shape c.requires.made.before,
      c.requires.made.shape.sized,
      c.requires.some.0,
      c.requires.some.1,
      c.requires.made.room.cells,
      made.cells.ok,
    )

pub returns-then-index-cell-clause-made : goal.returns-then-index-cell-clause-made
returns-then-index-cell-clause-made c =
    let made = c.args.made.now in
    let r = c.requires in
    record {
      shape = rw (c.push_reserved.ensures.items, c.push_reserved-then-index-cell.ensures.items)
          (runs_extended c.args.limit made.starts.items made.cells.items c.args.first c.args.end c.args.cell r.made.shape r.made.before
          r.some.0 r.some.1 r.small);
      room = search rules;
      before = rw c.push_reserved.ensures.items
          (before_extended c.args.limit made.starts.items made.cells.items c.args.first c.args.end c.args.cell r.made.shape r.made.before
          r.some.0 r.some.1 r.small);
    }

pub returns-then-index-cell-clause-cells : goal.returns-then-index-cell-clause-cells
returns-then-index-cell-clause-cells c =
    let made = c.args.made.now in
    let cells = made.cells.items in
    let len : c.len.result ≡ length cells = omega (arith, c.len.ensures, made.cells.ok) in
    let read : c.index.result.now ≡ get_or cells (c.len.result - 1) 0 =
    get_or_read cells (c.len.result - 1) c.index.result.now
    (omega (arith, len, c.requires.made.shape.sized, c.requires.made.shape.order.some)) c.index.ensures 0 in
    let last : get_or cells (length cells - 1) 0 ≢ c.args.cell = λ same. c.if-index-cell.true (read ∙ (ap (λ (n : ℕ). get_or cells (n - 1) 0) len ∙ same)) in
    rw (c.push_reserved.ensures.items, c.push_reserved-then-index-cell.ensures.items)
    (cells_extended c.args.limit made.starts.items cells c.args.first c.args.end c.args.cell c.requires.made.shape c.requires.made.before
    c.requires.some.0 c.requires.some.1 c.requires.small last)

pub returns-else-index-cell-clause-made : goal.returns-else-index-cell-clause-made
returns-else-index-cell-clause-made c =
    let made = c.args.made.now in
    let r = c.requires in
    record {
      shape = r.made.shape;
      room = r.made.room;
      before = before_kept c.args.limit made.starts.items made.cells.items c.args.first c.args.end c.args.cell r.made.shape r.made.before
          r.some.0 r.some.1 r.small;
    }

pub returns-else-index-cell-clause-cells : goal.returns-else-index-cell-clause-cells
returns-else-index-cell-clause-cells c =
    let made = c.args.made.now in
    let cells = made.cells.items in
    let len : c.len.result ≡ length cells = omega (arith, c.len.ensures, made.cells.ok) in
    let read : c.index.result.now ≡ get_or cells (c.len.result - 1) 0 =
    get_or_read cells (c.len.result - 1) c.index.result.now
    (omega (arith, len, c.requires.made.shape.sized, c.requires.made.shape.order.some)) c.index.ensures 0 in
    let last : get_or cells (length cells - 1) 0 ≡ c.args.cell = sym (ap (λ (n : ℕ). get_or cells (n - 1) 0) len) ∙ (sym read ∙ c.if-index-cell.false) in
    cells_kept c.args.limit made.starts.items cells c.args.first c.args.end c.args.cell c.requires.made.shape c.requires.made.before
    c.requires.some.0 c.requires.some.1 c.requires.small last

pub returns-then-index-cell-clause-last : goal.returns-then-index-cell-clause-last
returns-then-index-cell-clause-last c =
    let cells = c.args.made.now.cells.items in
    let last : length (cells ++ c.args.cell ∷ []) - 1 ≡ length cells = omega (arith, length-append cells (c.args.cell ∷ [])) in
    rw c.push_reserved-then-index-cell.ensures.items (ap (λ (n : ℕ). get_or (cells ++ c.args.cell ∷ []) n 0) last ∙ get_or-append_seam cells c.args.cell [] 0)

pub returns-else-index-cell-clause-last : goal.returns-else-index-cell-clause-last
returns-else-index-cell-clause-last c =
    let cells = c.args.made.now.cells.items in
    let len : c.len.result ≡ length cells = omega (arith, c.len.ensures, c.args.made.now.cells.ok) in
    let read : c.index.result.now ≡ get_or cells (c.len.result - 1) 0 =
    get_or_read cells (c.len.result - 1) c.index.result.now
    (omega (arith, len, c.requires.made.shape.sized, c.requires.made.shape.order.some)) c.index.ensures 0 in
    sym (ap (λ (n : ℕ). get_or cells (n - 1) 0) len) ∙ (sym read ∙ c.if-index-cell.false)
