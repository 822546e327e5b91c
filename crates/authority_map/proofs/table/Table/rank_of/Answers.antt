use Rattle.std.proofs.Common.{ℕ, Option, Some, None, IsSome, IfSome, ◌≡◌, ◌∙◌, ◌<◌, ◌-◌, arith, get_or, ap}
use Rattle.std.proofs.lemmas.List.{get_or_read}
use Rattle.authority_map.specs.Operations.{rank_after}
use Rattle.authority_map.specs.Runs.{IsIn}
use Rattle.authority_map.specs.Cells.{cell_of}
use Rattle.authority_map.proofs.CellLemmas.{rank_is, rank_none}
use Rattle.authority_map.proofs.table.Table.rank_of.Goals as goal

made : (o : Option ℕ) (n : ℕ) → IsSome o → IfSome o (λ r. r ≡ n) → o ≡ Some n
made None n some is = absurd (cc some)
made (Some r) n some is = ap (λ (k : ℕ). Some k) is

pub returns-then-cell-eq0 : goal.returns-then-cell-eq0
returns-then-cell-eq0 g c =
    let t = c.args.self.now in
    let run = c.indexed_run_of-run.result in
    let inside : IsIn t.runs.starts.items run c.args.dir = rw (c.deref.ensures.value, c.number-2.ensures) at c.indexed_run_of-run.ensures in
    let read : c.index-cell.result.now ≡ get_or t.runs.cells.items run 0 =
    get_or_read t.runs.cells.items run c.index-cell.result.now (omega (arith, inside.there, t.table.shape.sized)) c.index-cell.ensures
    0 in
    let cell : c.index-cell.result.now ≡ cell_of (rank_after t.prefix c.args.dir) = read
    ∙ t.kept.held.each run c.args.dir (omega (arith, c.if-number-self.false, c.number.ensures)) inside in
    rank_none c.index-cell.result.now (rank_after t.prefix c.args.dir) cell c.if-cell-eq0.true

pub returns-else-cell-eq0 : goal.returns-else-cell-eq0
returns-else-cell-eq0 g c =
    let t = c.args.self.now in
    let run = c.indexed_run_of-run.result in
    let inside : IsIn t.runs.starts.items run c.args.dir = rw (c.deref.ensures.value, c.number-2.ensures) at c.indexed_run_of-run.ensures in
    let read : c.index-cell.result.now ≡ get_or t.runs.cells.items run 0 =
    get_or_read t.runs.cells.items run c.index-cell.result.now (omega (arith, inside.there, t.table.shape.sized)) c.index-cell.ensures
    0 in
    let cell : c.index-cell.result.now ≡ cell_of (rank_after t.prefix c.args.dir) = read
    ∙ t.kept.held.each run c.args.dir (omega (arith, c.if-number-self.false, c.number.ensures)) inside in
    let less : c.index-cell.result.now - 1 < 64 = omega (arith, read, t.table.shape.small run) in
    made _ _ (c.new.ensures.small.1 less) c.new.ensures.value ∙ rank_is c.index-cell.result.now (rank_after t.prefix c.args.dir) cell c.if-cell-eq0.false
