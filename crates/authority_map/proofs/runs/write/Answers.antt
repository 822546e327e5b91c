use Rattle.std.proofs.Common.{◌≡◌, ◌+◌, ◌-◌, ◌==◌, ℕ, if◌then◌else◌, get_or, ap, sym, ◌∙◌, arith, subst}
use Rattle.std.proofs.lemmas.List.{get_or_read}
use Rattle.authority_map.specs.Runs.{IsIn, Hold}
use Rattle.authority_map.proofs.Shifts.{move_on}
use Rattle.authority_map.proofs.runs.write.Goals as goal
use Rattle.authority_map.proofs.runs.write.Goals.{else-index-dir-2-via-then-index-dir-2+then-run-len+then-index-dir-3+else-index-cell-3}
use Rattle.authority_map.proofs.runs.write.Goals.{else-index-dir-2-via-then-index-dir-2+then-run-len+else-index-dir-3}
use Rattle.authority_map.proofs.runs.write.Goals.{else-index-dir-2-via-then-index-dir-2+else-run-len}
use Rattle.authority_map.proofs.runs.write.Goals.{else-index-dir-2-via-else-index-dir-2}

pub move_border-requires-clause-moves : goal.move_border-requires-clause-moves
move_border-requires-clause-moves c =
    let starts = c.args.runs.now.starts.items in
    let run = c.indexed_run_of-run.result in
    let inside : IsIn starts run c.args.dir = rw c.deref.ensures.value at c.indexed_run_of-run.ensures in
    let first = sym (get_or_read starts run c.index-2.result.now inside.there c.index-2.ensures 0) ∙ c.if-index-dir.true in
    let next = ((c.run_end.ensures.inside (c.args.dir + 1)).0
    (rw c.deref-then-index-cell-2.ensures.value (omega (arith, inside.from)), c.if-dir-run_end.true)).1 in
    move_on c.args.limit starts run c.args.dir c.requires.table.shape.order (omega (arith, c.if-run-gt0.true)) first
    (rw c.deref-then-index-cell-2.ensures.value at next) (omega (arith, c.if-dir-run_end.true, c.run_end.ensures.within))

pub returns-then-dir-run_end-clause-cells : goal.returns-then-dir-run_end-clause-cells
returns-then-dir-run_end-clause-cells c old has =
    let cells = c.args.runs.now.cells.items in
    let run = c.indexed_run_of-run.result in
    let inside : IsIn c.args.runs.now.starts.items run c.args.dir = rw c.deref.ensures.value at c.indexed_run_of-run.ensures in
    let read = get_or_read cells (run - 1) c.index-then-run-gt0.result.now (omega (arith, inside.there, c.requires.table.shape.sized))
    c.index-then-run-gt0.ensures 0 in
    let place : run - (c.args.dir + 1 - c.args.dir) ≡ run - 1 = omega arith in
    subst (λ (n : ℕ). Hold c.args.limit c.move_border.new.runs (λ d. if d == c.args.dir then n else old d) 0 0)
    (ap (λ (k : ℕ). get_or cells k 0) place ∙ sym read ∙ c.if-index-cell-2.true) (c.move_border.ensures.cells old has)

pub returns-then-index-cell-3-clause-cells : goal.returns-then-index-cell-3-clause-cells
returns-then-index-cell-3-clause-cells c old has =
    let cells = c.args.runs.now.cells.items in
    let next = c.indexed_run_of-run.result + 1 in
    let read = get_or_read cells next c.index-then-index-dir-3.result.now
    (omega (arith, c.if-run-len.true, c.len.ensures, c.args.runs.now.starts.ok, c.requires.table.shape.sized))
    c.index-then-index-dir-3.ensures 0 in
    let place : next - (c.args.dir - c.args.dir) ≡ next = omega arith in
    subst (λ (n : ℕ). Hold c.args.limit c.move_border-then-index-cell-3.new.runs (λ d. if d == c.args.dir then n else old d) 0 0)
    (ap (λ (k : ℕ). get_or cells k 0) place ∙ sym read ∙ c.if-index-cell-3.true) (c.move_border-then-index-cell-3.ensures.cells old has)

pub returns-else-index-dir-2-clause-cells : goal.returns-else-index-dir-2-clause-cells
returns-else-index-dir-2-clause-cells c old has =
    let same : c.else-index-dir-2.runs ≡ c.args.runs.now = elim c.else-index-dir-2.branch [
      | else-index-dir-2-via-then-index-dir-2+then-run-len+then-index-dir-3+else-index-cell-3 w ↦ w.runs-is
      | else-index-dir-2-via-then-index-dir-2+then-run-len+else-index-dir-3 w ↦ w.runs-is
      | else-index-dir-2-via-then-index-dir-2+else-run-len w ↦ w.runs-is
      | else-index-dir-2-via-else-index-dir-2 w ↦ w.runs-is
    ] in
    c.write_alone.ensures.cells old (rw same has)
