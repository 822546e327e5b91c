use Rattle.std.proofs.Common.{◌≡◌, ◌≢◌, ◌-◌, ◌≤◌, get_or, sym, ◌∙◌, arith}
use Rattle.std.proofs.lemmas.List.{get_or_read}
use Rattle.authority_map.specs.Runs.{IsIn}
use Rattle.authority_map.proofs.RunLemmas.{none_alike}
use Rattle.authority_map.proofs.runs.join.Goals as goal
use Rattle.authority_map.proofs.runs.join.Goals.{else-index-dir-via-then-index-dir+then-run-gt0+else-index, else-index-dir-via-then-index-dir+else-run-gt0}
use Rattle.authority_map.proofs.runs.join.Goals.{else-index-dir-via-else-index-dir}

pub returns-else-index-dir-clause-cells : goal.returns-else-index-dir-clause-cells
returns-else-index-dir-clause-cells c =
    let starts = c.args.runs.now.starts.items in
    let cells = c.args.runs.now.cells.items in
    let run = c.run_of-run.result in
    let inside : IsIn starts run c.args.dir = rw c.deref.ensures.value at c.run_of-run.ensures in
    let read : c.index.result.now ≡ get_or starts run 0 = get_or_read starts run c.index.result.now inside.there c.index.ensures 0 in
    let differ : get_or starts run 0 ≡ c.args.dir → 1 ≤ run → get_or cells (run - 1) 0 ≢ get_or cells run 0 =
    elim c.else-index-dir.branch [
      | else-index-dir-via-then-index-dir+then-run-gt0+else-index w ↦ λ is some same. (
          let before = get_or_read cells (run - 1) w.index-then-run-gt0.result.now
          (omega (arith, inside.there, c.requires.table.shape.sized, some)) w.index-then-run-gt0.ensures 0 in
          let here = get_or_read cells run w.index-then-run-gt0-2.result.now (omega (arith, inside.there, c.requires.table.shape.sized))
          w.index-then-run-gt0-2.ensures 0 in
          w.if-index.false (before ∙ same ∙ sym here)
          )
      | else-index-dir-via-then-index-dir+else-run-gt0 w ↦ λ is some same. absurd (omega (arith, w.if-run-gt0.false, some))
      | else-index-dir-via-else-index-dir w ↦ λ is some same. w.if-index-dir.false (read ∙ is)
    ] in
    none_alike c.args.limit starts cells run c.args.dir c.requires.table.shape inside differ
