use Rattle.std.proofs.Common.{◌+◌, ℕ, List, Bor, Ok, map, take, drop, ap, sym, ◌∙◌, arith}
use Rattle.std.proofs.lemmas.Result.{err_from_is_err_and}
use Rattle.std.proofs.lemmas.List.{map_more}
use Rattle.script_board.specs.Steps.{find_all}
use Rattle.script_board.proofs.CostLemmas.{paths_at}
use Rattle.script_board.proofs.StepLemmas.{find_all_end, find_all_more}
use Rattle.script_board.proofs.script_board.ScriptBoard.find_all.Goals as goal

pub returns-in_err-dir-clause-fault : goal.returns-in_err-dir-clause-fault
returns-in_err-dir-clause-fault g c =
    let e = err_from_is_err_and c.from_residual.result c.from_residual.ensures.1 in
    let before = c.loop-path.invariant in
    rw (e.1, e.2) (ap (find_all c.args.self.now) (paths_at c.args.paths.now c.loop-path.path-index _ c.loop-path-test.true)
    ∙ find_all_end c.args.self.now (map (λ (path : Bor (List ℕ)). path.now) (take c.loop-path.path-index c.args.paths.now))
    (map (λ (path : Bor (List ℕ)). path.now) (drop (c.loop-path.path-index + 1) c.args.paths.now)) _ _ c.in_err-dir.field-0.0
    before.found (sym c.find.ensures.dir ∙ c.in_err-dir.was))

pub loop-path-preserved : goal.loop-path-preserved
loop-path-preserved g c =
    let before = c.loop-path.invariant in
    let more = map_more (λ (path : Bor (List ℕ)). path.now) c.args.paths.now c.loop-path.path-index _ c.loop-path-test.true in
    record {
      found = ap (find_all c.args.self.now) more ∙ find_all_more c.args.self.now
          (map (λ (path : Bor (List ℕ)). path.now) (take c.loop-path.path-index c.args.paths.now)) _ c.loop-path.dirs.items c.in_ok-dir.dir
          before.found (sym c.find.ensures.dir ∙ c.in_ok-dir.was) ∙ ap Ok (sym c.push_reserved.ensures.items);
      few = omega (arith, before.few, c.push_reserved.ensures.len);
      room = omega (arith, before.room, c.push_reserved.ensures.capacity);
    }
