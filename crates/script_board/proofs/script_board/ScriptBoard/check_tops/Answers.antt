use Rattle.std.proofs.Common.{◌+◌, ℕ, List, [], ◌∷◌, ◌++◌, Bor, map, take, drop, ap, sym, ◌∙◌, refl}
use Rattle.std.proofs.lemmas.Result.{err_from_is_err_and}
use Rattle.std.proofs.lemmas.List.{map_more}
use Rattle.script_board.specs.Cost.{tops}
use Rattle.script_board.proofs.CostLemmas.{paths_at, tops_end, tops_more}
use Rattle.script_board.proofs.script_board.ScriptBoard.check_tops.Goals as goal

pub loop-path-init : goal.loop-path-init
loop-path-init g c = ([], refl)

pub loop-path-preserved : goal.loop-path-preserved
loop-path-preserved g c =
    let before = c.loop-path.invariant in (
      before.0 ++ c.in_ok-top.field-0 ∷ [],
      ap (tops c.args.self.now) (map_more (λ (path : Bor (List ℕ)). path.now) c.args.paths.now c.loop-path.path-index _
          c.loop-path-test.true) ∙ tops_more c.args.self.now
          (map (λ (path : Bor (List ℕ)). path.now) (take c.loop-path.path-index c.args.paths.now)) _ before.0 c.in_ok-top.field-0 before.1
          (sym c.top.ensures.top ∙ c.in_ok-top.was),
    )

pub returns-in_err-top-clause-fault : goal.returns-in_err-top-clause-fault
returns-in_err-top-clause-fault g c =
    let e = err_from_is_err_and c.from_residual.result c.from_residual.ensures.1 in
    let before = c.loop-path.invariant in
    rw (e.1, e.2) (ap (tops c.args.self.now) (paths_at c.args.paths.now c.loop-path.path-index _ c.loop-path-test.true)
    ∙ tops_end c.args.self.now (map (λ (path : Bor (List ℕ)). path.now) (take c.loop-path.path-index c.args.paths.now))
    (map (λ (path : Bor (List ℕ)). path.now) (drop (c.loop-path.path-index + 1) c.args.paths.now)) _ before.0 c.in_err-top.field-0.0
    before.1 (sym c.top.ensures.top ∙ c.in_err-top.was))
