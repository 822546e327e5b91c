use Rattle.std.proofs.Common.{◌≡◌, ◌<◌, ◌+◌, ℕ, Bool, false, List, [], ◌∷◌, ◌++◌, Bor, length}
use Rattle.std.proofs.Common.{map, take, drop, get_or, ap, sym, ◌∙◌, refl, arith, inl, length-set}
use Rattle.std.proofs.lemmas.Result.{err_from_is_err_and}
use Rattle.std.proofs.lemmas.List.{map_more}
use Rattle.script_board.specs.Cost.{tops}
use Rattle.script_board.proofs.CostLemmas.{all_false, marked_more, marked_root, paths_at, tops_end, tops_more}
use Rattle.script_board.proofs.script_board.ScriptBoard.tops.Goals as goal

pub loop-path-init : goal.loop-path-init
loop-path-init g c =
    let items : List Bool = c.in-Ok.is_top.items in
    let none : (d : ℕ) → get_or items d false ≡ false = λ d. rw (c.in-Ok.ensures.items_if_clones_equal (λ y e. e)) (all_false c.numbers.result d) in
    let count : length items ≡ c.numbers.result = omega (arith, c.in-Ok.ensures.len, c.in-Ok.is_top.ok.0) in
    let some : 0 < length items = omega (arith, count, c.numbers.ensures.some) in
    record {
      size = simp length-set (count ∙ c.numbers.ensures.count);
      marked = ([], refl, marked_root items none some);
    }

pub returns-in_err-dir-clause-fault : goal.returns-in_err-dir-clause-fault
returns-in_err-dir-clause-fault g c =
    let e = err_from_is_err_and c.from_residual-in_err-dir.result c.from_residual-in_err-dir.ensures.1 in
    let marked = c.loop-path.invariant.marked in
    rw (e.1, e.2) (inl (ap (tops c.args.self.now) (paths_at c.args.paths.now c.loop-path.path-index _ c.loop-path-test.true)
    ∙ tops_end c.args.self.now (map (λ (path : Bor (List ℕ)). path.now) (take c.loop-path.path-index c.args.paths.now))
    (map (λ (path : Bor (List ℕ)). path.now) (drop (c.loop-path.path-index + 1) c.args.paths.now)) _ marked.0 c.in_err-dir.field-0.0
    marked.1 (sym c.top.ensures.top ∙ c.in_err-dir.was)))

pub loop-path-preserved : goal.loop-path-preserved
loop-path-preserved g c =
    let marked = c.loop-path.invariant.marked in
    let inside : c.in_ok-dir.dir < length c.loop-path.is_top.items = omega (arith, c.in_ok-dir.ensures.inside, c.loop-path.invariant.size) in
    record {
      size = simp length-set c.loop-path.invariant.size;
      marked = (
        marked.0 ++ c.in_ok-dir.dir ∷ [],
        ap (tops c.args.self.now) (map_more (λ (path : Bor (List ℕ)). path.now) c.args.paths.now c.loop-path.path-index _
            c.loop-path-test.true) ∙ tops_more c.args.self.now
            (map (λ (path : Bor (List ℕ)). path.now) (take c.loop-path.path-index c.args.paths.now)) _ marked.0 c.in_ok-dir.dir marked.1
            (sym c.top.ensures.top ∙ c.in_ok-dir.was),
        rw c.number.ensures (marked_more c.loop-path.is_top.items marked.0 c.in_ok-dir.dir inside marked.2),
      );
    }
