use Rattle.std.proofs.Common.{◌++◌, List, ℕ, ap, sym, ◌∙◌}
use Rattle.std.proofs.lemmas.Result.{err_from_is_err_and, on_err_weaker}
use Rattle.script_engine.proofs.KnownLemmas.{front_after, front_of_some, front_same, one_fails, one_written}
use Rattle.script_engine.proofs.writes.write_pieces.Goals as goal

pub returns-in_err-add_piece-clause-err : goal.returns-in_err-add_piece-clause-err
returns-in_err-add_piece-clause-err g c =
    let p = err_from_is_err_and c.from_residual.result c.from_residual.ensures.1 in
    rw p.1 (one_fails _ _ _ c.args.pieces.now c.loop-piece.piece-index _ c.loop-piece-test.true c.loop-piece.waiting.items
    c.loop-piece.invariant c.in_err-add_piece.ensures.err)

pub loop-piece-preserved : goal.loop-piece-preserved
loop-piece-preserved g c = one_written _ _ _ c.args.pieces.now c.loop-piece.piece-index _ c.loop-piece-test.true c.loop-piece.waiting.items
    c.loop-piece.invariant c.add_piece.new.waiting.items c.in_ok-add_piece.ensures.ok

pub returns-clause-err : goal.returns-clause-err
returns-clause-err g c =
    let before = c.loop-piece.invariant in
    on_err_weaker c.write_whole.result
    (λ last. front_of_some _ _ c.args.pieces.now c.loop-piece.piece-index
    (front_same _ _ _ _ (ap (λ (t : List ℕ). before.0 ++ t) c.as_slice.ensures.value ∙ sym before.1)
    (front_after _ _ _ before.0 c.as_slice.result.now before.2 last)))
    c.write_whole.ensures.err
