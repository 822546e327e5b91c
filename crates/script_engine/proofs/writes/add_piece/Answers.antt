use Rattle.std.proofs.Common.{◌++◌, List, ℕ, ap, append-nil, subst, sym, ◌∙◌}
use Rattle.std.specs.Io.KnownBytes.{Appends}
use Rattle.std.proofs.KnownBytes.{Appends-trans}
use Rattle.std.proofs.lemmas.Result.{on_err_weaker, on_ok_weaker}
use Rattle.script_engine.proofs.KnownLemmas.{front_after}
use Rattle.script_engine.proofs.writes.add_piece.Goals as goal

pub returns-in_ok-write_whole-in-Err-clause-ok : goal.returns-in_ok-write_whole-in-Err-clause-ok
returns-in_ok-write_whole-in-Err-clause-ok g c =
    let held = c.args.waiting.now.items in
    let piece = c.args.piece.now in
    let written = subst (λ (t : List ℕ). Appends (g.W.Write.contents c.args.writer.now) (g.W.Write.contents c.write_whole.new.writer) t)
    (c.as_slice.ensures.value ∙ ap (λ a. a.items) c.in-Err.ensures.err) c.in_ok-write_whole-in-Err.ensures.ok in
    on_ok_weaker c.write_whole-in-Err.result
    (λ last. (
      held ++ piece,
      sym (ap (λ (t : List ℕ). held ++ piece ++ t) c.clear.ensures ∙ append-nil (held ++ piece)),
      Appends-trans _ _ _ held piece written last,
    ))
    c.write_whole-in-Err.ensures.ok

pub returns-in_ok-write_whole-in-Err-clause-err : goal.returns-in_ok-write_whole-in-Err-clause-err
returns-in_ok-write_whole-in-Err-clause-err g c =
    let written = subst (λ (t : List ℕ). Appends (g.W.Write.contents c.args.writer.now) (g.W.Write.contents c.write_whole.new.writer) t)
    (c.as_slice.ensures.value ∙ ap (λ a. a.items) c.in-Err.ensures.err) c.in_ok-write_whole-in-Err.ensures.ok in
    on_err_weaker c.write_whole-in-Err.result (λ last. front_after _ _ _ c.args.waiting.now.items c.args.piece.now written last)
    c.write_whole-in-Err.ensures.err
