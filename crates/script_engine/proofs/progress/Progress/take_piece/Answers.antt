use Rattle.std.proofs.Common.{ℕ, ◌+◌, List, ◌∷◌, [], ◌++◌, length, take, drop, refl, subst, ap, ◌∙◌, append_assoc, arith, eqb-true, Some, None, length-drop}
use Rattle.std.proofs.KnownBytes.{Appends-trans}
use Rattle.std.proofs.lemmas.Result.{err_from_is_err_and}
use Rattle.memchr.specs.Find.{IsFirstByte, is_byte}
use Rattle.script_engine.specs.Lines.{IsLine}
use Rattle.script_engine.specs.Progress.{Broken}
use Rattle.script_engine.proofs.KnownLemmas.{front_after}
use Rattle.script_engine.proofs.LineLemmas.{is_line_before, is_line_whole}
use Rattle.script_engine.proofs.ProgressLemmas.{adds, moved, broken_more, broken_after, piece_line, piece_left, piece_whole, whole_rest}
use Rattle.script_engine.proofs.progress.Progress.take_piece.Goals as goal

pub take_line-requires-clause-line : goal.take_line-requires-clause-line
take_line-requires-clause-line g c =
    let found : IsFirstByte (is_byte 10) c.loop-end.rest.now (Some c.in-Some.end) = c.in-Some.ensures in
    is_line_before c.loop-end.rest.now c.in-Some.end (λ k before is. found.0.before k (omega arith) before is)

pub loop-end-preserved : goal.loop-end-preserved
loop-end-preserved g c =
    let found : IsFirstByte (is_byte 10) c.loop-end.rest.now (Some c.in-Some.end) = c.in-Some.ensures in
    let rest = c.loop-end.rest.now in
    let n = c.in-Some.end in
    let read = c.loop-end.invariant.1 in
    let line = take n rest ++ 10 ∷ [] in
    let left = whole_rest rest (n + 1) in (
      omega (arith, found.0.high, c.loop-end.invariant.0, c.in_ok-take_line.ensures.number, ap length left, length-drop (n + 1) rest),
      read ++ line,
      ap (λ (t : List ℕ). (read ++ line) ++ t) left ∙ piece_left read rest c.args.piece.now n found.0.high (eqb-true _ _ found.1) c.loop-end.invariant.2,
      λ start bytes text stands.
          let before = c.loop-end.invariant.3 start bytes text stands in
          let next = c.in_ok-take_line.ensures.ok start (bytes ++ read) (text ++ before.0) before.1 in (
            before.0 ++ next.0,
            moved g.I.Interpreter.answers c.args.strict start ((bytes ++ read) ++ line) (bytes ++ (read ++ line))
                ((text ++ before.0) ++ next.0) (text ++ (before.0 ++ next.0)) _ _ (piece_line bytes read (take n rest))
                (append_assoc text before.0 next.0) next.1,
            Appends-trans _ _ _ before.0 next.0 before.2 next.2,
          ),
    )

pub returns-clause-ok : goal.returns-clause-ok
returns-clause-ok g c = λ start bytes text stands.
    let rest = c.loop-end.rest.now in
    let read = c.loop-end.invariant.1 in
    let none : IsFirstByte (is_byte 10) rest None = rw c.in_default.is at c.memchr.ensures in
    let line : IsLine rest = is_line_whole rest (λ k inside is. none k (omega arith) inside is) in
    let before = c.loop-end.invariant.3 start bytes text stands in
    let all = adds g.I.Interpreter.answers c.args.strict start (bytes ++ read) (text ++ before.0) _ c.loop-end.self c.hold.new.self rest
    before.1 line c.hold.ensures.accepted c.hold.ensures.number
    (λ going. c.hold.ensures.holds before.1.rest (before.1.open_line going)) in (
      before.0,
      moved g.I.Interpreter.answers c.args.strict start ((bytes ++ read) ++ rest) (bytes ++ c.args.piece.now) (text ++ before.0)
          (text ++ before.0) _ _ (append_assoc bytes read rest ∙ ap (λ (t : List ℕ). bytes ++ t) c.loop-end.invariant.2) refl all,
      before.2,
    )

pub returns-in_err-take_line-clause-err : goal.returns-in_err-take_line-clause-err
returns-in_err-take_line-clause-err g c =
    let found : IsFirstByte (is_byte 10) c.loop-end.rest.now (Some c.in-Some.end) = c.in-Some.ensures in
    let rest = c.loop-end.rest.now in
    let n = c.in-Some.end in
    let read = c.loop-end.invariant.1 in
    let line = take n rest ++ 10 ∷ [] in
    let piece = c.args.piece.now in
    let p = err_from_is_err_and c.from_residual.result c.from_residual.ensures.1 in
    rw p.1 (λ start bytes text stands.
    let before = c.loop-end.invariant.3 start bytes text stands in
    let next = c.in_err-take_line.ensures.err start (bytes ++ read) (text ++ before.0) before.1 in
    let all = broken_more g.I.Interpreter.answers c.args.strict start ((bytes ++ read) ++ line) (drop (n + 1) rest) (text ++ before.0) next.0 next.1 in
    let left = piece_left read rest piece n found.0.high (eqb-true _ _ found.1) c.loop-end.invariant.2 in (
      before.0 ++ next.0,
      broken_after g.I.Interpreter.answers c.args.strict start (bytes ++ piece) text before.0 next.0
          (subst (λ (b : List ℕ). Broken g.I.Interpreter.answers c.args.strict start b (text ++ before.0) next.0)
          (piece_whole bytes read line (drop (n + 1) rest) piece left) all),
      front_after _ _ _ before.0 next.0 before.2 next.2,
    ))
