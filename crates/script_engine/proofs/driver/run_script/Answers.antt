use Rattle.std.proofs.Common.{[], refl, arith, append-nil, rules, sym, true}
use Rattle.std.proofs.KnownBytes.{Appends-nil, Appends-trans, Consumes-nil}
use Rattle.script_engine.proofs.ProgressLemmas.{begins, over_from, going_strict, going_lax}
use Rattle.script_engine.proofs.EndLemmas.{all_at_end, all_early, cut_broken, done_at_end, done_early, gives_last, gives_more}
use Rattle.script_engine.proofs.EndLemmas.{gives_none, is_strict, some_answered, still_strict, stopped, whole_so_far}
use Rattle.script_engine.proofs.driver.run_script.Goals.{else-strict-via-then-strict+else-not-progress, else-strict-via-else-strict}
use Rattle.script_engine.proofs.driver.run_script.Goals as goal

pub loop-init : goal.loop-init
loop-init g c = (
  [],
  [],
  begins g.I.Interpreter.answers c.args.strict _ _ c.new.ensures.items refl refl refl,
  (Consumes-nil _, sym (append-nil _)),
  Appends-nil _,
  omega arith,
  going_strict c.args.strict true refl,
  c.requires.unread,
)

pub returns-in_default-clause-read : goal.returns-in_default-clause-read
returns-in_default-clause-read g c = λ is.
    let before = c.loop.invariant in (
      before.0,
      gives_none g.R.Read.remaining c.args.input.now c.loop.input c.read.new.self before.0 before.3 c.in_default.ensures.bytes c.in_default.ensures.failed.0,
      whole_so_far g.I.Interpreter.answers c.args.strict _ _ _ before.0 before.1 _ _ before.2 before.4,
    )

pub returns-clause-read : goal.returns-clause-read
returns-clause-read g c = λ is.
    let before = c.loop.invariant in
    (before.0, before.3, whole_so_far g.I.Interpreter.answers c.args.strict _ _ _ before.0 before.1 _ _ before.2 before.4)

pub returns-then-count-eq0-clause-done : goal.returns-then-count-eq0-clause-done
returns-then-count-eq0-clause-done g c =
    let before = c.loop.invariant in
    let came = c.in-Ok.ensures.bytes in
    let gave = gives_last g.R.Read.remaining c.args.input.now c.loop.input c.read.new.self before.0 _ c.in-Ok.count before.3
    (came.0, c.in-Ok.ensures.given) c.if-count-eq0.true in
    let ended = c.in-Ok-finish.ensures.ok c.args.strict c.args.interpreter.now before.0 before.1 before.6 before.2 in
    done_at_end g.I.Interpreter.answers c.args.strict _ _ _ _ _ _ before.0 before.1 ended.0 _ _ ended.1 gave.0
    (came.1 c.if-count-eq0.true (omega arith)) before.4 ended.2

pub returns-then-count-eq0-clause-given : goal.returns-then-count-eq0-clause-given
returns-then-count-eq0-clause-given g c =
    let before = c.loop.invariant in
    let came = c.in-Ok.ensures.bytes in
    let gave = gives_last g.R.Read.remaining c.args.input.now c.loop.input c.read.new.self before.0 _ c.in-Ok.count before.3
    (came.0, c.in-Ok.ensures.given) c.if-count-eq0.true in
    let ended = c.in-Ok-finish.ensures.ok c.args.strict c.args.interpreter.now before.0 before.1 before.6 before.2 in (
      before.0,
      gave,
      λ going. (came.1 c.if-count-eq0.true (omega arith), c.in-Ok.ensures.ended c.if-count-eq0.true),
      all_at_end g.I.Interpreter.answers c.args.strict _ _ _ _ before.0 before.1 ended.0 _ _ ended.1 before.4 ended.2,
    )

pub returns-then-count-eq0-clause-stops : goal.returns-then-count-eq0-clause-stops
returns-then-count-eq0-clause-stops g c = λ over.
    let before = c.loop.invariant in
    let came = c.in-Ok.ensures.bytes in (
      before.0,
      _,
      gives_more g.R.Read.remaining c.args.input.now c.loop.input c.read.new.self before.0 _ before.3 (came.0, c.in-Ok.ensures.given),
      stopped g.I.Interpreter.answers c.args.strict _ before.0 _ before.1 _ _ before.2 (is_strict c.args.strict _ over) before.6 (search rules),
    )

pub returns-in_default-finish-clause-write : goal.returns-in_default-finish-clause-write
returns-in_default-finish-clause-write g c = λ is.
    let before = c.loop.invariant in
    let came = c.in-Ok.ensures.bytes in
    let gave = gives_last g.R.Read.remaining c.args.input.now c.loop.input c.read.new.self before.0 _ c.in-Ok.count before.3
    (came.0, c.in-Ok.ensures.given) c.if-count-eq0.true in
    let failed = c.in_default-finish.ensures.err c.args.strict c.args.interpreter.now before.0 before.1 before.6 before.2 in
    (before.0, gave, some_answered g.I.Interpreter.answers c.args.strict _ _ _ _ before.0 before.1 failed.0 failed.1 before.4 failed.2)

pub returns-in_default-take_piece-clause-write : goal.returns-in_default-take_piece-clause-write
returns-in_default-take_piece-clause-write g c = λ is.
    let before = c.loop.invariant in
    let came = c.in-Ok.ensures.bytes in
    let failed = c.in_default-take_piece.ensures.err c.args.interpreter.now before.0 before.1 before.2 in (
      _,
      gives_more g.R.Read.remaining c.args.input.now c.loop.input c.read.new.self before.0 _ before.3 (came.0, c.in-Ok.ensures.given),
      some_answered g.I.Interpreter.answers c.args.strict _ _ _ _ _ before.1 failed.0
          (cut_broken g.I.Interpreter.answers c.args.strict _ _ _ _ failed.1) before.4 failed.2,
    )

pub returns-then-not-progress-clause-done : goal.returns-then-not-progress-clause-done
returns-then-not-progress-clause-done g c =
    let before = c.loop.invariant in
    let came = c.in-Ok.ensures.bytes in
    let gave = gives_more g.R.Read.remaining c.args.input.now c.loop.input c.read.new.self before.0 _ before.3 (came.0, c.in-Ok.ensures.given) in
    let next = c.in-Ok-take_piece.ensures.ok c.args.interpreter.now before.0 before.1 before.2 in
    done_early g.I.Interpreter.answers c.args.strict _ _ _ _ _ _ _ _ _ next.1 (over_from _ _ c.if-strict.true c.if-not-progress.true)
    c.if-not-progress.true gave.0 (Appends-trans _ _ _ before.1 next.0 before.4 next.2)

pub returns-then-not-progress-clause-given : goal.returns-then-not-progress-clause-given
returns-then-not-progress-clause-given g c =
    let before = c.loop.invariant in
    let came = c.in-Ok.ensures.bytes in
    let next = c.in-Ok-take_piece.ensures.ok c.args.interpreter.now before.0 before.1 before.2 in (
      _,
      gives_more g.R.Read.remaining c.args.input.now c.loop.input c.read.new.self before.0 _ before.3 (came.0, c.in-Ok.ensures.given),
      λ going. absurd (still_strict c.args.strict c.if-strict.true going),
      all_early g.I.Interpreter.answers c.args.strict _ _ _ _ _ _ _ next.1 (over_from _ _ c.if-strict.true c.if-not-progress.true)
          c.if-not-progress.true (Appends-trans _ _ _ before.1 next.0 before.4 next.2),
    )

pub returns-then-not-progress-clause-stops : goal.returns-then-not-progress-clause-stops
returns-then-not-progress-clause-stops g c = λ over.
    let before = c.loop.invariant in
    let came = c.in-Ok.ensures.bytes in (
      before.0,
      _,
      gives_more g.R.Read.remaining c.args.input.now c.loop.input c.read.new.self before.0 _ before.3 (came.0, c.in-Ok.ensures.given),
      stopped g.I.Interpreter.answers c.args.strict _ before.0 _ before.1 _ _ before.2 c.if-strict.true before.6 (search rules),
    )

pub loop-preserved : goal.loop-preserved
loop-preserved g c =
    let before = c.loop.invariant in
    let came = c.in-Ok.ensures.bytes in
    let next = c.in-Ok-take_piece.ensures.ok c.args.interpreter.now before.0 before.1 before.2 in (
      _,
      _,
      next.1,
      gives_more g.R.Read.remaining c.args.input.now c.loop.input c.read.new.self before.0 _ before.3 (came.0, c.in-Ok.ensures.given),
      Appends-trans _ _ _ before.1 next.0 before.4 next.2,
      omega (arith, before.5, c.in-Ok-take_piece.ensures.number, c.in-Ok.ensures.bound.0, c.in-Ok.ensures.bound.1, c.if-count-eq0.array_long),
      elim c.else-strict.branch [
        | else-strict-via-then-strict+else-not-progress w ↦ going_strict _ _ w.if-not-progress.false
        | else-strict-via-else-strict w ↦ going_lax _ _ w.if-strict.false
      ],
      omega (arith, before.7, c.in-Ok.ensures.reads),
    )
