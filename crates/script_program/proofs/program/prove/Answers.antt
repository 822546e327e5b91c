use Rattle.std.proofs.Common.{Err, Ok, ap, inl, inr, option_and_then, refl, true, false, ◌∙◌}
use Rattle.script_program.specs.Exit.{HasAllIn, HasFrontIn}
use Rattle.script_program.proofs.ExitLemmas.{all_in, broken_off, carried_out, front_in, is_asked}
use Rattle.script_program.proofs.program.prove.Goals as goal

pub returns-in_default : goal.returns-in_default
returns-in_default g c = inr (inr (inr (c.fail.ensures.status, inr (inr (inl (refl, refl))))))

pub returns-in-Err : goal.returns-in-Err
returns-in-Err g c =
    broken_off g.R.Read.remaining c.args.input.now c.run-ended.new.input (g.W.Write.contents c.args.writer.now) (g.W.Write.contents c.run-ended.new.writer)
    c.args.settings.now.limit c.args.settings.now.strict
    (HasAllIn (option_and_then g.P.Write.contents c.args.proofs.now) (option_and_then g.P.Write.contents c.run-ended.new.proofs))
    (HasFrontIn (option_and_then g.P.Write.contents c.args.proofs.now) (option_and_then g.P.Write.contents c.run-ended.new.proofs))
    _ c.in-Err.failure c.run-ended.result.answered _ c.in-Err.is c.fail-in-Err.ensures.status
    c.run-ended.ensures.run.read c.run-ended.ensures.run.cause c.run-ended.ensures.run.write
    (λ is. let none = c.run-ended.ensures.memory (c.in-Err.is ∙ ap Err is) in
    (none.0, ap g.W.Write.contents none.1))

pub returns-in-Err-proved : goal.returns-in-Err-proved
returns-in-Err-proved g c =
    inr (inr (inr (
      refl,
      inr (inr (inr (
        is_asked c.args.proofs.now c.run-ended.result.proved c.in-Err-proved.why c.run-ended.ensures.unasked c.in-Err-proved.is,
        c.in-Ok-answered.accepted,
        carried_out g.R.Read.remaining c.args.input.now c.run-ended.new.input (g.W.Write.contents c.args.writer.now) (g.W.Write.contents c.run-ended.new.writer)
            c.args.settings.now.limit c.args.settings.now.strict _ _ c.run-ended.result c.in-Ok-answered.accepted
            (HasFrontIn (option_and_then g.P.Write.contents c.args.proofs.now) (option_and_then g.P.Write.contents c.run-ended.new.proofs))
            c.run-ended.ensures.run c.in-Ok-answered.is (front_in _ _ c.run-ended.result.proved c.in-Err-proved.why c.in-Err-proved.is),
      ))),
    )))

pub returns-then-accepted : goal.returns-then-accepted
returns-then-accepted g c =
    inl (
      refl,
      carried_out g.R.Read.remaining c.args.input.now c.run-ended.new.input (g.W.Write.contents c.args.writer.now) (g.W.Write.contents c.run-ended.new.writer)
          c.args.settings.now.limit c.args.settings.now.strict _ _ c.run-ended.result true
          (HasAllIn (option_and_then g.P.Write.contents c.args.proofs.now) (option_and_then g.P.Write.contents c.run-ended.new.proofs))
          c.run-ended.ensures.run (c.in-Ok-answered.is ∙ ap Ok c.if-accepted.true)
          (all_in _ _ c.run-ended.result.proved c.certificates_are_best.ensures.best c.certificates_are_best.ensures.certified
          c.in_default-proved.field-0 c.in_default-proved.is),
    )

pub returns-else-accepted : goal.returns-else-accepted
returns-else-accepted g c =
    inr (inl (
      refl,
      carried_out g.R.Read.remaining c.args.input.now c.run-ended.new.input (g.W.Write.contents c.args.writer.now) (g.W.Write.contents c.run-ended.new.writer)
          c.args.settings.now.limit c.args.settings.now.strict _ _ c.run-ended.result false
          (HasAllIn (option_and_then g.P.Write.contents c.args.proofs.now) (option_and_then g.P.Write.contents c.run-ended.new.proofs))
          c.run-ended.ensures.run (c.in-Ok-answered.is ∙ ap Ok c.if-accepted.false)
          (all_in _ _ c.run-ended.result.proved c.certificates_are_best.ensures.best c.certificates_are_best.ensures.certified
          c.in_default-proved.field-0 c.in_default-proved.is),
    ))
