use Rattle.std.proofs.Common.{◌≡◌, Err, List, ap, false, true, ◌==◌, length, refl, subst, sym, take, ◌∙◌, ◌⊎◌}
use Rattle.std.specs.Io.KnownBytes.{Appends}
use Rattle.std.proofs.KnownBytes.{Appends-trans}
use Rattle.std.proofs.lemmas.Result.{err_from_is_err_and}
use Rattle.script_engine.specs.Answers.{fault_text}
use Rattle.script_engine.specs.Known.{AppendsFront}
use Rattle.script_engine.proofs.KnownLemmas.{front_after, front_wider}
use Rattle.script_board.specs.declared.fault.Fault.{Fault}
use Rattle.script_board.specs.declared.fault.Fault.TheVariants.{Memory}
use Rattle.script_session.specs.Printed.{Printed, joined}
use Rattle.script_session.specs.Done.{shown_at}
use Rattle.script_session.specs.Fault.{words}
use Rattle.script_session.specs.Session.{SessionData, cut_answer, done_answer, published, refusal_lines}
use Rattle.script_session.proofs.SessionLemmas.{shown_refused, told_accepted, told_cut, told_refused, told_unpublished}
use Rattle.script_session.proofs.session.Session.settle.Goals as goal

pub returns-in_err-write_fault-in-Err-Memory-clause-err : goal.returns-in_err-write_fault-in-Err-Memory-clause-err
returns-in_err-write_fault-in-Err-Memory-clause-err g c =
    let e = err_from_is_err_and c.from_residual.result c.from_residual.ensures.1 in
    let p : Printed = shown_at c.args.self.now.board c.args.done.now in
    let cut = c.print.ensures.memory (c.in-Err-Memory.is ∙ ap Err c.in-Err-Memory.field-0-is) in
    rw e.1 (λ ample. (
      cut_answer c.args.number (take cut.0 p.lines),
      told_cut c.args.number cut.0 p ample c.args.self.now c.note.new.self cut.1 (c.note.ensures ∙ c.print.ensures.same),
      front_after (g.W.Write.contents c.args.writer.now) (g.W.Write.contents c.print.new.writer)
          (g.W.Write.contents c.write_fault.new.writer) (joined (take cut.0 p.lines)) (fault_text c.args.number (words Memory)) cut.2
          c.in_err-write_fault-in-Err-Memory.ensures.err,
    ))

pub returns-in-Err-Memory-clause-ok : goal.returns-in-Err-Memory-clause-ok
returns-in-Err-Memory-clause-ok g c = λ ample.
    let p : Printed = shown_at c.args.self.now.board c.args.done.now in
    let cut = c.print.ensures.memory (c.in-Err-Memory.is ∙ ap Err c.in-Err-Memory.field-0-is) in (
      cut_answer c.args.number (take cut.0 p.lines),
      told_cut c.args.number cut.0 p ample c.args.self.now c.note.new.self cut.1 (c.note.ensures ∙ c.print.ensures.same),
      refl,
      Appends-trans (g.W.Write.contents c.args.writer.now) (g.W.Write.contents c.print.new.writer)
          (g.W.Write.contents c.write_fault.new.writer) (joined (take cut.0 p.lines)) (fault_text c.args.number (words Memory)) cut.2
          c.in_ok-write_fault-in-Err-Memory.ensures.ok,
    )

pub returns-in-Err-Write-clause-err : goal.returns-in-Err-Write-clause-err
returns-in-Err-Write-clause-err g c = λ ample.
    let p : Printed = shown_at c.args.self.now.board c.args.done.now in (
      done_answer c.args.number p false,
      told_unpublished c.args.number p ample c.args.self.now c.print.new.self c.print.ensures.same,
      front_wider (g.W.Write.contents c.args.writer.now) (g.W.Write.contents c.print.new.writer) (joined p.lines)
          (refusal_lines c.args.number p.refused) (c.print.ensures.write (c.in-Err-Write.is ∙ ap Err c.in-Err-Write.field-0-is)),
    )

pub returns-in_err-write_refused-clause-err : goal.returns-in_err-write_refused-clause-err
returns-in_err-write_refused-clause-err g c =
    let e = err_from_is_err_and c.from_residual-in_err-write_refused.result c.from_residual-in_err-write_refused.ensures.1 in
    let p : Printed = shown_at c.args.self.now.board c.args.done.now in
    let refused : c.refused-refused.result.now ≡ p.refused = c.refused-refused.ensures ∙ sym (shown_refused c.args.self.now.board c.args.done.now) in
    let mid = g.W.Write.contents c.print.new.writer in
    let last = g.W.Write.contents c.write_refused.new.writer in
    rw e.1 (λ ample. (
      done_answer c.args.number p false,
      told_unpublished c.args.number p ample c.args.self.now c.print.new.self c.print.ensures.same,
      front_after (g.W.Write.contents c.args.writer.now) mid last (joined p.lines) (refusal_lines c.args.number p.refused) c.in-Ok.ensures.done
          (subst (λ (faults : List Fault). AppendsFront mid last (refusal_lines c.args.number faults)) refused c.in_err-write_refused.ensures.err),
    ))

pub returns-then-not-is_empty-clause-ok : goal.returns-then-not-is_empty-clause-ok
returns-then-not-is_empty-clause-ok g c = λ ample.
    let p : Printed = shown_at c.args.self.now.board c.args.done.now in
    let refused : c.refused-refused.result.now ≡ p.refused = c.refused-refused.ensures ∙ sym (shown_refused c.args.self.now.board c.args.done.now) in
    let mid = g.W.Write.contents c.print.new.writer in
    let last = g.W.Write.contents c.write_refused.new.writer in
    let some : (length p.refused == 0) ≡ false = ap (λ (faults : List Fault). length faults == 0) (sym refused) ∙ sym c.is_empty.ensures
    ∙ c.if-not-is_empty.true in (
      done_answer c.args.number p ample,
      told_refused c.args.number p ample c.args.self.now c.note-then-not-is_empty.new.self some (c.note-then-not-is_empty.ensures ∙ c.print.ensures.same),
      sym some,
      Appends-trans (g.W.Write.contents c.args.writer.now) mid last (joined p.lines) (refusal_lines c.args.number p.refused) c.in-Ok.ensures.done
          (subst (λ (faults : List Fault). Appends mid last (refusal_lines c.args.number faults)) refused c.in_ok-write_refused.ensures.ok),
    )

pub returns-clause-ok : goal.returns-clause-ok
returns-clause-ok g c = λ ample.
    let p : Printed = shown_at c.args.self.now.board c.args.done.now in
    let refused : c.refused-refused.result.now ≡ p.refused = c.refused-refused.ensures ∙ sym (shown_refused c.args.self.now.board c.args.done.now) in
    let mid = g.W.Write.contents c.print.new.writer in
    let last = g.W.Write.contents c.write_refused.new.writer in
    let none : (length p.refused == 0) ≡ true = ap (λ (faults : List Fault). length faults == 0) (sym refused) ∙ sym c.is_empty.ensures
    ∙ c.if-not-is_empty.false in
    let told = told_accepted c.args.number p ample c.args.self.now c.publish.new.self none
    (subst (λ (s : SessionData). (c.publish.new.self ≡ published s) ⊎ (c.publish.new.self ≡ s)) c.print.ensures.same c.publish.ensures)
    in (
      told.0,
      told.1,
      told.2,
      rw told.3
          (Appends-trans (g.W.Write.contents c.args.writer.now) mid last (joined p.lines) (refusal_lines c.args.number p.refused) c.in-Ok.ensures.done
          (subst (λ (faults : List Fault). Appends mid last (refusal_lines c.args.number faults)) refused c.in_ok-write_refused.ensures.ok)),
    )
