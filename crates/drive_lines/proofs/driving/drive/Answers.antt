use Rattle.std.proofs.Common.{◌≡◌, ◌∙◌, ◌++◌, ◌∷◌, [], ◌||◌, ℕ, Bool, List, sym, ap, subst, append-nil}
use Rattle.std.specs.Io.KnownBytes.{Appends}
use Rattle.std.proofs.KnownBytes.{Consumes-nil}
use Rattle.script_engine.specs.Known.{AppendsFront}
use Rattle.pin_driver.specs.declared.answer.HostAnswer.{HostAnswer}
use Rattle.pin_driver.specs.declared.note.Note.{Note}
use Rattle.pin_driver.specs.declared.task.Task.{Task}
use Rattle.drive_lines.specs.Dialogue.{HasTaken, IsCutRun}
use Rattle.drive_lines.specs.Machines.{is_set_question}
use Rattle.drive_lines.specs.Questions.{note_text, question_text}
use Rattle.drive_lines.proofs.Driven.{IsGoing, begins, cut_answer, cut_late, cut_note, cut_question, goes_on, rights, run_ends, task_is}
use Rattle.drive_lines.proofs.Heard.{on_err, taken_more}
use Rattle.drive_lines.proofs.driving.drive.Goals as goal

pub loop-init : goal.loop-init
loop-init g c = (
  [],
  [],
  (Consumes-nil (g.R.Read.remaining c.args.host.now.reader), sym (append-nil c.args.host.now.taken)),
  begins (g.R.Read.remaining c.args.host.now.reader) c.args.is_back c.args.task c.new-machine.result (g.W.Write.contents c.args.writer.now)
      c.new-machine.ensures,
)

pub returns-in_err-say_question-clause-cut : goal.returns-in_err-say_question-clause-cut
returns-in_err-say_question-clause-cut g c =
    let at = c.loop.invariant in
    let known = g.R.Read.remaining c.args.host.now.reader in
    let old = g.W.Write.contents c.args.writer.now in
    let before = g.W.Write.contents c.loop.writer in
    let after = g.W.Write.contents c.say_question.new.writer in
    let q = c.question-question.result in
    let right = rights c.args.is_back c.args.task c.requires.mark c.setter.ensures.driven c.restorer.ensures.restored in
    let so = c.task.ensures ∙ task_is c.args.is_back c.args.task at.1 c.loop.machine at.3.machine_is in
    let part = subst (λ (t : Task). AppendsFront before after (question_text t.plan q)) so c.in_err-say_question.ensures.err in
    let is = c.question-question.ensures c.args.is_back c.args.task at.1 at.3.machine_is in
    let cut : (bytes : List ℕ) × (more : List HostAnswer) × HasTaken g.R.Read.remaining c.args.host.now c.loop.host bytes × IsCutRun known
    c.args.is_back c.args.task old after bytes more =
    (at.0, at.1, at.2, cut_question known c.args.is_back c.args.task old right c.loop.machine c.loop.was_set before at.0 at.1 at.3 after q is part) in
    on_err _ _ cut

pub returns-in-Some-clause-done : goal.returns-in-Some-clause-done
returns-in-Some-clause-done g c =
    let at = c.loop.invariant in
    let before = g.W.Write.contents c.loop.writer in
    let after = g.W.Write.contents c.say_question.new.writer in
    let q = c.question-question.result in
    let right = rights c.args.is_back c.args.task c.requires.mark c.setter.ensures.driven c.restorer.ensures.restored in
    let so = c.task.ensures ∙ task_is c.args.is_back c.args.task at.1 c.loop.machine at.3.machine_is in
    let whole = subst (λ (t : Task). Appends before after (question_text t.plan q)) so c.in_ok-say_question.ensures.ok in
    let is = c.question-question.ensures c.args.is_back c.args.task at.1 at.3.machine_is in (
      at.0,
      at.1,
      at.2,
      run_ends _ c.args.is_back c.args.task _ right c.loop.machine c.loop.was_set before at.0 at.1 at.3 after q c.in-Some.ending is
          (sym c.ending_of.ensures ∙ c.in-Some.is) whole,
    )

pub returns-in_err-answer-clause-cut : goal.returns-in_err-answer-clause-cut
returns-in_err-answer-clause-cut g c =
    let at = c.loop.invariant in
    let known = g.R.Read.remaining c.args.host.now.reader in
    let old = g.W.Write.contents c.args.writer.now in
    let before = g.W.Write.contents c.loop.writer in
    let after = g.W.Write.contents c.say_question.new.writer in
    let q = c.question-question.result in
    let right = rights c.args.is_back c.args.task c.requires.mark c.setter.ensures.driven c.restorer.ensures.restored in
    let so = c.task.ensures ∙ task_is c.args.is_back c.args.task at.1 c.loop.machine at.3.machine_is in
    let whole = subst (λ (t : Task). Appends before after (question_text t.plan q)) so c.in_ok-say_question.ensures.ok in
    let is = c.question-question.ensures c.args.is_back c.args.task at.1 at.3.machine_is in
    let tail = c.in_err-answer.ensures.err in
    let cut : (bytes : List ℕ) × (more : List HostAnswer) × HasTaken g.R.Read.remaining c.args.host.now c.answer.new.self bytes × IsCutRun known
    c.args.is_back c.args.task old after bytes more = (
      at.0 ++ tail.0,
      at.1,
      taken_more g.R.Read.remaining c.args.host.now c.loop.host c.answer.new.self at.0 tail.0 at.2 tail.1,
      cut_answer known c.args.is_back c.args.task old right c.loop.machine c.loop.was_set before at.0 at.1 at.3 after q tail.0 is whole,
    ) in
    on_err _ _ cut

pub returns-in_err-say_note-clause-cut : goal.returns-in_err-say_note-clause-cut
returns-in_err-say_note-clause-cut g c =
    let at = c.loop.invariant in
    let known = g.R.Read.remaining c.args.host.now.reader in
    let old = g.W.Write.contents c.args.writer.now in
    let before = g.W.Write.contents c.loop.writer in
    let mid = g.W.Write.contents c.say_question.new.writer in
    let after = g.W.Write.contents c.say_note.new.writer in
    let q = c.question-question.result in
    let a = c.in_ok-answer.answer in
    let right = rights c.args.is_back c.args.task c.requires.mark c.setter.ensures.driven c.restorer.ensures.restored in
    let so = c.task.ensures ∙ task_is c.args.is_back c.args.task at.1 c.loop.machine at.3.machine_is in
    let whole = subst (λ (t : Task). Appends before mid (question_text t.plan q)) so c.in_ok-say_question.ensures.ok in
    let is = c.question-question.ensures c.args.is_back c.args.task at.1 at.3.machine_is in
    let on = sym c.ending_of.ensures ∙ c.in-None.is in
    let piece = c.in_ok-answer.ensures.ok in
    let machine_so = c.answer-note.ensures.after c.args.is_back c.args.task at.1 at.3.machine_is in
    let then_so = c.task-in-loop.ensures ∙ task_is c.args.is_back c.args.task (at.1 ++ a ∷ []) c.answer-note.new.self machine_so in
    let note_is = c.answer-note.ensures.note c.args.is_back c.args.task at.1 at.3.machine_is in
    let part = subst (λ (n : Note). AppendsFront mid after (note_text c.args.task.plan n)) note_is
    (subst (λ (t : Task). AppendsFront mid after (note_text t.plan c.answer-note.result)) then_so c.in_err-say_note.ensures.err) in
    let cut : (bytes : List ℕ) × (more : List HostAnswer) × HasTaken g.R.Read.remaining c.args.host.now c.answer.new.self bytes × IsCutRun known
    c.args.is_back c.args.task old after bytes more = (
      at.0 ++ piece.0,
      at.1 ++ a ∷ [],
      taken_more g.R.Read.remaining c.args.host.now c.loop.host c.answer.new.self at.0 piece.0 at.2 piece.1,
      cut_note known c.args.is_back c.args.task old right c.loop.machine c.loop.was_set before at.0 at.1 at.3 q is on a mid whole
          (g.R.Read.remaining c.loop.host.reader) at.2.0 piece.0 piece.2 after part,
    ) in
    on_err _ _ cut

pub loop-preserved : goal.loop-preserved
loop-preserved g c =
    let at = c.loop.invariant in
    let known = g.R.Read.remaining c.args.host.now.reader in
    let old = g.W.Write.contents c.args.writer.now in
    let before = g.W.Write.contents c.loop.writer in
    let mid = g.W.Write.contents c.say_question.new.writer in
    let after = g.W.Write.contents c.say_note.new.writer in
    let q = c.question-question.result in
    let a = c.in_ok-answer.answer in
    let right = rights c.args.is_back c.args.task c.requires.mark c.setter.ensures.driven c.restorer.ensures.restored in
    let so = c.task.ensures ∙ task_is c.args.is_back c.args.task at.1 c.loop.machine at.3.machine_is in
    let whole = subst (λ (t : Task). Appends before mid (question_text t.plan q)) so c.in_ok-say_question.ensures.ok in
    let is = c.question-question.ensures c.args.is_back c.args.task at.1 at.3.machine_is in
    let on = sym c.ending_of.ensures ∙ c.in-None.is in
    let piece = c.in_ok-answer.ensures.ok in
    let machine_so = c.answer-note.ensures.after c.args.is_back c.args.task at.1 at.3.machine_is in
    let then_so = c.task-in-loop.ensures ∙ task_is c.args.is_back c.args.task (at.1 ++ a ∷ []) c.answer-note.new.self machine_so in
    let note_is = c.answer-note.ensures.note c.args.is_back c.args.task at.1 at.3.machine_is in
    let part = subst (λ (n : Note). Appends mid after (note_text c.args.task.plan n)) note_is
    (subst (λ (t : Task). Appends mid after (note_text t.plan c.answer-note.result)) then_so c.in_ok-say_note.ensures.ok) in
    let set_is : c.either-was_set.result ≡ (c.loop.was_set || is_set_question q) = c.either-was_set.ensures ∙ ap (λ (b : Bool). c.loop.was_set || b)
    c.is_set_question.ensures in (
      at.0 ++ piece.0,
      at.1 ++ a ∷ [],
      taken_more g.R.Read.remaining c.args.host.now c.loop.host c.answer.new.self at.0 piece.0 at.2 piece.1,
      subst (λ (b : Bool). IsGoing known c.args.is_back c.args.task c.answer-note.new.self b old after (at.0 ++ piece.0) (at.1 ++ a ∷ [])) (sym set_is)
          (goes_on known c.args.is_back c.args.task old right c.loop.machine c.loop.was_set before at.0 at.1 at.3 q is on a mid whole
          (g.R.Read.remaining c.loop.host.reader) at.2.0 piece.0 piece.2 c.answer-note.new.self after machine_so part),
    )

pub returns-clause-cut : goal.returns-clause-cut
returns-clause-cut g c =
    let at = c.loop.invariant in
    let right = rights c.args.is_back c.args.task c.requires.mark c.setter.ensures.driven c.restorer.ensures.restored in
    (at.0, at.1, at.2, cut_late _ c.args.is_back c.args.task _ right c.loop.machine c.loop.was_set (g.W.Write.contents c.loop.writer) at.0 at.1 at.3)
