use Rattle.std.proofs.Common.{◌∙◌, ◌++◌, List, ℕ, ap, string_bytes}
use Rattle.certificate_judge.proofs.AnswerLemmas.{answers_more}
use Rattle.certificate_judge.proofs.answers.Answers.add.Goals as goal

pub returns : goal.returns
returns c = λ cs at are.
    answers_more cs c.args.certificate.now c.args.number c.args.self.now _ (string_bytes c.in_ok-line.line) c.in_ok-line.holds at are
    c.in_ok-line.ensures.line c.in_ok-line.ensures.exact c.in_ok-line.ensures.best
    (c.in_ok-push_str.ensures.bytes ∙ ap (λ (t : List ℕ). string_bytes c.args.self.now.lines ++ t) c.deref.ensures) c.both-self.ensures
