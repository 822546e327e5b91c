use Rattle.std.proofs.Common.{[], sym, append-nil, rules}
use Rattle.std.proofs.KnownBytes.{Appends-kept}
use Rattle.drive_lines.specs.Questions.{question_text}
use Rattle.drive_lines.proofs.questions.say_question.Goals as goal

pub returns-clause-err : goal.returns-clause-err
returns-clause-err g c = (
  question_text c.args.plan.now c.args.question.now,
  [],
  sym (append-nil (question_text c.args.plan.now c.args.question.now)),
  Appends-kept _ _ _ _ (search rules) c.flush.ensures.bytes,
)
