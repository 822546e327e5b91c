use Rattle.std.specs.Prelude.{IsTrue}
use Rattle.std.proofs.Common.{[], sym, append-nil}
use Rattle.phased_board.proofs.Ended.{has_ended, history_ended, history_refused, no_ticket, other_cause, others_ended}
use Rattle.phased_board.proofs.phased.Phased.end_once.Goals as goal

pub returns-then-has_ended-clause-ended : goal.returns-then-has_ended-clause-ended
returns-then-has_ended-clause-ended g c done = no_ticket c.args.self.now.state.cluster c.args.ticket (c.has_ended.ensures.0 c.if-has_ended.true)

pub returns-in-Ok-clause-ended : goal.returns-in-Ok-clause-ended
returns-in-Ok-clause-ended g c done = has_ended c.args.self.now c.end.new.self c.args.ticket _ c.in-Ok.ensures.answer

pub returns-in-Ok-clause-others : goal.returns-in-Ok-clause-others
returns-in-Ok-clause-others g c = others_ended c.args.self.now c.end.new.self c.args.ticket _ c.in-Ok.ensures.answer

pub returns-in-Err-clause-refused : goal.returns-in-Err-clause-refused
returns-in-Err-clause-refused g c = (
  c.args.ticket,
  c.in-Err.ensures.refused,
  other_cause c.args.self.now.state c.args.ticket c.in-Err.error c.in-Err.ensures.answer.0
      (λ is. (let yes : IsTrue c.has_ended.result = c.has_ended.ensures.1 is in let no = c.if-has_ended.false in cc)),
)

pub returns-then-has_ended-clause-history : goal.returns-then-has_ended-clause-history
returns-then-has_ended-clause-history g c = ([], sym (append-nil c.args.self.now.history))

pub returns-in-Ok-clause-history : goal.returns-in-Ok-clause-history
returns-in-Ok-clause-history g c = history_ended c.args.self.now c.end.new.self c.args.ticket _ c.in-Ok.ensures.answer

pub returns-in-Err-clause-history : goal.returns-in-Err-clause-history
returns-in-Err-clause-history g c = history_refused c.args.self.now c.end.new.self c.args.ticket _ c.in-Err.ensures.answer
