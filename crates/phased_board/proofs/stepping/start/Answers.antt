use Rattle.std.proofs.Common.{◌∙◌, [], false, inl, inr, refl, sym, true}
use Rattle.mds_board.specs.declared.change.Answer.TheVariants as answer
use Rattle.mds_board.specs.declared.change.Change.TheVariants.{Step}
use Rattle.mds_board.specs.Steps.{spelled}
use Rattle.phased_board.proofs.Ordering.{start_orders, start_reply}
use Rattle.export_protocol.specs.declared.event.Event.TheVariants.{Start}
use Rattle.phased_board.proofs.Going.{answer_adds, answered, stays}
use Rattle.phased_board.proofs.stepping.start.Goals as goal

pub unreachable-requires : goal.unreachable-requires
unreachable-requires g c =
    c.in_default.not-Export _ _
    (start_reply c.args.board.now.state c.args.order.from c.args.order.to c.args.order.dirs c.in_ok-reply.reply c.in_ok-reply.ensures.2)

pub returns-clause-started : goal.returns-clause-started
returns-clause-started g c =
    let is = sym c.in-Export.is ∙ start_reply c.args.board.now.state c.args.order.from c.args.order.to c.args.order.dirs c.in_ok-reply.reply
    c.in_ok-reply.ensures.2 in
    (cc, start_orders c.args.board.now c.step.new.self c.args.order c.in_ok-reply.ensures.3)

pub returns-clause-went : goal.returns-clause-went
returns-clause-went g c =
    answered false true [] c.args.board.now c.args.board.now c.step.new.self
    (Step (Start c.args.order.from c.args.order.to c.args.order.dirs)) (spelled answer.Reply c.step.result)
    (stays false true [] c.args.board.now) (inr (inl (refl, tt))) c.step.ensures

pub returns-clause-events : goal.returns-clause-events
returns-clause-events g c = λ before.
    answer_adds before c.args.board.now c.step.new.self (Step (Start c.args.order.from c.args.order.to c.args.order.dirs))
    (spelled answer.Reply c.step.result) tt c.step.ensures
