use Rattle.std.proofs.Common.{◌∙◌, ◌++◌, ◌∷◌, [], List, ap, sym}
use Rattle.export_protocol.specs.declared.event.Event.TheVariants as Event
use Rattle.export_protocol.specs.declared.event.Reply.{Reply}
use Rattle.mds_board.specs.declared.change.Answer.TheVariants as answer
use Rattle.mds_board.specs.declared.change.Change.TheVariants as change
use Rattle.mds_board.specs.declared.entry.Entry.{Entry}
use Rattle.mds_board.proofs.Replays.{keeps}
use Rattle.mds_board.proofs.board.Board.begin.Goals as goal

pub invariant_of-self-2 : goal.invariant_of-self-2
invariant_of-self-2 g c =
    keeps c.self.inside.state c.begin.new.self c.self.inside.history.entries c.keep_begin.new.self.entries
    (change.Step (Event.Begin c.args.rank c.args.dir)) (answer.Reply c.in_ok-reply.reply) c.self.invariant c.in_ok-reply.ensures.step
    (c.keep_begin.ensures ∙ (ap (λ (r : Reply). c.reserve.new.self.entries
    ++ record { change = change.Step (Event.Begin c.args.rank c.args.dir); reply = answer.Reply r } ∷ []) (sym c.in-Ticket.is)
    ∙ ap (λ (es : List Entry). es ++ record {
      change = change.Step (Event.Begin c.args.rank c.args.dir);
      reply = answer.Reply c.in_ok-reply.reply;
    } ∷ []) c.reserve.ensures.same))
