use Rattle.std.proofs.Common.{◌∙◌, ◌++◌, ◌∷◌, [], List, ap}
use Rattle.export_protocol.specs.declared.event.Event.{Event}
use Rattle.mds_board.specs.declared.change.Answer.TheVariants as answer
use Rattle.mds_board.specs.declared.change.Change.TheVariants as change
use Rattle.mds_board.specs.declared.entry.Entry.{Entry}
use Rattle.mds_board.proofs.Replays.{keeps}
use Rattle.mds_board.proofs.board.Board.step_kept.Goals as goal

pub invariant_of-self-2 : goal.invariant_of-self-2
invariant_of-self-2 g c =
    keeps c.self.inside.state c.step.new.self c.self.inside.history.entries c.keep_step.new.self.entries (change.Step c.args.event)
    (answer.Reply c.in_ok-reply.reply) c.self.invariant c.in_ok-reply.ensures
    (c.keep_step.ensures.kept ∙ (ap (λ (e : Event). c.room_for_event.new.history.entries
    ++ record { change = change.Step e; reply = answer.Reply c.in_ok-reply.reply } ∷ []) c.in-Ok.ensures.event
    ∙ ap (λ (es : List Entry). es ++ record { change = change.Step c.args.event; reply = answer.Reply c.in_ok-reply.reply } ∷ [])
    c.room_for_event.ensures.same))
