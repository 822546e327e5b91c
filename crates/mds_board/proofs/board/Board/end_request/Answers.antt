use Rattle.std.proofs.Common.{◌∙◌, ◌++◌, ◌∷◌, [], List, ap, sym}
use Rattle.export_protocol.specs.declared.event.Event.TheVariants as Event
use Rattle.mds_board.specs.declared.change.Answer.{Answer}
use Rattle.mds_board.specs.declared.change.Answer.TheVariants as answer
use Rattle.mds_board.specs.declared.change.Change.TheVariants as change
use Rattle.mds_board.specs.declared.entry.Entry.{Entry}
use Rattle.mds_board.proofs.Replays.{end_changes, keeps}
use Rattle.mds_board.proofs.board.Board.end_request.Goals as goal

pub invariant_of-self-2 : goal.invariant_of-self-2
invariant_of-self-2 g c =
    let changed = c.in_ok-reply.ensures.2 ∙ end_changes c.self.inside.state.state c.args.ticket in
    keeps c.self.inside.state c.step.new.self c.self.inside.history.entries c.keep_end.new.self.entries
    (change.Step (Event.End c.args.ticket)) (answer.Reply c.in_ok-reply.reply) c.self.invariant c.in_ok-reply.ensures
    (c.keep_end.ensures ∙ (ap (λ (r : Answer). c.reserve.new.self.entries
    ++ record { change = change.Step (Event.End c.args.ticket); reply = r } ∷ []) (sym changed)
    ∙ ap (λ (es : List Entry). es ++ record { change = change.Step (Event.End c.args.ticket); reply = answer.Reply c.in_ok-reply.reply }
    ∷ []) c.reserve.ensures.same))
