use Rattle.std.proofs.Common.{◌∙◌, ◌++◌, ◌∷◌, [], List, ap}
use Rattle.mds_board.specs.declared.change.Answer.TheVariants as answer
use Rattle.mds_board.specs.declared.change.Change.TheVariants as change
use Rattle.mds_board.specs.declared.entry.Entry.{Entry}
use Rattle.mds_board.proofs.Replays.{keeps}
use Rattle.mds_board.proofs.board.Board.tick.Goals as goal

pub invariant_of-self-2 : goal.invariant_of-self-2
invariant_of-self-2 g c =
    keeps c.self.inside.state c.tick.new.self c.self.inside.history.entries c.keep_tick.new.self.entries (change.Tick) (answer.Done)
    c.self.invariant c.in_ok-tick.ensures
    (c.keep_tick.ensures ∙ ap (λ (es : List Entry). es ++ record { change = change.Tick; reply = answer.Done } ∷ []) c.reserve.ensures.same)
