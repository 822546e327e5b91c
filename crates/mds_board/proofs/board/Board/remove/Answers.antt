use Rattle.std.proofs.Common.{◌∙◌, ◌++◌, ◌∷◌, [], List, ap}
use Rattle.mds_board.specs.declared.change.Answer.TheVariants as answer
use Rattle.mds_board.specs.declared.change.Change.TheVariants as change
use Rattle.mds_board.specs.declared.entry.Entry.{Entry}
use Rattle.mds_board.proofs.Replays.{keeps}
use Rattle.mds_board.proofs.board.Board.remove.Goals as goal

pub invariant_of-self-2 : goal.invariant_of-self-2
invariant_of-self-2 g c =
    keeps c.self.inside.state c.remove.new.self c.self.inside.history.entries c.keep.new.self.entries (change.Remove c.args.dir)
    (answer.Done) c.self.invariant c.in_ok-remove.ensures
    (c.keep.ensures ∙ ap (λ (es : List Entry). es ++ record { change = change.Remove c.args.dir; reply = answer.Done } ∷ []) c.reserve.ensures.same)
