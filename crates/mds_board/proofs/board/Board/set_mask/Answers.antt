use Rattle.std.proofs.Common.{◌∙◌, ◌++◌, ◌∷◌, [], List, ap}
use Rattle.mds_board.specs.declared.change.Answer.TheVariants as answer
use Rattle.mds_board.specs.declared.change.Change.TheVariants as change
use Rattle.mds_board.specs.declared.entry.Entry.{Entry}
use Rattle.mds_board.proofs.Replays.{keeps}
use Rattle.mds_board.proofs.board.Board.set_mask.Goals as goal

pub invariant_of-self-2 : goal.invariant_of-self-2
invariant_of-self-2 g c =
    keeps c.self.inside.state c.set_mask.new.self c.self.inside.history.entries c.keep.new.self.entries (change.Mask c.args.mask)
    (answer.Done) c.self.invariant c.in_ok-set_mask.ensures
    (c.keep.ensures ∙ ap (λ (es : List Entry). es ++ record { change = change.Mask c.args.mask; reply = answer.Done } ∷ []) c.reserve.ensures.same)
