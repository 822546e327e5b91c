use Rattle.std.proofs.Common.{◌∙◌, ◌++◌, ◌∷◌, [], List, ap, to_z, of_z, w32}
use Rattle.mds_board.specs.declared.change.Answer.TheVariants as answer
use Rattle.mds_board.specs.declared.change.Change.TheVariants as change
use Rattle.mds_board.specs.declared.entry.Entry.{Entry}
use Rattle.mds_board.proofs.Replays.{keeps}
use Rattle.mds_board.proofs.board.Board.set_pin.Goals as goal

pub invariant_of-self-2 : goal.invariant_of-self-2
invariant_of-self-2 g c =
    keeps c.self.inside.state c.set_pin.new.self c.self.inside.history.entries c.keep.new.self.entries
    (change.Pin c.args.dir (to_z w32 (of_z w32 c.args.pin))) (answer.Done) c.self.invariant c.in_ok-set_pin.ensures
    (c.keep.ensures ∙ ap (λ (es : List Entry). es ++ record {
      change = change.Pin c.args.dir (to_z w32 (of_z w32 c.args.pin));
      reply = answer.Done;
    } ∷ []) c.reserve.ensures.same)
