use Rattle.std.proofs.Common.{◌∙◌, ◌++◌, ◌∷◌, [], List, ap, ℕ}
use Rattle.mds_board.specs.declared.change.Answer.TheVariants as answer
use Rattle.mds_board.specs.declared.change.Change.TheVariants as change
use Rattle.mds_board.specs.declared.entry.Entry.{Entry}
use Rattle.mds_board.proofs.Replays.{keeps}
use Rattle.mds_board.proofs.board.Board.make.Goals as goal

pub invariant_of-self-2 : goal.invariant_of-self-2
invariant_of-self-2 g c =
    keeps c.self.inside.state c.make.new.self c.self.inside.history.entries c.keep.new.self.entries
    (change.Make c.args.parent c.args.name.now c.args.inodes) (answer.Dir c.in_ok-dir.dir) c.self.invariant c.in_ok-dir.ensures
    (c.keep.ensures ∙ (ap (λ (name : List ℕ). c.room_for_name.new.history.entries
    ++ record { change = change.Make c.args.parent name c.args.inodes; reply = answer.Dir c.in_ok-dir.dir } ∷ []) c.in-Ok.ensures.name
    ∙ ap (λ (es : List Entry). es ++ record {
      change = change.Make c.args.parent c.args.name.now c.args.inodes;
      reply = answer.Dir c.in_ok-dir.dir;
    } ∷ []) c.room_for_name.ensures.same))
