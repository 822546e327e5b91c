use Rattle.std.proofs.Common.{◌∙◌, ◌++◌, ◌∷◌, [], List, ap}
use Rattle.heat_ledger.specs.Rows.{counted_rows}
use Rattle.mds_board.specs.declared.change.Answer.TheVariants as answer
use Rattle.mds_board.specs.declared.change.Change.TheVariants as change
use Rattle.mds_board.specs.declared.entry.Entry.{Entry}
use Rattle.mds_board.proofs.Replays.{keeps}
use Rattle.mds_board.proofs.board.Board.deposit.Goals as goal

pub invariant_of-self-2 : goal.invariant_of-self-2
invariant_of-self-2 g c =
    keeps c.self.inside.state c.deposit.new.self c.self.inside.history.entries c.keep.new.self.entries
    (change.Deposit (counted_rows c.args.share.now.pending)) (answer.Done) c.self.invariant c.in_ok-hits.ensures.step
    (c.keep.ensures ∙ (ap (λ hits. c.reserve.new.self.entries ++ record { change = change.Deposit hits; reply = answer.Done } ∷ [])
    c.in_ok-hits.ensures.hits ∙ ap (λ (es : List Entry). es
    ++ record { change = change.Deposit (counted_rows c.args.share.now.pending); reply = answer.Done } ∷ []) c.reserve.ensures.same))
