use Rattle.std.proofs.Common.{◌∙◌, ◌++◌, ◌∷◌, [], List, ap, sym}
use Rattle.mds_types.specs.declared.order.Order.{Order}
use Rattle.mds_types.specs.declared.plan.Plan.{Plan}
use Rattle.mds_board.specs.declared.change.Answer.TheVariants as answer
use Rattle.mds_board.specs.declared.change.Change.TheVariants as change
use Rattle.mds_board.specs.declared.entry.Entry.{Entry}
use Rattle.mds_board.proofs.Replays.{keeps}
use Rattle.mds_board.proofs.board.Board.adopt.Goals as goal

pub invariant_of-self-2 : goal.invariant_of-self-2
invariant_of-self-2 g c =
    keeps c.self.inside.state c.adopt.new.self c.self.inside.history.entries c.keep.new.self.entries (change.Adopt c.plan.result.now)
    (answer.Orders c.in_ok-given.given.items) c.self.invariant c.in_ok-given.ensures.step
    (c.keep.ensures ∙ (ap (λ (p : Plan). c.room_for_plan.new.history.entries
    ++ record { change = change.Adopt p; reply = answer.Orders c.in_ok-given.orders } ∷ []) (sym c.plan.ensures)
    ∙ (ap (λ (os : List Order). c.room_for_plan.new.history.entries
    ++ record { change = change.Adopt c.plan.result.now; reply = answer.Orders os } ∷ []) c.in_ok-given.ensures.twice
    ∙ ap (λ (es : List Entry). es ++ record { change = change.Adopt c.plan.result.now; reply = answer.Orders c.in_ok-given.given.items } ∷
    []) c.room_for_plan.ensures.same)))
