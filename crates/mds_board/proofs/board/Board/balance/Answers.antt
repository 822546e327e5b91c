use Rattle.std.proofs.Common.{◌∙◌, ◌++◌, ◌∷◌, [], List, Vec, Global, ap, sym}
use Rattle.mds_types.specs.declared.order.Order.{Order}
use Rattle.mds_board.specs.declared.change.Answer.TheVariants as answer
use Rattle.mds_board.specs.declared.change.Change.TheVariants as change
use Rattle.mds_board.specs.declared.entry.Entry.{Entry}
use Rattle.mds_board.proofs.Replays.{balance_keeps, balance_recorded, balance_reply}
use Rattle.mds_board.proofs.board.Board.balance.Goals as goal

pub invariant_of-self-2 : goal.invariant_of-self-2
invariant_of-self-2 g c =
    let done = c.in_ok-done.done in
    balance_keeps g.S.Solver.also c.self.inside.state c.balance.new.self c.self.inside.history.entries c.keep_both.new.self.entries
    done.problem done.plan done.orders c.self.invariant c.in_ok-done.ensures.ok
    (c.keep_both.ensures.kept ∙ ap (λ (es : List Entry). es
    ++ record { change = change.Open; reply = answer.Problem done.problem } ∷
    record { change = change.Adopt done.plan; reply = answer.Orders done.orders } ∷ []) c.reserve.ensures.same)

pub returns-clause-ok : goal.returns-clause-ok
returns-clause-ok g c =
    let done = c.in_ok-done.done in
    let b = c.in_ok-done.ensures.ok in
    let kept = c.keep_both.ensures.kept
    ∙ ap (λ (es : List Entry). es ++ record { change = change.Open; reply = answer.Problem done.problem } ∷
    record { change = change.Adopt done.plan; reply = answer.Orders done.orders } ∷ []) c.reserve.ensures.same in
    let same = balance_recorded g.S.Solver.also c.self.inside.state c.balance.new.self c.self.inside.history.entries
    c.keep_both.new.self.entries done.problem done.plan done.orders b kept in
    let told = ap (λ (os : Vec Order Global). answer.Orders os.items) c.keep_both.ensures.orders
    ∙ (ap (λ (os : List Order). answer.Orders os) (c.in_ok-done.ensures.twice ∙ b.4) ∙ sym (balance_reply c.self.inside.state.state done.plan)) in (
      done.plan,
      rw (← c.self.view_is) b.3,
      rw (← c.self.view_is) b.6,
      rw (← c.self.view_is) b.7,
      rw (← c.self.view_is) b.0,
      rw (← c.self.view_is) told,
      rw (← c.self.view_is) same,
    )
