use Rattle.std.proofs.Common.{refl, sym}
use Rattle.phased_board.proofs.Asking.{each_long}
use Rattle.script_board.specs.Move.{IsMoved}
use Rattle.script_board.specs.Serve.{IsGone, is_ample}
use Rattle.script_board.specs.Traffic.{IsTraffic}
use Rattle.script_session.proofs.carry_out.carry_out_by_threads.Goals as goal

pub returns-in-Ok-clause-done : goal.returns-in-Ok-clause-done
returns-in-Ok-clause-done g c =
    let gone : IsGone c.args.board c.in-Ok.refused.items c.go-board.result.0 = rw c.in-Ok.is at c.go-board.ensures.done in
    rw c.in-Go.is (is_ample c.in-Ok.refused.items, (gone, refl, refl))

pub returns-in-Ok-moved-clause-done : goal.returns-in-Ok-moved-clause-done
returns-in-Ok-moved-clause-done g c =
    let done : IsMoved c.args.board c.in-Ok-moved.carried.refused.items c.in-Ok-moved.carried.orders.items
    c.in-Ok-moved.carried.outcomes.items c.carry_out_moves-board.result.0 =
    rw c.in-Ok-moved.is at c.carry_out_moves-board.ensures.done in
    rw (c.in-Move.is, c.done_by.ensures) (
      is_ample c.in-Ok-moved.carried.refused.items,
      (c.in-Ok-moved.carried.orders.items, c.in-Ok-moved.carried.outcomes.items, done, refl, refl),
    )

pub returns-in-Ok-moved-clause-showable : goal.returns-in-Ok-moved-clause-showable
returns-in-Ok-moved-clause-showable g c =
    let done : IsMoved c.args.board c.in-Ok-moved.carried.refused.items c.in-Ok-moved.carried.orders.items
    c.in-Ok-moved.carried.outcomes.items c.carry_out_moves-board.result.0 =
    rw c.in-Ok-moved.is at c.carry_out_moves-board.ensures.done in
    rw c.done_by.ensures (sym (each_long _ _ _ done.outcomes))

pub returns-in-Ok-carried-clause-done : goal.returns-in-Ok-carried-clause-done
returns-in-Ok-carried-clause-done g c =
    let done : IsTraffic c.args.board c.in-Ok-carried.carried.refused.items c.in-Ok-carried.carried.orders.items
    c.in-Ok-carried.carried.outcomes.items c.traffic-board.result.0 = rw c.in-Ok-carried.is at c.traffic-board.ensures.done in
    rw (c.in-Traffic.is, c.done_by-in-Ok-carried.ensures) (
      is_ample c.in-Ok-carried.carried.refused.items,
      (c.in-Ok-carried.carried.orders.items, c.in-Ok-carried.carried.outcomes.items, done, refl, refl),
    )

pub returns-in-Ok-carried-clause-showable : goal.returns-in-Ok-carried-clause-showable
returns-in-Ok-carried-clause-showable g c =
    let done : IsTraffic c.args.board c.in-Ok-carried.carried.refused.items c.in-Ok-carried.carried.orders.items
    c.in-Ok-carried.carried.outcomes.items c.traffic-board.result.0 = rw c.in-Ok-carried.is at c.traffic-board.ensures.done in
    rw c.done_by-in-Ok-carried.ensures (sym (each_long _ _ _ done.outcomes))
