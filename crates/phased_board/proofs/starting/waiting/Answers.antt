use Rattle.std.proofs.Common.{◌<◌, length, take, arith, ◌+◌, ◌∙◌, List, ap}
use Rattle.export_protocol.proofs.Lists.{take_next}
use Rattle.phased_board.specs.declared.standing.Standing.TheVariants.{Waiting}
use Rattle.phased_board.specs.Asked.{IsAsked, is_begun}
use Rattle.phased_board.specs.declared.standing.Standing.{Standing}
use Rattle.phased_board.proofs.Asking.{count_snoc, each_snoc}
use Rattle.std.specs.List.{count_by}
use Rattle.phased_board.proofs.starting.waiting.Goals as goal

pub loop-order-preserved : goal.loop-order-preserved
loop-order-preserved c =
    let near : c.loop-order.order-index < length c.args.orders.now = omega arith in
    record {
      asked = λ w.
          rw (take_next c.args.orders.now c.loop-order.order-index c.order-item.result near c.order-item.is, c.in_ok-push.ensures.items)
          (each_snoc (IsAsked w w) (take c.loop-order.order-index c.args.orders.now) c.loop-order.standings.items c.order-item.result
          (Waiting c.in_ok-copied.field-0)
          c.in_ok-copied.ensures (c.loop-order.invariant.asked w));
      none = ap (λ (xs : List Standing). count_by is_begun xs) c.in_ok-push.ensures.items
          ∙ (count_snoc is_begun c.loop-order.standings.items (Waiting c.in_ok-copied.field-0) ∙ ap (λ n. n + 0) c.loop-order.invariant.none);
    }
