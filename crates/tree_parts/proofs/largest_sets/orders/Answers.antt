use Rattle.std.proofs.Common.{◌≡◌, ◌<◌, ◌∙◌, ℕ, List, Option, None, Some, true, false, Vec, Global, ap, sym, subst, arith, get_or, length, length-set, map}
use Rattle.std.proofs.lemmas.Result.{IfOk-weaker}
use Rattle.std.specs.Prelude.{is_some}
use Rattle.mds_types.specs.declared.order.Order.{Order}
use Rattle.dirtree.specs.Tree.{Entry, parent_of}
use Rattle.tree_parts.specs.declared.moves.Move.{Move}
use Rattle.tree_parts.specs.Largest.{AreOrders}
use Rattle.tree_parts.specs.Moves.{is_top, move_of}
use Rattle.tree_parts.specs.Orders.{order_of, orders, tops}
use Rattle.tree_parts.proofs.Sets.{are_orders}
use Rattle.tree_parts.proofs.SoFar.{begun_more, joined_more, skipped}
use Rattle.tree_parts.proofs.largest_sets.orders.Goals as goal
use Rattle.tree_parts.proofs.largest_sets.orders.Goals.{in-Some+in-Some-parent_that_moves_too+in_ok-join-in-Some-parent_that_moves_too}
use Rattle.tree_parts.proofs.largest_sets.orders.Goals.{in-Some+in-None+in_ok-begin-in-None}
use Rattle.tree_parts.proofs.largest_sets.orders.Goals.{in_default}

pub loop-number-preserved : goal.loop-number-preserved
loop-number-preserved c =
    let es : List (Option Entry) = c.args.tree.now.entries in
    let move : ℕ → Option Move = move_of es c.args.now.now c.args.target.now in
    let n : ℕ = c.loop-number.number in
    let os : List Order = c.loop-number.found.orders.items in
    let places : List ℕ = c.loop-number.found.places.items in
    let inside : n < length es = omega (arith, c.loop-number-test.true, c.numbers-number-end.ensures.value) in
    let at : n < length places = omega (arith, inside, c.loop-number.invariant.size) in
    elim c.match-move_of.branch [
      | in-Some+in-Some-parent_that_moves_too+in_ok-join-in-Some-parent_that_moves_too w ↦
          let moves : move n ≡ Some w.in-Some.made = sym (w.in-Some.ensures ∙ ap move c.new-dir.ensures) in
          let parent : ℕ = w.in-Some-parent_that_moves_too.parent in
          let other : is_top es move n ≡ false = sym (ap (is_top es move) c.new-dir.ensures) ∙ w.in-Some-parent_that_moves_too.ensures.0 in
          let is : parent ≡ parent_of es n = w.in-Some-parent_that_moves_too.ensures.1 ∙ ap (parent_of es) c.new-dir.ensures in
          let so_far = joined_more es move c.numbers-number-end.ensures.tree n parent os places at (ap is_some moves) other is c.loop-number.invariant.so_far in
          rw (
            w.found-is,
            w.in_ok-join-in-Some-parent_that_moves_too.ensures.orders,
            w.in_ok-join-in-Some-parent_that_moves_too.ensures.places,
            c.new-dir.ensures,
          ) (record {
            end = omega (arith, inside);
            size = length-set places n (get_or places parent 0) ∙ c.loop-number.invariant.size;
            so_far = so_far;
          })
      | in-Some+in-None+in_ok-begin-in-None w ↦
          let moves : move n ≡ Some w.in-Some.made = sym (w.in-Some.ensures ∙ ap move c.new-dir.ensures) in
          let is : is_top es move n ≡ true = sym (ap (is_top es move) c.new-dir.ensures) ∙ w.in-None.ensures in
          let so_far = begun_more es move c.numbers-number-end.ensures.tree n os places w.in-Some.made at is moves c.loop-number.invariant.so_far in
          rw (w.found-is, w.in_ok-begin-in-None.ensures.orders, w.in_ok-begin-in-None.ensures.places, c.new-dir.ensures) (record {
            end = omega (arith, inside);
            size = length-set places n (length os) ∙ c.loop-number.invariant.size;
            so_far = so_far;
          })
      | in_default w ↦
          let still : move n ≡ None = sym (w.in_default.ensures ∙ ap move c.new-dir.ensures) in
          rw w.found-is (record {
            end = omega (arith, inside);
            size = c.loop-number.invariant.size;
            so_far = skipped es move n os places still c.loop-number.invariant.so_far;
          })
    ]

pub returns-clause-largest : goal.returns-clause-largest
returns-clause-largest c =
    let es : List (Option Entry) = c.args.tree.now.entries in
    let now : List (Option ℕ) = c.args.now.now in
    let target : List (Option ℕ) = c.args.target.now in
    let all : c.loop-number.number ≡ length es = omega (arith, c.loop-number-test.false, c.loop-number.invariant.end, c.numbers-number-end.ensures.value) in
    let found : c.loop-number.found.orders.items ≡ orders es now target = c.loop-number.invariant.so_far.listed
    ∙ ap (λ (n : ℕ). map (order_of es (move_of es now target) n) (tops es (move_of es now target) n)) all in
    IfOk-weaker c.into_orders.result (λ (os : Vec Order Global). os.items ≡ c.loop-number.found.orders.items)
    (λ (os : Vec Order Global). AreOrders es now target os.items)
    (λ os is. subst (AreOrders es now target) (sym (is ∙ found)) (are_orders es now target c.numbers-number-end.ensures.tree))
    c.into_orders.ensures
