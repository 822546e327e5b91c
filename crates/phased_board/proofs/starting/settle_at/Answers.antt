use Rattle.std.proofs.Common.{◌≡◌, ◌<◌, ◌+◌, length, get_or, arith, sym, subst}
use Rattle.std.proofs.lemmas.Grind.{common_steps}
use Rattle.phased_board.specs.Asked.{IsAsked, is_begun, ones}
use Rattle.phased_board.proofs.Asking.{count_set, one_changed}
use Rattle.phased_board.proofs.starting.settle_at.Goals as goal

pub returns-clause-asked : goal.returns-clause-asked
returns-clause-asked g c = λ stops first orders h all.
    let standings = c.args.standings.now.items in
    let standing = c.in_ok-standing.standing.now in
    let near : c.args.number < length standings = grind (arith, common_steps, c.in_ok-standing.ensures.variant, c.in_ok-standing.was) in
    let is : get_or standings c.args.number standing ≡ standing = sym c.in_ok-standing.ensures.value in
    one_changed first c.args.board.now c.settle.new.board orders standings c.args.number c.settle.new.standing standing c.settle.ensures.went near
    (λ order asked. c.settle.ensures.asked stops first order h (subst (λ s. IsAsked first c.args.board.now order s) is asked)) all

pub returns-clause-counted : goal.returns-clause-counted
returns-clause-counted g c =
    let standings = c.args.standings.now.items in
    let standing = c.in_ok-standing.standing.now in
    let near : c.args.number < length standings = grind (arith, common_steps, c.in_ok-standing.ensures.variant, c.in_ok-standing.was) in
    let is : get_or standings c.args.number standing ≡ standing = sym c.in_ok-standing.ensures.value in
    let one : length c.settle.new.board.state.cluster.orders + ones (is_begun (get_or standings c.args.number standing))
    ≡ length c.args.board.now.state.cluster.orders + ones (is_begun c.settle.new.standing) = rw is c.settle.ensures.counted in
    let all = count_set is_begun standings c.args.number c.settle.new.standing standing near in omega arith
