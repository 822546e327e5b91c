use Rattle.std.proofs.Common.{◌≡◌, ◌<◌, ℕ, List, arith, inr, length, subst, sym}
use Rattle.mds_types.specs.declared.problem.ProblemRow.{ProblemRow}
use Rattle.ceph_plan.specs.declared.choice.Wanted.{Wanted}
use Rattle.ceph_plan.specs.declared.hours.Hour.{Hour}
use Rattle.ceph_plan.specs.declared.proposal.OwnPins.{OwnPins}
use Rattle.ceph_plan.specs.ChosenHours.{IsNextHour}
use Rattle.ceph_plan.proofs.Choosing.{AreSoFar, by-need, only-present, so-far-more}
use Rattle.ceph_plan.proofs.hour_choice.spread.Goals as goal

pub loop-alloc-init : goal.loop-alloc-init
loop-alloc-init c =
    only-present c.args.of.now.ranks c.args.of.now.hours.now c.args.of.now.rows.now c.args.of.now.wanted c.args.of.now.own.now c.args.most
    c.in_ok-chosen.chosen.items
    (c.in_ok-chosen.ensures.items_if_clones_equal (λ y is. is)) c.requires.can.some c.requires.most

next_is : (ranks : ℕ) (hours : List Hour) (rows : List ProblemRow) (wanted : Wanted) (own : List OwnPins) (given chosen : List ℕ) (next : ℕ) → given ≡ chosen
    → IsNextHour ranks hours rows wanted own given next → IsNextHour ranks hours rows wanted own chosen next
next_is ranks hours rows wanted own given chosen next same is = subst (λ (xs : List ℕ). IsNextHour ranks hours rows wanted own xs next) same is

pub returns-then-next-of-clause-chosen : goal.returns-then-next-of-clause-chosen
returns-then-next-of-clause-chosen c =
    let ranks : ℕ = c.args.of.now.ranks in
    let hours : List Hour = c.args.of.now.hours.now in
    let found : List ℕ = c.loop-alloc.chosen.items in
    let of : IsNextHour ranks hours c.args.of.now.rows.now c.args.of.now.wanted c.args.of.now.own.now found c.in_ok-next.next =
    next_is ranks hours c.args.of.now.rows.now c.args.of.now.wanted c.args.of.now.own.now c.deref.result.now found c.in_ok-next.next
    c.deref.ensures.value c.in_ok-next.ensures.next in
    by-need ranks hours c.args.of.now.rows.now c.args.of.now.wanted c.args.of.now.own.now c.args.most found c.loop-alloc.invariant
    (inr (subst (IsNextHour ranks hours c.args.of.now.rows.now c.args.of.now.wanted c.args.of.now.own.now found) c.if-next-of.true of))

pub loop-alloc-preserved : goal.loop-alloc-preserved
loop-alloc-preserved c =
    let ranks : ℕ = c.args.of.now.ranks in
    let hours : List Hour = c.args.of.now.hours.now in
    let found : List ℕ = c.loop-alloc.chosen.items in
    let next : ℕ = c.in_ok-next.next in
    let of : IsNextHour ranks hours c.args.of.now.rows.now c.args.of.now.wanted c.args.of.now.own.now found next =
    next_is ranks hours c.args.of.now.rows.now c.args.of.now.wanted c.args.of.now.own.now c.deref.result.now found next
    c.deref.ensures.value c.in_ok-next.ensures.next in
    let inside : next < length hours = omega (arith, of.next_is.inside, of.judged.size, c.if-next-of.false) in
    let room : length found < c.args.most = omega (arith, c.loop-alloc-test.true, c.len.ensures) in
    subst (AreSoFar ranks hours c.args.of.now.rows.now c.args.of.now.wanted c.args.of.now.own.now c.args.most) (sym c.in_ok-push.ensures.items)
    (so-far-more ranks hours c.args.of.now.rows.now c.args.of.now.wanted c.args.of.now.own.now c.args.most found next c.loop-alloc.invariant of inside room)
