use Rattle.std.proofs.Common.{◌≡◌, ◌<◌, ◌+◌, ◌-◌, ◌*◌, ◌∙◌, ℕ, false, List, ap, arith, cond, eqb, get_or, length, refl, replicate, slice_index, subst, sym}
use Rattle.std.proofs.lemmas.List.{get_or_default}
use Rattle.ceph_plan.specs.declared.hours.Hour.{Hour}
use Rattle.ceph_plan.specs.Balance.{CanTake, IsNearMean, IsSent, greatest_by, load_of_parts, made}
use Rattle.ceph_plan.specs.Packing.{greatest_of, heat_in, worst}
use Rattle.ceph_plan.proofs.Bounds.{greatest-same}
use Rattle.mds_types.proofs.SumsLemmas.{sum_below-term}
use Rattle.ceph_plan.proofs.HourSums.{pinned-small}
use Rattle.ceph_plan.proofs.PackedParts.{ArePacked, fair-all, load-room, loads-all, packed-all, packed-first, packed-more, packed-none}
use Rattle.ceph_plan.proofs.rank_choice.packed_within.Goals as goal

pub add-requires-clause-room : goal.add-requires-clause-room
add-requires-clause-room c = λ h l.
    let hours : List Hour = c.args.parts.now.hours.now in
    omega (
      arith,
      c.in_ok-loads.ensures.pinned h 0 l (omega arith),
      pinned-small hours h 0 c.args.parts.now.are.hours_are.pinned l (omega arith),
      sum_below-term (length c.args.parts.now.heats.now) c.args.parts.now.root (heat_in hours h) c.args.parts.now.are.inside,
      c.args.parts.now.are.hours_are.total h l,
    )

pub loop-left-init : goal.loop-left-init
loop-left-init c =
    let hours : List Hour = c.args.parts.now.hours.now in
    let heats : List ℕ = c.args.parts.now.heats.now in
    let root : ℕ = c.args.parts.now.root in
    let n : ℕ = length heats in
    let zero : c.default.result ≡ 0 = sym c.default.ensures.1 ∙ c.default.ensures.2 in
    let rank_is : c.in_ok-rank.rank.items ≡ replicate n 0 = c.in_ok-rank.ensures.items_if_clones_equal (λ y is. is) ∙ ap (λ (x : ℕ). replicate n x) zero in
    packed-first c.args.parts.now.ranks hours heats c.args.parts.now.inodes.now c.args.parts.now.order.now root c.args.limit
    c.in_ok-rank.rank.items c.in_ok-done.done.items c.add.new.loads.items n c.args.parts.now.are.by_heat refl
    c.args.parts.now.are.inside c.args.parts.now.are.zero rank_is (c.in_ok-done.ensures.items_if_clones_equal (λ y is. is))
    (c.add.ensures.size ∙ c.in_ok-loads.ensures.size)
    (λ h r l small. c.add.ensures.added h r l small ∙ ap (λ (x : ℕ). x + cond (eqb 0 r) (heat_in hours h root) 0) (c.in_ok-loads.ensures.pinned h r l small))

pub offset_bounds-parts-left : goal.offset_bounds-parts-left
offset_bounds-parts-left c = omega (arith, c.loop-left.invariant.within, c.args.parts.now.are.few)

pub bounds-parts-left : goal.bounds-parts-left
bounds-parts-left c = omega (arith, c.loop-left.invariant.within, c.args.parts.now.are.by_heat.size, c.loop-left-test.true)

pub rank_for-to-requires : goal.rank_for-to-requires
rank_for-to-requires c = record {
  room = subst (λ (xs : List ℕ). CanTake c.args.parts.now.hours.now (length c.args.parts.now.heats.now) xs
      (get_or c.args.parts.now.order.now (c.loop-left.left - 1) 0)) (sym c.deref.ensures.value)
      (load-room c.args.parts.now.ranks c.args.parts.now.hours.now c.args.parts.now.heats.now c.args.parts.now.inodes.now
      c.args.parts.now.order.now c.args.parts.now.root c.args.limit c.loop-left.rank.items
      c.loop-left.done.items c.loop-left.loads.items c.loop-left.left (get_or c.args.parts.now.order.now (c.loop-left.left - 1) 0)
      c.loop-left.invariant c.args.parts.now.are.hours_are
      (c.args.parts.now.are.by_heat.inside (c.loop-left.left - 1) (omega (arith, c.loop-left.invariant.within, c.loop-left-test.true))));
}

pub add-requires-then-not-index-clause-room : goal.add-requires-then-not-index-clause-room
add-requires-then-not-index-clause-room c = λ h l.
    (load-room c.args.parts.now.ranks c.args.parts.now.hours.now c.args.parts.now.heats.now c.args.parts.now.inodes.now
    c.args.parts.now.order.now c.args.parts.now.root c.args.limit c.loop-left.rank.items
    c.loop-left.done.items c.loop-left.loads.items c.loop-left.left (get_or c.args.parts.now.order.now (c.loop-left.left - 1) 0)
    c.loop-left.invariant c.args.parts.now.are.hours_are
    (c.args.parts.now.are.by_heat.inside (c.loop-left.left - 1) (omega (arith, c.loop-left.invariant.within, c.loop-left-test.true)))).room h c.from.result l
    (omega (arith, c.from.ensures, c.number.ensures.small))

pub index_mut-requires-then-not-index : goal.index_mut-requires-then-not-index
index_mut-requires-then-not-index c =
    let inside : get_or c.args.parts.now.order.now (c.loop-left.left - 1) 0 < length c.args.parts.now.heats.now =
    c.args.parts.now.are.by_heat.inside (c.loop-left.left - 1) (omega (arith, c.loop-left.invariant.within, c.loop-left-test.true)) in
    omega (arith, inside, c.loop-left.invariant.ranks_are.size, c.loop-left.rank.ok.0)

pub index_mut-requires-then-not-index-2 : goal.index_mut-requires-then-not-index-2
index_mut-requires-then-not-index-2 c =
    let inside : get_or c.args.parts.now.order.now (c.loop-left.left - 1) 0 < length c.args.parts.now.heats.now =
    c.args.parts.now.are.by_heat.inside (c.loop-left.left - 1) (omega (arith, c.loop-left.invariant.within, c.loop-left-test.true)) in
    omega (arith, inside, c.loop-left.invariant.size, c.loop-left.done.ok.0)

pub loop-left-preserved-then-not-index : goal.loop-left-preserved-then-not-index
loop-left-preserved-then-not-index c =
    let hours : List Hour = c.args.parts.now.hours.now in
    let heats : List ℕ = c.args.parts.now.heats.now in
    let loads : List ℕ = c.loop-left.loads.items in
    let part : ℕ = get_or c.args.parts.now.order.now (c.loop-left.left - 1) 0 in
    let there : c.loop-left.left - 1 < length heats = omega (arith, c.loop-left.invariant.within, c.loop-left-test.true) in
    let inside : part < length heats = c.args.parts.now.are.by_heat.inside (c.loop-left.left - 1) there in
    let same : c.from.result ≡ c.rank_for-to.result = c.from.ensures ∙ c.number.ensures.value in
    let marked : part < length c.loop-left.done.items = omega (arith, inside, c.loop-left.invariant.size) in
    packed-more c.args.parts.now.ranks hours heats c.args.parts.now.inodes.now c.args.parts.now.order.now c.args.parts.now.root c.args.limit
    c.loop-left.rank.items c.loop-left.done.items loads
    c.loop-left.left (c.loop-left.left - 1) part c.rank_for-to.result c.add-then-not-index.new.loads.items c.loop-left.invariant there refl
    (sym (get_or_default c.loop-left.done.items part c.index.result.now false marked) ∙ (sym c.index.ensures ∙ c.if-not-index.true))
    c.rank_for-to.ensures.usable c.args.parts.now.are.greatest
    (subst (λ (xs : List ℕ). IsSent c.args.parts.now.ranks (made hours xs part) c.args.parts.now.inodes.now part c.args.limit c.rank_for-to.result)
    c.deref.ensures.value c.rank_for-to.ensures.sent)
    c.add-then-not-index.ensures.size
    (λ h r l small. c.add-then-not-index.ensures.added h r l small
    ∙ ap (λ (t : ℕ). get_or loads (h * 64 + r) 0 + cond (eqb t r) (heat_in hours h part) 0) same)
    (omega (arith, c.loop-left-test.true))

pub loop-left-preserved : goal.loop-left-preserved
loop-left-preserved c =
    let part : ℕ = get_or c.args.parts.now.order.now (c.loop-left.left - 1) 0 in
    let there : c.loop-left.left - 1 < length c.args.parts.now.heats.now = omega (arith, c.loop-left.invariant.within, c.loop-left-test.true) in
    let marked : part < length c.loop-left.done.items =
    omega (arith, c.args.parts.now.are.by_heat.inside (c.loop-left.left - 1) there, c.loop-left.invariant.size) in
    packed-none c.args.parts.now.ranks c.args.parts.now.hours.now c.args.parts.now.heats.now c.args.parts.now.inodes.now
    c.args.parts.now.order.now c.args.parts.now.root c.args.limit c.loop-left.rank.items
    c.loop-left.done.items c.loop-left.loads.items c.loop-left.left (c.loop-left.left - 1) c.loop-left.invariant
    (sym (get_or_default c.loop-left.done.items part c.index.result.now false marked) ∙ (sym c.index.ensures ∙ c.if-not-index.false))
    (omega (arith, c.loop-left-test.true))

all_packed : (c : goal.After-drop-done-2) → ArePacked c.args.parts.now.ranks c.args.parts.now.hours.now c.args.parts.now.heats.now
    c.args.parts.now.inodes.now c.args.parts.now.order.now c.args.parts.now.root c.args.limit c.loop-left.rank.items
    c.loop-left.done.items c.loop-left.loads.items 0
all_packed c = subst (λ (n : ℕ). ArePacked c.args.parts.now.ranks c.args.parts.now.hours.now c.args.parts.now.heats.now
    c.args.parts.now.inodes.now c.args.parts.now.order.now c.args.parts.now.root c.args.limit c.loop-left.rank.items
    c.loop-left.done.items c.loop-left.loads.items n)
    (omega (arith, c.loop-left-test.false)) c.loop-left.invariant

pub returns-clause-kept : goal.returns-clause-kept
returns-clause-kept c = packed-all _ _ _ _ _ _ _ _ _ _ (all_packed c)

greatest_is : (c : goal.After-drop-done-2) → c.most-greatest.result
    ≡ greatest_by c.args.parts.now.ranks c.args.parts.now.hours.now c.args.parts.now.heats.now c.loop-left.rank.items
greatest_is c =
    let hours : List Hour = c.args.parts.now.hours.now in
    c.most-greatest.ensures
    ∙ (ap (λ (xs : List ℕ). greatest_of c.args.parts.now.ranks (slice_index xs)) c.deref-3.ensures.value
    ∙ greatest-same c.args.parts.now.ranks (slice_index c.in_ok-loads-2.loads.items) (load_of_parts hours c.args.parts.now.heats.now c.loop-left.rank.items)
    (λ r small. c.in_ok-loads-2.ensures.greatest r small
    ∙ (ap (λ (xs : List ℕ). worst hours (λ h. slice_index xs (h * 64 + r))) c.deref-2.ensures.value ∙ loads-all _ _ _ _ _ _ _ _ _ _ (all_packed c) r small)))

pub returns-clause-near_mean : goal.returns-clause-near_mean
returns-clause-near_mean c = λ plain.
    subst (λ (x : ℕ). IsNearMean c.args.parts.now.ranks c.args.parts.now.hours.now c.args.parts.now.heats.now c.args.parts.now.root x) (sym (greatest_is c))
    (fair-all _ _ _ _ _ _ _ _ _
    (subst (λ (limit : ℕ). ArePacked c.args.parts.now.ranks c.args.parts.now.hours.now c.args.parts.now.heats.now
    c.args.parts.now.inodes.now c.args.parts.now.order.now c.args.parts.now.root limit c.loop-left.rank.items
    c.loop-left.done.items c.loop-left.loads.items 0) plain (all_packed c)))

pub returns-clause-greatest : goal.returns-clause-greatest
returns-clause-greatest c = greatest_is c
