use Rattle.std.proofs.Common.{◌≡◌, ◌+◌, ◌-◌, ℕ, length, slice_index, arith, subst}
use Rattle.plan_checker.specs.Costs.{cell_at_place}
use Rattle.rank_assign.specs.Ways.{near_at, via_at, turn_at, IsReaching}
use Rattle.rank_assign.proofs.ReachLemmas.{reaching_start, unseen_left, not_all_reached}
use Rattle.rank_assign.proofs.WayLemmas.{IsMarked, marked_next, marked_end, marked_step}
use Rattle.rank_assign.proofs.ways.reach.Goals as goal

pub loop-reached-init : goal.loop-reached-init
loop-reached-init c =
    reaching_start (length c.args.debts.now) (cell_at_place c.args.cells.now (length c.args.debts.now))
    (slice_index c.args.prices.now) (slice_index c.args.debts.now) (slice_index c.args.owners.now) c.args.part
    (near_at c.start.new.ways) (via_at c.start.new.ways) (turn_at c.start.new.ways)
    (λ j l. (c.start.ensures j l).near_is) (λ j l. (c.start.ensures j l).via_is) (λ j l. (c.start.ensures j l).turn_is)

pub nearest-place-requires-clause-some : goal.nearest-place-requires-clause-some
nearest-place-requires-clause-some c =
    let (j, l, unseen) = unseen_left (length c.args.debts.now) (cell_at_place c.args.cells.now (length c.args.debts.now))
    (slice_index c.args.prices.now) (slice_index c.args.debts.now) (slice_index c.args.owners.now) c.args.part
    (near_at c.loop-reached.ways) (via_at c.loop-reached.ways) (turn_at c.loop-reached.ways) c.loop-reached.reached
    c.loop-reached.invariant (omega arith) in
    (j, omega arith, unseen)

pub returns-then-owners-place-eq0 : goal.returns-then-owners-place-eq0
returns-then-owners-place-eq0 c =
    let b = c.nearest-place.result in
    let t = c.loop-reached.reached in
    let marked : IsMarked c.loop-reached.ways c.mark.new.ways b (t + 1) =
    record { here = c.mark.ensures.here; other = c.mark.ensures.other } in
    let next = marked_next (length c.args.debts.now) c.loop-reached.ways c.mark.new.ways b t marked (omega arith)
    c.nearest-place.ensures.unseen (λ j l. c.nearest-place.ensures.least j (omega arith)) in
    marked_end (length c.args.debts.now) (cell_at_place c.args.cells.now (length c.args.debts.now))
    (slice_index c.args.prices.now) (slice_index c.args.debts.now) (slice_index c.args.owners.now) c.args.part
    c.loop-reached.ways c.mark.new.ways b t c.loop-reached.invariant marked next (omega arith)

pub loop-reached-preserved : goal.loop-reached-preserved
loop-reached-preserved c =
    let b = c.nearest-place.result in
    let t = c.loop-reached.reached in
    let owner : ℕ → ℕ = slice_index c.args.owners.now in
    let marked : IsMarked c.loop-reached.ways c.mark.new.ways b (t + 1) =
    record { here = c.mark.ensures.here; other = c.mark.ensures.other } in
    let next = marked_next (length c.args.debts.now) c.loop-reached.ways c.mark.new.ways b t marked (omega arith)
    c.nearest-place.ensures.unseen (λ j l. c.nearest-place.ensures.least j (omega arith)) in
    let few = c.requires.matching.parts.owned b (omega arith) in
    marked_step (length c.args.debts.now) (cell_at_place c.args.cells.now (length c.args.debts.now))
    (slice_index c.args.prices.now) (slice_index c.args.debts.now) (slice_index c.args.owners.now) c.args.part
    c.loop-reached.ways c.mark.new.ways c.relax.new.ways b t c.loop-reached.invariant marked next (omega arith)
    (λ j l. c.requires.matching.below (owner b - 1) j (omega arith) l)
    c.relax.ensures

pub unreachable-requires : goal.unreachable-requires
unreachable-requires c =
    let all : c.loop-reached.reached ≡ length c.args.debts.now = omega arith in
    let P : ℕ → Type 0 = λ t. IsReaching (length c.args.debts.now) (cell_at_place c.args.cells.now (length c.args.debts.now))
    (slice_index c.args.prices.now) (slice_index c.args.debts.now) (slice_index c.args.owners.now) c.args.part
    (near_at c.loop-reached.ways) (via_at c.loop-reached.ways) (turn_at c.loop-reached.ways) t in
    not_all_reached (length c.args.prices.now) (length c.args.debts.now)
    (cell_at_place c.args.cells.now (length c.args.debts.now)) (slice_index c.args.prices.now)
    (slice_index c.args.debts.now) (slice_index c.args.owners.now) c.args.part
    (near_at c.loop-reached.ways) (via_at c.loop-reached.ways) (turn_at c.loop-reached.ways)
    (subst P all c.loop-reached.invariant) c.requires.matching (omega arith)
