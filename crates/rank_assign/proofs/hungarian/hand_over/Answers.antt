use Rattle.std.proofs.Common.{◌≡◌, ◌+◌, ◌-◌, ℕ, length, slice_index, slice_set, arith, get_or-set_other, get_or-set_same}
use Rattle.rank_assign.specs.Ways.{via_at, turn_at}
use Rattle.rank_assign.proofs.HandLemmas.{handing_start, handing_step, handing_end}
use Rattle.rank_assign.proofs.hungarian.hand_over.Goals as goal

pub loop-place-init : goal.loop-place-init
loop-place-init c =
    handing_start (length c.args.owners.now) (slice_index c.args.owners.now) (via_at c.args.ways.now) (turn_at c.args.ways.now)
    c.args.part c.args.end c.requires.inside c.requires.seen c.requires.free c.requires.placed

pub bounds-owners-before : goal.bounds-owners-before
bounds-owners-before c =
    let place = c.loop-place.place in
    let i = via_at c.args.ways.now c.loop-place.place - 1 in
    let way : via_at c.args.ways.now c.loop-place.place ≡ i + 1 = omega arith in
    let step = c.requires.paths i place c.loop-place.invariant.inside c.loop-place.invariant.seen way in
    omega (arith, step.inside)

pub loop-place-preserved : goal.loop-place-preserved
loop-place-preserved c =
    let place = c.loop-place.place in
    let i = via_at c.args.ways.now c.loop-place.place - 1 in
    let way : via_at c.args.ways.now c.loop-place.place ≡ i + 1 = omega arith in
    let own : ℕ → ℕ = slice_index c.loop-place.owners in
    let own2 : ℕ → ℕ = slice_index (slice_set c.loop-place.owners place (slice_index c.loop-place.owners i)) in
    let inside = c.loop-place.invariant.inside in
    handing_step (length c.args.owners.now) (slice_index c.args.owners.now) (via_at c.args.ways.now) (turn_at c.args.ways.now)
    own own2 c.args.part place i c.requires.paths way
    (get_or-set_same c.loop-place.owners place (slice_index c.loop-place.owners i) 0 (omega arith))
    (λ j other. get_or-set_other c.loop-place.owners place j (slice_index c.loop-place.owners i) 0 other)
    c.loop-place.invariant

pub returns-clause-placed : goal.returns-clause-placed
returns-clause-placed c =
    let place = c.loop-place.place in
    let own : ℕ → ℕ = slice_index c.loop-place.owners in
    let own2 : ℕ → ℕ = slice_index (slice_set c.loop-place.owners place (c.args.part + 1)) in
    let inside = c.loop-place.invariant.inside in
    let last : via_at c.args.ways.now c.loop-place.place ≡ 0 = omega arith in
    (handing_end (length c.args.owners.now) (slice_index c.args.owners.now) (via_at c.args.ways.now) (turn_at c.args.ways.now)
    own own2 c.args.part place last
    (get_or-set_same c.loop-place.owners place (c.args.part + 1) 0 (omega arith))
    (λ j other. get_or-set_other c.loop-place.owners place j (c.args.part + 1) 0 other)
    c.loop-place.invariant).0
