use Rattle.std.proofs.Common.{◌∙◌, ℕ, length, slice_index, slice_set, arith, get_or-set_other, get_or-set_same}
use Rattle.plan_checker.specs.Costs.{cell_at_place}
use Rattle.rank_assign.specs.Ways.{near_at, via_at, turn_at}
use Rattle.rank_assign.proofs.RaiseLemmas.{AreRaised, reached_paths, matched}
use Rattle.rank_assign.proofs.hungarian.place_part.Goals as goal

pub raise_prices-requires-clause-prices : goal.raise_prices-requires-clause-prices
raise_prices-requires-clause-prices c = λ p l.
    omega (
      arith,
      c.requires.matching.below p 0 l (omega arith),
      c.requires.sizes.small p 0 l (omega arith),
      c.requires.matching.small 0 (omega arith),
    )

pub hand_over-requires-clause-paths : goal.hand_over-requires-clause-paths
hand_over-requires-clause-paths c = λ i j l seen over.
    (let step = reached_paths (length c.args.debts.now) (cell_at_place c.args.cells.now (length c.args.debts.now))
    (slice_index c.args.prices.now) (slice_index c.args.debts.now) (slice_index c.args.owners.now) c.args.part
    (near_at c.reach-end.new.ways) (via_at c.reach-end.new.ways) (turn_at c.reach-end.new.ways) c.reach-end.result
    c.reach-end.ensures i j (omega arith) seen over in
    record { inside = omega (arith, step.inside); seen = step.seen; owned = step.owned; before = step.before })

pub returns : goal.returns
returns c =
    let k = length c.args.prices.now in
    let r = length c.args.debts.now in
    let s = c.args.part in
    let near : ℕ → ℕ = near_at c.reach-end.new.ways in
    let end = c.reach-end.result in
    let far = near_at c.reach-end.new.ways c.reach-end.result in
    let inside = c.reach-end.ensures.inside in
    let u2 : ℕ → ℕ = slice_index (slice_set c.raise_prices.new.prices s far) in
    let raised : AreRaised (length c.args.debts.now) (slice_index c.args.prices.now) (slice_index c.args.debts.now)
    (slice_index c.args.owners.now) (near_at c.reach-end.new.ways)
    (slice_index (slice_set c.raise_prices.new.prices c.args.part (near_at c.reach-end.new.ways c.reach-end.result)))
    (slice_index c.raise_debts.new.debts) c.args.part (near_at c.reach-end.new.ways c.reach-end.result) = record {
      debts = c.raise_debts.ensures;
      owners = λ p j other l has.
          get_or-set_other c.raise_prices.new.prices s p far 0 other ∙ c.raise_prices.ensures.owners p j (omega arith) has;
      part = get_or-set_same c.raise_prices.new.prices s far 0 (omega arith);
      others = λ p other none.
          get_or-set_other c.raise_prices.new.prices s p far 0 other
          ∙ c.raise_prices.ensures.others p (λ j l. none j (omega arith));
    } in
    matched (length c.args.prices.now) (length c.args.debts.now) (cell_at_place c.args.cells.now (length c.args.debts.now))
    (slice_index c.args.prices.now) (slice_index c.args.debts.now) (slice_index c.args.owners.now) c.args.part
    (near_at c.reach-end.new.ways) (via_at c.reach-end.new.ways) (turn_at c.reach-end.new.ways) c.reach-end.result
    (slice_index (slice_set c.raise_prices.new.prices c.args.part (near_at c.reach-end.new.ways c.reach-end.result)))
    (slice_index c.raise_debts.new.debts) c.requires.matching c.reach-end.ensures raised c.requires.part
    (slice_index c.hand_over.new.owners) c.requires.sizes.small (rw c.requires.sizes.owners_size at c.hand_over.ensures.placed)
    (λ p j l has. c.hand_over.ensures.handed p j (omega arith) has)
    (λ j l none. c.hand_over.ensures.free j (omega arith) none)
