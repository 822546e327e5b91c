use Rattle.std.proofs.Common.{◌≡◌, length, slice_index, arith, rules}
use Rattle.mds_types.specs.RankSet.{rank_count}
use Rattle.plan_checker.specs.Costs.{cell_at_place, chosen_cost}
use Rattle.rank_assign.proofs.AssignedLemmas.{are_ranks, are_prices, least_cost}
use Rattle.rank_assign.proofs.assigned.assign.Goals as goal

pub part_prices-requires : goal.part_prices-requires
part_prices-requires c =
    rw c.deref.ensures.value (λ p l. omega (arith, c.in_ok-placed.ensures.small p (omega (arith, c.in_ok-placed.ensures.prices))))

pub rank_prices-requires : goal.rank_prices-requires
rank_prices-requires c =
    rw c.deref-2.ensures.value (λ j l.
    omega (
      arith,
      c.in_ok-placed.ensures.few,
      c.in_ok-placed.ensures.matching.small j (omega (arith, c.in_ok-placed.ensures.debts)),
    ))

pub chosen_sum-moved-requires-clause-ranks : goal.chosen_sum-moved-requires-clause-ranks
chosen_sum-moved-requires-clause-ranks c =
    let given = rw (c.ranks-set.ensures, c.deref-3.ensures.value) at c.ranks_of-ranks.ensures.ranks in
    let size : length c.ranks_of-ranks.result.items ≡ c.args.costs.now.count = search rules in
    rw (c.ranks-set.ensures, c.as_slice.ensures.value, size)
    (are_ranks c.args.costs.now.count c.args.costs.now.ranks
    (cell_at_place c.args.costs.now.cells (rank_count c.args.costs.now.ranks)) (slice_index c.in_ok-placed.placed.prices.items)
    (slice_index c.in_ok-placed.placed.debts.items) (slice_index c.in_ok-placed.placed.owners.items)
    (slice_index c.ranks_of-ranks.result.items) c.in_ok-placed.ensures.matching given)

pub returns-clause-ranks : goal.returns-clause-ranks
returns-clause-ranks c =
    let given = rw (c.ranks-set.ensures, c.deref-3.ensures.value) at c.ranks_of-ranks.ensures.ranks in
    are_ranks c.args.costs.now.count c.args.costs.now.ranks
    (cell_at_place c.args.costs.now.cells (rank_count c.args.costs.now.ranks)) (slice_index c.in_ok-placed.placed.prices.items)
    (slice_index c.in_ok-placed.placed.debts.items) (slice_index c.in_ok-placed.placed.owners.items)
    (slice_index c.ranks_of-ranks.result.items) c.in_ok-placed.ensures.matching given

pub returns-clause-least : goal.returns-clause-least
returns-clause-least c =
    let given = rw (c.ranks-set.ensures, c.deref-3.ensures.value) at c.ranks_of-ranks.ensures.ranks in
    let moved : c.chosen_sum-moved.result ≡ chosen_cost c.args.costs.now.ranks c.args.costs.now.cells c.args.costs.now.count
    (slice_index c.ranks_of-ranks.result.items) = search rules in
    λ other others.
    omega (
      arith,
      moved,
      least_cost c.args.costs.now.count c.args.costs.now.ranks c.args.costs.now.cells
          (slice_index c.in_ok-placed.placed.prices.items) (slice_index c.in_ok-placed.placed.debts.items)
          (slice_index c.in_ok-placed.placed.owners.items) (slice_index c.ranks_of-ranks.result.items)
          c.in_ok-placed.ensures.matching given other others,
    )

pub returns-clause-prices : goal.returns-clause-prices
returns-clause-prices c =
    let given = rw (c.ranks-set.ensures, c.deref-3.ensures.value) at c.ranks_of-ranks.ensures.ranks in
    let parts = rw c.deref.ensures.value at c.in_ok-part_prices.ensures.value in
    let owed = rw c.deref-2.ensures.value at c.in_ok-rank_prices.ensures.value in
    are_prices c.args.costs.now.count c.args.costs.now.ranks c.args.costs.now.cells
    (slice_index c.in_ok-placed.placed.prices.items) (slice_index c.in_ok-placed.placed.debts.items)
    (slice_index c.in_ok-placed.placed.owners.items) (slice_index c.ranks_of-ranks.result.items)
    (record { part_price = c.in_ok-part_prices.field-0.items; rank_price = c.in_ok-rank_prices.field-0.items })
    c.in_ok-placed.ensures.matching given (search rules) (search rules)
    (λ p l. parts p (omega (arith, c.in_ok-placed.ensures.prices)))
    (λ j l. owed j (omega (arith, c.in_ok-placed.ensures.debts)))
