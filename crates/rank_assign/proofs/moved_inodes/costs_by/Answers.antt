use Rattle.std.proofs.Common.{slice_index, arith, rules}
use Rattle.plan_checker.proofs.BetweenLemmas.{costs_from_sums, part_total_few}
use Rattle.plan_checker.proofs.PlaceLemmas.{rank_count-le}
use Rattle.rank_assign.proofs.moved_inodes.costs_by.Goals as goal

pub invariant_of-sums_by : goal.invariant_of-sums_by
invariant_of-sums_by g c =
    let few = rw c.rows-rows.ensures.value at c.rows-rows.ensures.forest.few in
    let most = rank_count-le c.args.problem.now.ranks in
    rw c.rows-rows.ensures.value (search (rules, few, most))

pub cells_of_sums-requires-clause-parts : goal.cells_of_sums-requires-clause-parts
cells_of_sums-requires-clause-parts g c = omega (arith, rank_count-le c.args.problem.now.ranks, c.requires.parts.few)

pub cells_of_sums-requires-clause-few : goal.cells_of_sums-requires-clause-few
cells_of_sums-requires-clause-few g c =
    let summed = rw c.rows-rows.ensures.value at c.in_ok-sums.ensures in
    rw c.deref.ensures.value
    (part_total_few c.args.problem.now.rows (slice_index c.args.part.now) c.args.count c.args.problem.now.ranks
    c.in_ok-sums.sums.items summed.added summed.known (rw c.rows-rows.ensures.value at c.rows-rows.ensures.forest.few))

pub returns-clause-cells : goal.returns-clause-cells
returns-clause-cells g c =
    let summed = rw c.rows-rows.ensures.value at c.in_ok-sums.ensures in
    let made = rw (c.deref.ensures.value, c.ranks-ranks.ensures.value) at c.in_ok-cells.ensures in
    rw c.from_cells.ensures
    (costs_from_sums c.args.problem.now.rows (slice_index c.args.part.now) c.args.count c.args.problem.now.ranks
    c.in_ok-sums.sums.items summed.added summed.known c.in_ok-cells.cells.items made)
