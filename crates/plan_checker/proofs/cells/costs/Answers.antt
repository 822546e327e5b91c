use Rattle.std.proofs.Common.{slice_index}
use Rattle.std.proofs.lemmas.Result.{IfOk-weaker}
use Rattle.plan_checker.proofs.BetweenLemmas.{costs_from_sums, part_total_few}
use Rattle.plan_checker.proofs.cells.costs.Goals as goal

pub cells_of_sums-requires-clause-few : goal.cells_of_sums-requires-clause-few
cells_of_sums-requires-clause-few c =
    rw c.deref.ensures.value
    (part_total_few c.args.rows.now (slice_index c.args.part.now) c.args.count c.args.ranks c.in_ok-sums.sums.items
    c.in_ok-sums.ensures.sums c.in_ok-sums.ensures.rows c.requires.few)

pub returns : goal.returns
returns c =
    IfOk-weaker c.cells_of_sums.result _ _
    (λ cells made.
    costs_from_sums c.args.rows.now (slice_index c.args.part.now) c.args.count c.args.ranks c.in_ok-sums.sums.items
    c.in_ok-sums.ensures.sums c.in_ok-sums.ensures.rows cells.items (rw c.deref.ensures.value at made))
    c.cells_of_sums.ensures
