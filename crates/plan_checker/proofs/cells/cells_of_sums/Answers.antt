use Rattle.std.proofs.Common.{◌≡◌, ◌*◌, ◌++◌, ℕ, List, length, take, drop, rules}
use Rattle.mds_types.specs.RankSet.{rank_count}
use Rattle.plan_checker.specs.Costs.{AreCells}
use Rattle.plan_checker.proofs.WrittenLemmas.{all_written}
use Rattle.plan_checker.proofs.cells.cells_of_sums.Goals as goal

pub returns : goal.returns
returns c =
    let new : List ℕ = c.fill.new.cells in
    let size : length new ≡ c.args.count * rank_count c.args.ranks = search rules in
    let whole : take c.in_ok-cells.cells.len (new ++ drop (length new) c.in_ok-cells.cells.items) ≡ new =
    all_written new c.in_ok-cells.cells.items c.in_ok-cells.cells.len (search rules) (search rules) in
    let made : AreCells c.args.sums.now c.args.count c.args.ranks new = record {
      size = size;
      moved = c.fill.ensures.cells;
      small = c.fill.ensures.small;
    } in
    rw whole made
