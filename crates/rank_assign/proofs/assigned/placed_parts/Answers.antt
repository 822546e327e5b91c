use Rattle.std.proofs.Common.{take, drop, ◌++◌, ◌≡◌, ◌*◌, ℕ, List, length, arith, rules}
use Rattle.mds_types.specs.RankSet.{rank_count}
use Rattle.plan_checker.proofs.PlaceLemmas.{rank_count-le}
use Rattle.plan_checker.proofs.WrittenLemmas.{all_written}
use Rattle.rank_assign.proofs.AssignedLemmas.{cell_small}
use Rattle.rank_assign.proofs.assigned.placed_parts.Goals as goal

pub place_parts-requires-clause-sizes : goal.place_parts-requires-clause-sizes
place_parts-requires-clause-sizes c =
    let size : length c.cells.result.now ≡ length c.deref_mut-2.result.now * length c.deref_mut-3.result.now = search rules in
    let small = cell_small c.cells.result.now (length c.deref_mut-2.result.now) (length c.deref_mut-3.result.now) size
    (rw c.cells.ensures.value c.cells.ensures.sound.small) in
    search (rules, small)

pub returns-clause-small : goal.returns-clause-small
returns-clause-small c =
    let m = c.place_parts.ensures in
    let new : List ℕ = c.place_parts.new.prices in
    let whole : take c.in_ok-prices.prices.len (c.place_parts.new.prices ++ drop (length c.place_parts.new.prices) c.in_ok-prices.prices.items)
    ≡ c.place_parts.new.prices =
    all_written c.place_parts.new.prices c.in_ok-prices.prices.items c.in_ok-prices.prices.len (search rules) (search rules) in
    let parts : length c.deref_mut-2.result.now ≡ c.args.costs.now.count = search rules in
    let width : length c.deref_mut-3.result.now ≡ rank_count c.args.costs.now.ranks = search rules in
    let size : length c.cells.result.now ≡ length c.deref_mut-2.result.now * length c.deref_mut-3.result.now = search rules in
    let few = c.cells.ensures.sound.few in
    rw whole (λ p l.
    omega (
      arith,
      few,
      parts,
      width,
      rank_count-le c.args.costs.now.ranks,
      m.below p 0 (omega (arith, parts)) (omega (arith, few, width)),
      m.small 0 (omega (arith, few, width)),
      cell_small c.cells.result.now (length c.deref_mut-2.result.now) (length c.deref_mut-3.result.now) size
          (rw c.cells.ensures.value c.cells.ensures.sound.small) p 0 (omega (arith, parts)) (omega (arith, few, width)),
    ))
