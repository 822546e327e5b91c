use Rattle.std.proofs.Common.{◌≡◌, ◌∙◌, ◌+◌, ◌*◌, ap, ℕ, length, slice_index, arith}
use Rattle.std.proofs.lemmas.List.{get_or_default}
use Rattle.mds_types.specs.RankSet.{rank_count}
use Rattle.mds_types.proofs.SumsLemmas.{sum_below_more}
use Rattle.plan_checker.specs.Costs.{cell_at, rank_place}
use Rattle.plan_checker.proofs.PlaceLemmas.{cell_inside}
use Rattle.plan_checker.proofs.chosen.chosen_sum.Goals as goal

pub loop-p-preserved : goal.loop-p-preserved
loop-p-preserved c =
    let ranks = c.args.ranks in
    let rank : ℕ → ℕ = slice_index c.args.rank.now in
    let p = c.loop-p.p in
    let rank_is : c.index-rank-p.result ≡ slice_index c.args.rank.now c.loop-p.p =
    c.index-rank-p.is ∙ get_or_default c.args.rank.now c.loop-p.p c.index-rank-p.result 0 (omega arith) in
    let read = c.cell_at-sum.ensures ∙ ap (λ (r : ℕ). cell_at c.args.ranks c.args.cells.now c.loop-p.p r) rank_is in
    let more = sum_below_more p (λ q. cell_at c.args.ranks c.args.cells.now q (slice_index c.args.rank.now q)) in
    let inside = cell_inside ranks p (length c.args.rank.now) (length c.args.cells.now) (rank p) (omega arith) c.requires.size
    (c.requires.ranks.usable p (omega arith)) in
    let small = c.requires.small (p * rank_count ranks + rank_place ranks (rank p)) 0 inside in
    record {
      sum = omega (arith, more, read, c.loop-p.invariant.sum);
      small = omega (arith, small, read, c.loop-p.invariant.small);
    }
