use Rattle.std.proofs.Common.{◌≡◌, ◌*◌, ap, ℕ, arith}
use Rattle.mds_types.specs.RankSet.{rank_count}
use Rattle.plan_checker.specs.Costs.{cell_at_place}
use Rattle.plan_checker.proofs.PlaceLemmas.{place_inside}
use Rattle.plan_checker.proofs.chosen.cell_at.Goals as goal

pub cell_at_place-requires-clause-inside : goal.cell_at_place-requires-clause-inside
cell_at_place-requires-clause-inside c =
    let row : c.args.part * c.args.width ≡ c.args.part * rank_count c.args.ranks =
    ap (λ (width : ℕ). c.args.part * width) c.requires.width in
    omega (arith, row, place_inside c.args.ranks c.args.rank c.requires.rank, c.place_of.ensures, c.requires.inside)

pub returns : goal.returns
unfolding cell_at_place
returns c = rw (c.place_of.ensures, c.requires.width) at c.cell_at_place.ensures
