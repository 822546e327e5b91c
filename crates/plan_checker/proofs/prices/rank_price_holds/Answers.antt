use Rattle.std.proofs.Common.{◌≡◌, ◌∙◌, ℕ, pos, ◌+ℤ◌, ◌≤ℤ◌, w64, FitsSigned, slice_index, slice_index_or, arith, rules, below_more, refl, length}
use Rattle.std.proofs.lemmas.Bool.{eq-eqb}
use Rattle.std.proofs.lemmas.Int.{to_z-of_z}
use Rattle.std.proofs.lemmas.List.{get_or_default}
use Rattle.plan_checker.specs.Costs.{cell_at_place}
use Rattle.plan_checker.proofs.prices.rank_price_holds.Goals as goal

pub loop-p-preserved : goal.loop-p-preserved
loop-p-preserved c =
    let p = c.loop-p.p in
    let fits : FitsSigned w64 (slice_index_or c.args.part_price.now c.loop-p.p (pos 0)) = search rules in
    let price_fits : FitsSigned w64 c.args.price = search rules in
    let rank_is : c.index-rank-p.result ≡ slice_index c.args.rank.now c.loop-p.p =
    c.index-rank-p.is ∙ get_or_default c.args.rank.now c.loop-p.p c.index-rank-p.result 0 (omega arith) in
    let here = rw (to_z-of_z w64 (slice_index_or c.args.part_price.now c.loop-p.p (pos 0)) fits, c.cell_at_place-cost.ensures) at
    (c.pair_holds.ensures.0 c.if-not-pair_holds.false) in
    rw (to_z-of_z w64 c.args.price price_fits) (record {
      below = below_more
          (λ (q : ℕ). (slice_index_or c.args.part_price.now q (pos 0) +ℤ c.args.price)
          ≤ℤ pos (cell_at_place c.args.column.cells.now c.args.column.width q c.args.column.place))
          p (rw (to_z-of_z w64 c.args.price price_fits) at c.loop-p.invariant.below)
          (rw (to_z-of_z w64 c.args.price price_fits) at here.0);
      chosen = below_more
          (λ (q : ℕ). slice_index c.args.rank.now q ≡ c.args.r → (slice_index_or c.args.part_price.now q (pos 0) +ℤ c.args.price)
          ≡ pos (cell_at_place c.args.column.cells.now c.args.column.width q c.args.column.place))
          p (rw (to_z-of_z w64 c.args.price price_fits) at c.loop-p.invariant.chosen)
          (λ same. (rw (to_z-of_z w64 c.args.price price_fits) at here.1)
          (c.eq.ensures ∙ eq-eqb c.index-rank-p.result c.args.r (rank_is ∙ same)));
    })

pub returns : goal.returns
returns c =
    let price_fits : FitsSigned w64 c.args.price = search rules in
    let sign = rw (to_z-of_z w64 c.args.price price_fits) at (c.sign_holds.ensures.0 c.if-not-sign_holds.false) in
    let all : c.loop-p.p ≡ length c.args.rank.now = omega arith in (
      λ _. record {
        not_above = sign.0;
        unused = sign.1;
        below = λ part l. (rw (to_z-of_z w64 c.args.price price_fits) at c.loop-p.invariant.below) part (omega arith);
        chosen = λ part l. (rw (to_z-of_z w64 c.args.price price_fits) at c.loop-p.invariant.chosen) part (omega arith);
      },
      λ _. refl,
    )
