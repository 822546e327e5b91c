use Rattle.std.proofs.Common.{◌≡◌, ◌∙◌, ◌↔◌, ap, sym, ℕ, pos, true, false, length}
use Rattle.std.proofs.Common.{slice_index, slice_index_or, arith, rules, w64, FitsSigned, below_more, refl, IsTrue}
use Rattle.std.proofs.lemmas.Bool.{false≢true}
use Rattle.std.proofs.lemmas.Int.{to_z-of_z}
use Rattle.mds_types.specs.RankSet.{has_rank, rank_count}
use Rattle.mds_types.specs.Certificate.{part_price_at, rank_price_at}
use Rattle.plan_checker.specs.Prices.{RankPriceHolds, dual_of}
use Rattle.plan_checker.specs.Costs.{cell_at}
use Rattle.plan_checker.proofs.PlaceLemmas.{place_inside}
use Rattle.plan_checker.proofs.PricesLemmas.{ArePrices-from_ranks, ranks_from_ArePrices, column_is}
use Rattle.mds_types.proofs.RankSetLemmas.{count_below_more}
use Rattle.plan_checker.proofs.prices.prices_hold.Goals as goal
use Rattle.plan_checker.proofs.prices.prices_hold.Goals.{then-has+else-not-rank_price_holds, else-has}

pub bounds-rank_price-place : goal.bounds-rank_price-place
bounds-rank_price-place c =
    let has : has_rank c.args.ranks c.loop-number.number ≡ true =
    ap (has_rank c.args.ranks) (sym c.in-Some.ensures.value) ∙ (sym c.has.ensures ∙ c.if-has.true) in
    let prices : length c.args.rank_price.now ≡ rank_count c.args.ranks = search rules in
    omega (arith, prices, place_inside c.args.ranks c.loop-number.number has, c.loop-number.invariant.place_is)

pub offset_bounds-rank_price-place : goal.offset_bounds-rank_price-place
offset_bounds-rank_price-place c =
    let has : has_rank c.args.ranks c.loop-number.number ≡ true =
    ap (has_rank c.args.ranks) (sym c.in-Some.ensures.value) ∙ (sym c.has.ensures ∙ c.if-has.true) in
    let prices : length c.args.rank_price.now ≡ rank_count c.args.ranks = search rules in
    omega (arith, prices, place_inside c.args.ranks c.loop-number.number has, c.loop-number.invariant.place_is, c.len.ensures.few, c.len.ensures.count)

pub rank_price_holds-requires-clause-place : goal.rank_price_holds-requires-clause-place
rank_price_holds-requires-clause-place c =
    let has : has_rank c.args.ranks c.loop-number.number ≡ true =
    ap (has_rank c.args.ranks) (sym c.in-Some.ensures.value) ∙ (sym c.has.ensures ∙ c.if-has.true) in
    omega (
      arith,
      place_inside c.args.ranks c.loop-number.number has,
      c.loop-number.invariant.place_is,
      c.from-width.ensures,
      c.len.ensures.count,
    )

pub overflow_add-place : goal.overflow_add-place
overflow_add-place c =
    let has : has_rank c.args.ranks c.loop-number.number ≡ true =
    ap (has_rank c.args.ranks) (sym c.in-Some.ensures.value) ∙ (sym c.has.ensures ∙ c.if-has.true) in
    omega (
      arith,
      place_inside c.args.ranks c.loop-number.number has,
      c.loop-number.invariant.place_is,
      c.from-width.ensures,
      c.len.ensures.count,
      c.len.ensures.few,
    )

pub returns-then-not-rank_price_holds : goal.returns-then-not-rank_price_holds
returns-then-not-rank_price_holds c =
    let number = c.loop-number.number in
    let has : has_rank c.args.ranks c.loop-number.number ≡ true =
    ap (has_rank c.args.ranks) (sym c.in-Some.ensures.value) ∙ (sym c.has.ensures ∙ c.if-has.true) in
    let prices : length c.args.rank_price.now ≡ rank_count c.args.ranks = search rules in
    let price_is : slice_index_or c.args.rank_price.now c.loop-number.place (pos 0)
    ≡ rank_price_at (dual_of c.args.part_price.now c.args.rank_price.now) c.args.ranks c.loop-number.number =
    ap (λ (x : ℕ). slice_index_or c.args.rank_price.now x (pos 0)) c.loop-number.invariant.place_is in
    let costs = column_is c.args.ranks c.args.cells.now c.from-width.result c.loop-number.place number
    (c.from-width.ensures ∙ c.len.ensures.count) c.loop-number.invariant.place_is in
    let fits : FitsSigned w64 (slice_index_or c.args.rank_price.now c.loop-number.place (pos 0)) = search rules in
    let here : IsTrue c.rank_price_holds.result
    ↔ RankPriceHolds (length c.args.rank.now) (slice_index c.args.rank.now) (part_price_at (dual_of c.args.part_price.now c.args.rank_price.now))
    (λ p. cell_at c.args.ranks c.args.cells.now p number) number (rank_price_at (dual_of c.args.part_price.now c.args.rank_price.now) c.args.ranks number) =
    rw (c.in-Some.ensures.value, to_z-of_z w64 (slice_index_or c.args.rank_price.now c.loop-number.place (pos 0)) fits, price_is, costs) at
    c.rank_price_holds.ensures in (
      λ no. absurd (false≢true no),
      λ is.
          sym c.if-not-rank_price_holds.true
          ∙ here.1 (ranks_from_ArePrices c.args.ranks (length c.args.rank.now) (cell_at c.args.ranks c.args.cells.now)
          (slice_index c.args.rank.now) (dual_of c.args.part_price.now c.args.rank_price.now) is number has),
    )

pub loop-number-preserved : goal.loop-number-preserved
loop-number-preserved c =
    let number = c.loop-number.number in
    let P : ℕ → Type 0 = λ r. has_rank c.args.ranks r ≡ true
    → RankPriceHolds (length c.args.rank.now) (slice_index c.args.rank.now) (part_price_at (dual_of c.args.part_price.now c.args.rank_price.now))
    (λ p. cell_at c.args.ranks c.args.cells.now p r) r (rank_price_at (dual_of c.args.part_price.now c.args.rank_price.now) c.args.ranks r) in
    let more = count_below_more number (has_rank c.args.ranks) in
    let prices : length c.args.rank_price.now ≡ rank_count c.args.ranks = search rules in
    elim c.if-has.branch [
      | then-has+else-not-rank_price_holds w ↦
          (let has : has_rank c.args.ranks c.loop-number.number ≡ true =
          ap (has_rank c.args.ranks) (sym c.in-Some.ensures.value) ∙ (sym c.has.ensures ∙ w.if-has.true) in
          let step = rw has at more in
          let price_is : slice_index_or c.args.rank_price.now c.loop-number.place (pos 0)
          ≡ rank_price_at (dual_of c.args.part_price.now c.args.rank_price.now) c.args.ranks c.loop-number.number =
          ap (λ (x : ℕ). slice_index_or c.args.rank_price.now x (pos 0)) c.loop-number.invariant.place_is in
          let costs = column_is c.args.ranks c.args.cells.now c.from-width.result c.loop-number.place number
          (c.from-width.ensures ∙ c.len.ensures.count) c.loop-number.invariant.place_is in
          let fits : FitsSigned w64 (slice_index_or c.args.rank_price.now c.loop-number.place (pos 0)) = search rules in
          let here : P c.loop-number.number =
          (rw (c.in-Some.ensures.value, to_z-of_z w64 (slice_index_or c.args.rank_price.now c.loop-number.place (pos 0)) fits, price_is, costs) at
          (λ (has : has_rank c.args.ranks c.loop-number.number ≡ true). w.rank_price_holds.ensures.0 w.if-not-rank_price_holds.false)) in
          record {
            place_is = omega (arith, w.place-is, step, c.loop-number.invariant.place_is);
            held = below_more P number c.loop-number.invariant.held here;
          })
      | else-has w ↦
          (let has_not : has_rank c.args.ranks c.loop-number.number ≡ false =
          ap (has_rank c.args.ranks) (sym c.in-Some.ensures.value) ∙ (sym c.has.ensures ∙ w.if-has.false) in
          let step = rw has_not at more in
          record {
            place_is = omega (arith, w.place-is, step, c.loop-number.invariant.place_is);
            held = below_more P number c.loop-number.invariant.held (λ has. absurd (false≢true (sym has_not ∙ has)));
          })
    ]

pub returns : goal.returns
returns c =
    let parts : length c.args.part_price.now ≡ length c.args.rank.now = search rules in
    let prices : length c.args.rank_price.now ≡ rank_count c.args.ranks = search rules in (
      λ holds. ArePrices-from_ranks c.args.ranks (length c.args.rank.now) (cell_at c.args.ranks c.args.cells.now)
          (slice_index c.args.rank.now) (dual_of c.args.part_price.now c.args.rank_price.now) c.requires.ranks parts prices
          (λ r l has. c.loop-number.invariant.held r (omega arith) has),
      λ is. refl,
    )
