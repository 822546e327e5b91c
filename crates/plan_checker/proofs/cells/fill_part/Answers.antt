use Rattle.std.proofs.Common.{List, get_or, set, ◌≤◌, ◌^◌, ◌≡◌, ◌∙◌, ◌<◌, ◌+◌, ◌-◌, ◌*◌, ap, sym, ℕ, true, false, length, slice_index, arith, below_more, rules}
use Rattle.std.proofs.lemmas.Bool.{false≢true}
use Rattle.std.proofs.lemmas.List.Elements.{All-set}
use Rattle.mds_types.specs.RankSet.{has_rank}
use Rattle.mds_types.proofs.RankSetLemmas.{count_below_more}
use Rattle.plan_checker.specs.Costs.{cell_at}
use Rattle.plan_checker.proofs.PlaceLemmas.{place_inside, cell_here, cell_before, cell_other}
use Rattle.plan_checker.proofs.cells.fill_part.Goals as goal
use Rattle.plan_checker.proofs.cells.fill_part.Goals.{then-has_number, else-has_number}

pub offset_bounds-cells-place : goal.offset_bounds-cells-place
offset_bounds-cells-place c =
    let has : has_rank c.args.ranks c.loop-number.number ≡ true = sym c.has_number.ensures ∙ c.if-has_number.true in
    let inside : c.loop-number.place < length c.loop-number.cells =
    omega (arith, place_inside c.args.ranks c.loop-number.number has, c.loop-number.invariant.place_is, c.requires.row) in
    search rules

pub bounds-cells-place : goal.bounds-cells-place
bounds-cells-place c =
    let has : has_rank c.args.ranks c.loop-number.number ≡ true = sym c.has_number.ensures ∙ c.if-has_number.true in
    omega (arith, place_inside c.args.ranks c.loop-number.number has, c.loop-number.invariant.place_is, c.requires.row)

pub overflow_add-place : goal.overflow_add-place
overflow_add-place c =
    let has : has_rank c.args.ranks c.loop-number.number ≡ true = sym c.has_number.ensures ∙ c.if-has_number.true in
    let inside : c.loop-number.place < length c.loop-number.cells =
    omega (arith, place_inside c.args.ranks c.loop-number.number has, c.loop-number.invariant.place_is, c.requires.row) in
    search rules

pub loop-number-preserved : goal.loop-number-preserved
loop-number-preserved c =
    let ranks = c.args.ranks in
    let number = c.loop-number.number in
    let more = count_below_more number (has_rank c.args.ranks) in
    elim c.if-has_number.branch [
      | then-has_number w ↦
          (let has : has_rank c.args.ranks c.loop-number.number ≡ true = sym c.has_number.ensures ∙ w.if-has_number.true in
          let inside : c.loop-number.place < length c.loop-number.cells =
          omega (arith, place_inside c.args.ranks c.loop-number.number has, c.loop-number.invariant.place_is, c.requires.row) in
          let place_is = c.loop-number.invariant.place_is in
          let value = c.args.total - get_or c.args.sums.now (c.args.part * 64 + w.from-then-has_number.result) 0 in
          let value_is : value ≡ c.args.total - slice_index c.args.sums.now (c.args.part * 64 + c.loop-number.number) =
          ap (λ (x : ℕ). c.args.total - slice_index c.args.sums.now (c.args.part * 64 + x)) w.from-then-has_number.ensures in
          let cells : List ℕ = set c.loop-number.cells c.loop-number.place value in
          let step = rw has at more in
          rw w.cells-is (record {
            place_is = omega (arith, w.place-is, step, c.loop-number.invariant.place_is);
            here = below_more
                (λ (r : ℕ). has_rank c.args.ranks r ≡ true
                → cell_at c.args.ranks cells c.args.part r ≡ c.args.total - slice_index c.args.sums.now (c.args.part * 64 + r))
                c.loop-number.number
                (λ r before has_r.
                cell_before c.args.ranks c.loop-number.cells c.args.part c.loop-number.number c.loop-number.place value r has_r before
                place_is
                ∙ c.loop-number.invariant.here r before has_r)
                (λ has_here.
                cell_here c.args.ranks c.loop-number.cells c.args.part c.loop-number.number c.loop-number.place value has place_is
                inside
                ∙ value_is);
            other = λ p r other has_r.
                cell_other c.args.ranks c.loop-number.cells c.args.part c.loop-number.number c.loop-number.place value p r has has_r
                other place_is
                ∙ c.loop-number.invariant.other p r other has_r;
            small = All-set (λ (cell : ℕ). cell ≤ 2 ^ 48) c.loop-number.cells c.loop-number.place value
                (omega (arith, c.requires.few)) c.loop-number.invariant.small;
          }))
      | else-has_number w ↦
          (let has_not : has_rank c.args.ranks c.loop-number.number ≡ false = sym c.has_number.ensures ∙ w.if-has_number.false in
          let step = rw has_not at more in
          rw w.cells-is (record {
            place_is = omega (arith, w.place-is, step, c.loop-number.invariant.place_is);
            here = below_more
                (λ (r : ℕ). has_rank c.args.ranks r ≡ true
                → cell_at c.args.ranks c.loop-number.cells c.args.part r
                ≡ c.args.total - slice_index c.args.sums.now (c.args.part * 64 + r))
                c.loop-number.number c.loop-number.invariant.here
                (λ has_here. absurd (false≢true (sym has_not ∙ has_here)));
            other = c.loop-number.invariant.other;
            small = c.loop-number.invariant.small;
          }))
    ]
