use Rattle.std.proofs.Common.{◌≡◌, ◌∙◌, ◌+◌, ap, sym, ℕ, true, false, slice_index, arith, below_more}
use Rattle.std.proofs.lemmas.Bool.{false≢true}
use Rattle.mds_types.specs.RankSet.{has_rank}
use Rattle.mds_types.proofs.RankSetLemmas.{count_below_more}
use Rattle.plan_checker.specs.Costs.{rank_place}
use Rattle.plan_checker.proofs.PlaceLemmas.{place_inside, place_same, rank_count-le}
use Rattle.rank_assign.proofs.assigned.give_ranks.Goals as goal
use Rattle.rank_assign.proofs.assigned.give_ranks.Goals.{then-has, else-has}

pub offset_bounds-owners-place : goal.offset_bounds-owners-place
offset_bounds-owners-place c =
    let has : has_rank c.args.ranks c.loop-number.number ≡ true =
    ap (has_rank c.args.ranks) (sym c.in-Some.ensures.value) ∙ (sym c.has.ensures ∙ c.if-has.true) in
    omega (
      arith,
      place_inside c.args.ranks c.loop-number.number has,
      c.loop-number.invariant.place_is,
      rank_count-le c.args.ranks,
    )

pub bounds-owners-place : goal.bounds-owners-place
bounds-owners-place c =
    let has : has_rank c.args.ranks c.loop-number.number ≡ true =
    ap (has_rank c.args.ranks) (sym c.in-Some.ensures.value) ∙ (sym c.has.ensures ∙ c.if-has.true) in
    omega (arith, place_inside c.args.ranks c.loop-number.number has, c.loop-number.invariant.place_is, c.requires.size)

pub overflow_add-place : goal.overflow_add-place
overflow_add-place c =
    let has : has_rank c.args.ranks c.loop-number.number ≡ true =
    ap (has_rank c.args.ranks) (sym c.in-Some.ensures.value) ∙ (sym c.has.ensures ∙ c.if-has.true) in
    omega (
      arith,
      place_inside c.args.ranks c.loop-number.number has,
      c.loop-number.invariant.place_is,
      rank_count-le c.args.ranks,
    )

pub give_rank-requires : goal.give_rank-requires
give_rank-requires c =
    let has : has_rank c.args.ranks c.loop-number.number ≡ true =
    ap (has_rank c.args.ranks) (sym c.in-Some.ensures.value) ∙ (sym c.has.ensures ∙ c.if-has.true) in
    omega (
      arith,
      c.requires.placed.owned c.loop-number.place
          (omega (arith, place_inside c.args.ranks c.loop-number.number has, c.loop-number.invariant.place_is, c.requires.size)),
    )

pub loop-number-preserved : goal.loop-number-preserved
loop-number-preserved c =
    let number = c.loop-number.number in
    let ranks = c.args.ranks in
    let owners : ℕ → ℕ = slice_index c.args.owners.now in
    let more = count_below_more number (has_rank c.args.ranks) in
    elim c.if-has.branch [
      | then-has w ↦
          (let has : has_rank c.args.ranks c.loop-number.number ≡ true =
          ap (has_rank c.args.ranks) (sym c.in-Some.ensures.value) ∙ (sym c.has.ensures ∙ w.if-has.true) in
          let step = rw has at more in
          let inside = place_inside c.args.ranks c.loop-number.number has in
          let owner_is : slice_index c.args.owners.now c.loop-number.place
          ≡ slice_index c.args.owners.now (rank_place c.args.ranks c.loop-number.number) =
          ap (slice_index c.args.owners.now) c.loop-number.invariant.place_is in
          rw w.rank-is (record {
            place_is = omega (arith, w.place-is, step, c.loop-number.invariant.place_is);
            given = λ p r before has_r owns.
                below_more
                (λ (x : ℕ). has_rank c.args.ranks x ≡ true → slice_index c.args.owners.now (rank_place c.args.ranks x) ≡ p + 1
                → slice_index w.give_rank.new.rank p ≡ x)
                number
                (λ x below has_x owns_x.
                w.give_rank.ensures.others p (λ owns_here.
                let apart : x ≡ number =
                place_same c.args.ranks x c.loop-number.number has_x has
                (c.requires.placed.once (rank_place c.args.ranks x) (rank_place c.args.ranks c.loop-number.number)
                (omega (arith, place_inside c.args.ranks x has_x, c.requires.size)) (omega (arith, inside, c.requires.size))
                (omega (arith, owns_x)) (owns_x ∙ (sym owns_here ∙ owner_is))) in
                omega arith)
                ∙ c.loop-number.invariant.given p x below has_x owns_x)
                (λ has_x owns_x. w.give_rank.ensures.owner p (owner_is ∙ owns_x) ∙ c.in-Some.ensures.value)
                r before has_r owns;
          }))
      | else-has w ↦
          (let has_not : has_rank c.args.ranks c.loop-number.number ≡ false =
          ap (has_rank c.args.ranks) (sym c.in-Some.ensures.value) ∙ (sym c.has.ensures ∙ w.if-has.false) in
          let step = rw has_not at more in
          rw w.rank-is (record {
            place_is = omega (arith, w.place-is, step, c.loop-number.invariant.place_is);
            given = λ p r before has_r owns.
                below_more
                (λ (x : ℕ). has_rank c.args.ranks x ≡ true → slice_index c.args.owners.now (rank_place c.args.ranks x) ≡ p + 1
                → slice_index c.loop-number.rank p ≡ x)
                number (λ x below. c.loop-number.invariant.given p x below)
                (λ has_x owns_x. absurd (false≢true (sym has_not ∙ has_x)))
                r before has_r owns;
          }))
    ]
