use Rattle.std.proofs.Common.{◌≡◌, ◌↔◌, ◌∙◌, ◌≤◌, ◌^◌, ℕ, IsTrue, length, slice_index, arith}
use Rattle.std.proofs.Common.{rules, vec_len, ap, sym, eqb, refl, true, MatchOption, All, Contains}
use Rattle.std.proofs.lemmas.Bool.{false≢true}
use Rattle.std.proofs.lemmas.List.{get_or_default}
use Rattle.mds_types.specs.declared.problem.ProblemRow.{ProblemRow}
use Rattle.mds_types.specs.Problem.{parent_at, row_at, heat_at, no_row}
use Rattle.mds_types.proofs.Tops.{top}
use Rattle.plan_checker.proofs.PartsLemmas.{all_tops, part_so_far-le, part_step, hottest, top-le}
use Rattle.plan_checker.proofs.part_list.hottest_part.Goals as goal

pub overflow_add-index_mut : goal.overflow_add-index_mut
overflow_add-index_mut c =
    let label : ℕ → ℕ = slice_index c.args.part.now in
    let i = c.loop-i.i in
    let below = c.loop-i.invariant.below i (omega arith) in
    let size : length c.loop-i.tops.items ≡ vec_len c.loop-i.tops = search rules in
    let tops : ℕ → ℕ = top (parent_at c.args.rows.now) label in
    let read = c.index_mut.ensures.value
    ∙ get_or_default c.loop-i.tops.items (label i) c.index_mut.result.now 0 (omega (arith, size, below, c.loop-i.invariant.tops_size)) in
    omega (
      arith,
      read,
      c.tops_at.ensures,
      top-le (parent_at c.args.rows.now) label i,
      c.loop-i.invariant.tops (label i) below,
      c.requires.forest.few,
      part_so_far-le label tops (label i) i 1 (λ j l. top-le (parent_at c.args.rows.now) label j),
    )

pub overflow_add-index_mut-in-loop-i : goal.overflow_add-index_mut-in-loop-i
overflow_add-index_mut-in-loop-i c =
    let label : ℕ → ℕ = slice_index c.args.part.now in
    let i = c.loop-i.i in
    let row_is : c.index-rows-i.result ≡ row_at c.args.rows.now c.loop-i.i =
    c.index-rows-i.is ∙ get_or_default c.args.rows.now c.loop-i.i c.index-rows-i.result no_row (omega arith) in
    let heat_is : c.index-rows-i.result.heat ≡ heat_at c.args.rows.now c.loop-i.i = ap (λ (row : ProblemRow). row.heat) row_is in
    let below = c.loop-i.invariant.below i (omega arith) in
    let size : length c.loop-i.heats.items ≡ vec_len c.loop-i.heats = search rules in
    let read = c.index_mut-in-loop-i.ensures.value
    ∙ get_or_default c.loop-i.heats.items (label i) c.index_mut-in-loop-i.result.now 0
    (omega (arith, size, below, c.loop-i.invariant.heats_size)) in
    omega (
      arith,
      read,
      heat_is,
      c.loop-i.invariant.heats (label i) below,
      c.requires.forest.few,
      c.requires.forest.cool i (omega arith),
      part_so_far-le label (heat_at c.args.rows.now) (label i) i (2 ^ 40) (λ j l. c.requires.forest.cool j (omega arith)),
    )

pub loop-i-preserved : goal.loop-i-preserved
loop-i-preserved c =
    let label : ℕ → ℕ = slice_index c.args.part.now in
    let i = c.loop-i.i in
    let row_is : c.index-rows-i.result ≡ row_at c.args.rows.now c.loop-i.i =
    c.index-rows-i.is ∙ get_or_default c.args.rows.now c.loop-i.i c.index-rows-i.result no_row (omega arith) in
    let heat_is : c.index-rows-i.result.heat ≡ heat_at c.args.rows.now c.loop-i.i = ap (λ (row : ProblemRow). row.heat) row_is in
    let below = c.loop-i.invariant.below i (omega arith) in
    let size : length c.loop-i.heats.items ≡ vec_len c.loop-i.heats = search rules in
    let tops_size : length c.loop-i.tops.items ≡ vec_len c.loop-i.tops = search rules in
    record {
      tops_size = c.loop-i.invariant.tops_size;
      heats_size = c.loop-i.invariant.heats_size;
      below = c.loop-i.invariant.below;
      tops = λ q l. part_step label (top (parent_at c.args.rows.now) label) c.loop-i.tops.items i q (label i) c.tops_at.result
          c.index_mut.result.now refl c.tops_at.ensures (omega (arith, tops_size, below, c.loop-i.invariant.tops_size))
          c.index_mut.ensures.value (c.loop-i.invariant.tops q l);
      heats = λ q l. part_step label (heat_at c.args.rows.now) c.loop-i.heats.items i q (label i) c.index-rows-i.result.heat
          c.index_mut-in-loop-i.result.now refl heat_is (omega (arith, size, below, c.loop-i.invariant.heats_size))
          c.index_mut-in-loop-i.ensures.value (c.loop-i.invariant.heats q l);
    }

pub returns-then-all-clause-parts : goal.returns-then-all-clause-parts
returns-then-all-clause-parts c =
    let every : IsTrue c.all.result ↔ All (λ count. eqb count 1 ≡ true) c.loop-i.tops.items = search rules in
    let size : length c.loop-i.tops.items ≡ vec_len c.loop-i.tops = search rules in
    let last : c.loop-i.i ≡ length c.args.rows.now = omega arith in
    let is = all_tops c.args.rows.now c.args.k (slice_index c.args.part.now) c.loop-i.tops.items c.all.result c.requires.forest
    (omega (arith, size, c.loop-i.invariant.tops_size)) c.loop-i.invariant.below (rw last at c.loop-i.invariant.tops) every in
    (λ _. is.0 c.if-all.true, λ _. refl)

pub returns-then-all-clause-heat : goal.returns-then-all-clause-heat
returns-then-all-clause-heat c =
    let size : length c.loop-i.heats.items ≡ vec_len c.loop-i.heats = search rules in
    let there : MatchOption c.max.result (length c.loop-i.heats.items ≡ 0) (λ m. Contains c.loop-i.heats.items m) = search rules in
    let most : MatchOption c.max.result (length c.loop-i.heats.items ≡ 0) (λ m. All (λ x. x ≤ m) c.loop-i.heats.items) =
    search rules in
    let last : c.loop-i.i ≡ length c.args.rows.now = omega arith in
    c.unwrap_or.ensures
    ∙ hottest c.args.rows.now (slice_index c.args.part.now) c.args.k c.loop-i.heats.items c.max.result
    (omega (arith, size, c.loop-i.invariant.heats_size)) there most (rw last at c.loop-i.invariant.heats)

pub returns-clause-parts : goal.returns-clause-parts
returns-clause-parts c =
    let every : IsTrue c.all.result ↔ All (λ count. eqb count 1 ≡ true) c.loop-i.tops.items = search rules in
    let size : length c.loop-i.tops.items ≡ vec_len c.loop-i.tops = search rules in
    let last : c.loop-i.i ≡ length c.args.rows.now = omega arith in
    let is = all_tops c.args.rows.now c.args.k (slice_index c.args.part.now) c.loop-i.tops.items c.all.result c.requires.forest
    (omega (arith, size, c.loop-i.invariant.tops_size)) c.loop-i.invariant.below (rw last at c.loop-i.invariant.tops) every in
    (λ no. absurd (false≢true no), λ parts. sym c.if-all.false ∙ is.1 parts)
