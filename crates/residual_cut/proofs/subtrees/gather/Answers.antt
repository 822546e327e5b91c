use Rattle.std.proofs.Common.{◌≡◌, ◌<◌, ◌≤◌, ◌∙◌, ◌-◌, ◌+◌, ℕ, get_or, length, slice_index, arith, subst, length-set, ⊎_elim}
use Rattle.std.proofs.lemmas.Bool.{cases_lt}
use Rattle.residual_cut.proofs.SumLemmas.{IsGathered, sums_start, sums_given, sums_end, sums_none, sums_fit}
use Rattle.residual_cut.proofs.TableLemmas.{parent_read}
use Rattle.residual_cut.proofs.subtrees.gather.Goals as goal

pub loop-i-init : goal.loop-i-init
loop-i-init c = record {
  size = c.requires.size;
  low = omega arith;
  some = λ some. some;
  walk = sums_start c.args.rows.now (slice_index c.args.heat.now) c.requires.forest c.requires.own;
}

pub overflow_add-heat : goal.overflow_add-heat
overflow_add-heat c =
    let i = c.loop-i.i - 1 in
    let parent = (get_or c.args.rows.now (c.loop-i.i - 1) c.index-rows-i.result).parent in
    let parent_is = parent_read c.args.rows.now i c.index-rows-i.result (omega (arith, c.loop-i.invariant.low)) in
    let up = c.requires.forest.above i (omega arith) (omega (arith, c.loop-i.invariant.low)) in
    omega (
      arith,
      sums_fit c.args.rows.now (slice_index c.loop-i.heat) c.loop-i.i parent i c.requires.forest (omega (arith, up, parent_is)) (omega arith)
          c.loop-i.invariant.walk,
    )

pub loop-i-preserved : goal.loop-i-preserved
loop-i-preserved c =
    let i = c.loop-i.i - 1 in
    let parent = (get_or c.args.rows.now (c.loop-i.i - 1) c.index-rows-i.result).parent in
    let parent_is = parent_read c.args.rows.now i c.index-rows-i.result (omega (arith, c.loop-i.invariant.low)) in
    record {
      size = length-set c.loop-i.heat parent _ ∙ c.loop-i.invariant.size;
      low = omega (arith, c.loop-i.invariant.low);
      some = λ some. omega arith;
      walk = sums_given c.args.rows.now c.loop-i.heat i parent c.requires.forest c.loop-i.invariant.size
          (omega (arith, c.loop-i.invariant.low)) (omega arith) parent_is
          (let one : c.loop-i.i - 1 + 1 ≡ c.loop-i.i = omega arith in rw one c.loop-i.invariant.walk);
    }

pub returns-clause-sums : goal.returns-clause-sums
returns-clause-sums c =
    ⊎_elim
    (λ (some : 0 < length c.args.rows.now).
    let last : c.loop-i.i ≡ 1 = omega (arith, c.loop-i.invariant.low, c.loop-i.invariant.some some) in
    let P : ℕ → Type 0 = λ m. IsGathered c.args.rows.now (slice_index c.loop-i.heat) m m in
    sums_end c.args.rows.now (slice_index c.loop-i.heat) c.requires.forest (subst P last c.loop-i.invariant.walk))
    (λ (none : length c.args.rows.now ≤ 0). sums_none c.args.rows.now (slice_index c.loop-i.heat) (omega arith))
    (cases_lt 0 (length c.args.rows.now))
