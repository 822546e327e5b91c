use Rattle.std.proofs.Common.{◌≡◌, ◌<◌, ◌+◌, ◌*◌, ◌^◌, ◌∙◌, ℕ, List, ap, refl, arith, length, length-set, get_or}
use Rattle.std.specs.Prelude.{slice_index}
use Rattle.mds_types.specs.declared.problem.ProblemRow.{ProblemRow}
use Rattle.mds_types.specs.Problem.{heat_at, inodes_at, no_row, row_at}
use Rattle.tree_parts.specs.declared.plan_parts.Total.{Total}
use Rattle.tree_parts.specs.PlanParts.{nothing}
use Rattle.tree_parts.proofs.PartsSoFar.{bounded_more, plus, plus-same, read, total_more}
use Rattle.tree_parts.proofs.plan_parts.totals.Goals as goal

pub with-requires-clause-heat : goal.with-requires-clause-heat
with-requires-clause-heat c =
    let rows : List ProblemRow = c.args.rows.now in
    let n : ℕ = c.loop-i.i in
    let label : ℕ = slice_index c.args.part.now n in
    let within : label < c.args.count = c.requires.labels n c.loop-i-test.true in
    let row : c.index-rows-i.result.heat ≡ heat_at rows n =
    ap (λ (r : ProblemRow). r.heat) (read rows n c.index-rows-i.result no_row c.loop-i-test.true c.index-rows-i.is) in
    let before : c.index-before.result.now.heat ≡ (get_or c.loop-i.totals.items label nothing).heat =
    ap (λ (sum : Total). sum.heat)
    (read c.loop-i.totals.items label c.index-before.result.now nothing (omega (arith, within, c.loop-i.invariant.size))
    c.index-before.ensures) in
    omega (arith, row, before, c.requires.forest.cool n c.loop-i-test.true, c.loop-i.invariant.heat label within, c.requires.forest.few, c.loop-i-test.true)

pub with-requires-clause-inodes : goal.with-requires-clause-inodes
with-requires-clause-inodes c =
    let n : ℕ = c.loop-i.i in
    let label : ℕ = slice_index c.args.part.now n in
    let within : label < c.args.count = c.requires.labels n c.loop-i-test.true in
    let before : c.index-before.result.now.inodes ≡ (get_or c.loop-i.totals.items label nothing).inodes =
    ap (λ (sum : Total). sum.inodes)
    (read c.loop-i.totals.items label c.index-before.result.now nothing (omega (arith, within, c.loop-i.invariant.size))
    c.index-before.ensures) in
    omega (arith, before, c.loop-i.invariant.inodes label within, c.requires.forest.few, c.loop-i-test.true)

pub loop-i-preserved : goal.loop-i-preserved
loop-i-preserved c =
    let rows : List ProblemRow = c.args.rows.now in
    let part : List ℕ = c.args.part.now in
    let n : ℕ = c.loop-i.i in
    let label : ℕ = slice_index part n in
    let totals : List Total = c.loop-i.totals.items in
    let more : Total = c.with.result in
    let within : label < c.args.count = c.requires.labels n c.loop-i-test.true in
    let place : label < length totals = omega (arith, within, c.loop-i.invariant.size) in
    let row : c.index-rows-i.result ≡ row_at rows n = read rows n c.index-rows-i.result no_row c.loop-i-test.true c.index-rows-i.is in
    let heat_is : c.index-rows-i.result.heat ≡ heat_at rows n = ap (λ (r : ProblemRow). r.heat) row in
    let inodes_is : c.index-rows-i.result.inodes ≡ inodes_at rows n = ap (λ (r : ProblemRow). r.inodes) row in
    let before : c.index-before.result.now ≡ get_or totals label nothing = read totals label c.index-before.result.now nothing place c.index-before.ensures in
    let is : more ≡ plus (get_or totals label nothing) (heat_at rows n) (inodes_at rows n) =
    c.with.ensures.sums ∙ plus-same c.index-before.result.now (get_or totals label nothing) c.index-rows-i.result.heat (heat_at rows n)
    c.index-rows-i.result.inodes (inodes_at rows n) before heat_is inodes_is in
    let more_heat : more.heat ≡ (get_or totals label nothing).heat + heat_at rows n = ap (λ (sum : Total). sum.heat) is in
    let inodes_before : c.index-before.result.now.inodes ≡ (get_or totals label nothing).inodes = ap (λ (sum : Total). sum.inodes) before in
    record {
      size = simp length-set c.loop-i.invariant.size;
      heat = bounded_more (λ sum. sum.heat) totals c.args.count (2 ^ 40) (n * 2 ^ 40) ((n + 1) * 2 ^ 40) label more place within
          (omega (arith, more_heat, c.requires.forest.cool n c.loop-i-test.true)) (omega arith) c.loop-i.invariant.heat;
      inodes = bounded_more (λ sum. sum.inodes) totals c.args.count (2 ^ 32) (n * 2 ^ 32) ((n + 1) * 2 ^ 32) label more place within
          (omega (arith, inodes_before, c.with.ensures.few)) (omega arith) c.loop-i.invariant.inodes;
      counted = total_more rows (slice_index part) totals c.args.count n label more refl place within is c.loop-i.invariant.counted;
    }
