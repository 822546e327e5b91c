use Rattle.std.proofs.Common.{◌≡◌, ◌≢◌, length, arith, rules, ⊎_elim}
use Rattle.std.proofs.lemmas.Bool.{cases_eq}
use Rattle.mds_types.proofs.PlacingLemmas.{has_rank-lt}
use Rattle.plan_checker.proofs.PlaceLemmas.{row_inside}
use Rattle.plan_checker.proofs.InodeLemmas.{cell_within}
use Rattle.plan_checker.proofs.cells.fill.Goals as goal

pub fill_part-requires-clause-row : goal.fill_part-requires-clause-row
fill_part-requires-clause-row c =
    row_inside c.args.ranks c.loop-p.p c.args.count (length c.loop-p.cells) (omega arith) (search rules)

pub fill_part-requires-clause-own : goal.fill_part-requires-clause-own
fill_part-requires-clause-own c = λ r l. omega (arith, cell_within c.args.sums.now c.loop-p.p r l, c.total.ensures)

pub fill_part-requires-clause-few : goal.fill_part-requires-clause-few
fill_part-requires-clause-few c = omega (arith, c.requires.few c.loop-p.p (omega arith), c.total.ensures)

pub loop-p-preserved : goal.loop-p-preserved
loop-p-preserved c = record {
  cells = λ p r l has.
      ⊎_elim
      (λ (same : p ≡ c.loop-p.p).
      rw same
      (omega (
        arith,
        c.fill_part.ensures.here r has,
        c.total.ensures,
        cell_within c.args.sums.now c.loop-p.p r (has_rank-lt c.args.ranks r has),
      )))
      (λ (other : p ≢ c.loop-p.p).
      omega (arith, c.fill_part.ensures.other p r other has, c.loop-p.invariant.cells p r (omega arith) has))
      (cases_eq p c.loop-p.p);
  small = c.fill_part.ensures.small;
}
