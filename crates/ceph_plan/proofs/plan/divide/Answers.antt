use Rattle.std.proofs.Common.{◌∙◌, ◌<◌, ◌↔◌, ◌≤◌, ℕ, IsTrue, List, length, subst}
use Rattle.std.proofs.Math.Nat.{le_trans}
use Rattle.std.proofs.lemmas.List.{length-map}
use Rattle.mds_types.specs.declared.problem.ProblemRow.{ProblemRow}
use Rattle.mds_types.specs.Problem.{heat_at}
use Rattle.minmax_search.specs.declared.found.BestCut.{BestCut}
use Rattle.minmax_search.specs.Found.{IsFound}
use Rattle.ceph_plan.specs.Plans.{ArePackings, capped_row, capped_rows}
use Rattle.ceph_plan.proofs.CappedRows.{division-capped, forest-capped, found-capped, parts-found, some-capped}
use Rattle.ceph_plan.proofs.plan.divide.Goals as goal

pub search_rows-requires-clause-forest : goal.search_rows-requires-clause-forest
search_rows-requires-clause-forest c =
    forest-capped c.args.size.cap c.args.of.now.rows.now c.deref.result.now (c.deref.ensures.value ∙ c.in_ok-capped.ensures) c.args.of.now.forest

pub search_rows-requires-clause-some : goal.search_rows-requires-clause-some
search_rows-requires-clause-some c =
    some-capped c.args.size.cap c.args.of.now.rows.now c.deref.result.now (c.deref.ensures.value ∙ c.in_ok-capped.ensures) c.args.of.now.able.some

pub pack-requires-clause-few : goal.pack-requires-clause-few
pack-requires-clause-few c = le_trans c.in_ok-cut.ensures.few c.requires.few

pub pack-requires-clause-parts : goal.pack-requires-clause-parts
pack-requires-clause-parts c =
    parts-found c.args.of.now.rows.now c.deref.result.now c.args.size.cap c.args.size.parts c.in_ok-cut.field-0 c.deref-3.result.now
    c.deref-3.ensures.value c.args.of.now.forest
    (c.deref.ensures.value ∙ c.in_ok-capped.ensures) c.in_ok-cut.ensures

pub returns-clause-divided : goal.returns-clause-divided
returns-clause-divided c =
    let rows : List ProblemRow = c.args.of.now.rows.now in
    let cap : ℕ = c.args.size.cap in
    let best : BestCut = c.in_ok-cut.field-0 in
    let found : IsFound (capped_rows cap rows) c.args.size.parts best =
    found-capped rows c.deref.result.now cap c.args.size.parts best (c.deref.ensures.value ∙ c.in_ok-capped.ensures) c.in_ok-cut.ensures in
    record {
      forest = c.args.of.now.forest;
      size = found.cut.size ∙ length-map rows (capped_row cap);
      division = division-capped cap rows _ _ found.cut.parts.division;
      packings = subst (λ (part : List ℕ). ArePackings c.args.of.now.ranks c.args.of.now.hours.now rows part best.cut.count
          c.in_ok-packings.packings.even c.in_ok-packings.packings.each.items)
          c.deref-3.ensures.value c.in_ok-packings.ensures;
      few = found.few;
      greatest = best.greatest;
      within = found.cut.within;
      least = found.least;
      heavy = subst (λ (others : List ProblemRow). IsTrue c.has_row_of-is_heavy.result ↔ ((i : ℕ) × (i < length others) × (best.greatest ≤ heat_at others i)))
          (c.deref-2.ensures.value ∙ c.in_ok-capped.ensures) c.has_row_of-is_heavy.ensures;
    }
