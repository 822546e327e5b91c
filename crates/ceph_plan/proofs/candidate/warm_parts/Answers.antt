use Rattle.std.proofs.Common.{◌≡◌, ◌∙◌, ◌<◌, ℕ, Bool, true, List, ap, arith, length, length-set, refl, set, slice_index}
use Rattle.std.proofs.lemmas.List.{get_or_read}
use Rattle.mds_types.specs.declared.problem.ProblemRow.{ProblemRow}
use Rattle.mds_types.specs.Problem.{heat_at, no_row, row_at}
use Rattle.ceph_plan.proofs.Cold.{warm-new, warm-same}
use Rattle.ceph_plan.proofs.candidate.warm_parts.Goals as goal
use Rattle.ceph_plan.proofs.candidate.warm_parts.Goals.{then-row-gt0+then-leaves, else-row-gt0}

pub loop-i-preserved : goal.loop-i-preserved
loop-i-preserved c =
    let rows : List ProblemRow = c.args.rows.now in
    let part : List ℕ = c.args.part.now in
    let rank : List ℕ = c.args.rank.now in
    let warm : List Bool = c.loop-i.warm.items in
    let i : ℕ = c.loop-i.i in
    let row : c.index-rows-i.result ≡ row_at rows i = get_or_read rows i c.index-rows-i.result c.loop-i-test.true c.index-rows-i.is no_row in
    elim c.if-row-gt0.branch [
      | then-row-gt0+then-leaves w ↦
          let set_is : c.if-row-gt0.warm.items ≡ set warm (slice_index part i) true = rw w.warm-is refl in
          let hot : 0 < heat_at rows i = omega (arith, w.if-row-gt0.true, ap (λ (one : ProblemRow). one.heat) row) in
          record {
            size = ap length set_is ∙ (length-set warm (slice_index part i) true ∙ c.loop-i.invariant.size);
            warm = warm-new rows part rank warm c.if-row-gt0.warm.items i set_is (w.leaves.ensures w.if-leaves.true) hot c.loop-i.invariant.warm;
          }
      | else-row-gt0 w ↦ record {
        size = rw w.warm-is c.loop-i.invariant.size;
        warm = warm-same rows part rank warm c.if-row-gt0.warm.items i (rw w.warm-is refl) c.loop-i.invariant.warm;
      }
    ]
