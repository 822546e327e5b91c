use Rattle.std.proofs.Common.{List, slice_index, subst}
use Rattle.mds_types.specs.declared.problem.ProblemRow.{ProblemRow}
use Rattle.residual_cut.specs.Subtrees.{AreSums}
use Rattle.std.proofs.Common.{sym}
use Rattle.mds_types.specs.Problem.{IsForest}
use Rattle.ceph_plan.proofs.Making.{numbered-forest, numbered-totals}
use Rattle.ceph_plan.proofs.made.totals.Goals as goal

pub weigh-requires : goal.weigh-requires
weigh-requires c =
    subst IsForest (sym c.deref.ensures.value)
    (numbered-forest c.args.rows.now c.in_ok-rows.rows.items c.args.own.now c.requires.forest c.in_ok-rows.ensures c.requires.small)

pub returns-clause-totals : goal.returns-clause-totals
returns-clause-totals c =
    numbered-totals c.args.rows.now c.in_ok-rows.rows.items c.args.own.now (slice_index c.in_ok-trees.trees.heat.items) c.in_ok-rows.ensures
    (subst (λ (xs : List ProblemRow). AreSums xs (slice_index c.in_ok-trees.trees.heat.items)) c.deref.ensures.value c.in_ok-trees.ensures.trees.sums)
