use Rattle.std.proofs.Common.{◌∙◌, ℕ, List, ap, arith, length, slice_index, subst, sym}
use Rattle.mds_types.specs.declared.problem.ProblemRow.{ProblemRow}
use Rattle.ceph_plan.specs.declared.hours.Hour.{Hour}
use Rattle.ceph_plan.specs.Packing.{AreHours, greatest_of, load}
use Rattle.ceph_plan.specs.Plans.{moved_inodes}
use Rattle.ceph_plan.proofs.HourSums.{row-hours}
use Rattle.ceph_plan.proofs.Regions.{regions-placed}
use Rattle.ceph_plan.proofs.placement.placed.Goals as goal

pub worst_loads-requires : goal.worst_loads-requires
worst_loads-requires c =
    subst (AreHours c.args.of.now.hours.now) (sym c.requires.size)
    (row-hours c.args.of.now.rows.now c.args.of.now.hours.now c.args.of.now.forest c.args.of.now.heats c.args.of.now.able.held)

pub returns-clause-placed : goal.returns-clause-placed
returns-clause-placed c =
    let hours : List Hour = c.args.of.now.hours.now in
    let rows : List ProblemRow = c.args.of.now.rows.now in
    let goals : List ℕ = c.args.goals.now in
    let part : List ℕ = c.in_ok-part.field-0.part.items in
    let rank : List ℕ = c.in_ok-part.field-0.rank.items in
    regions-placed c.args.of.now.ranks hours rows goals _ c.args.of.now.forest c.args.of.now.able.some c.requires c.in_ok-part.ensures
    (omega (arith, c.len-count.ensures, c.in_ok-part.rank.ok.0))
    c.in_ok-load.ensures.size (λ r l. c.in_ok-load.ensures.loads r l ∙ ap (λ (n : ℕ). load hours n (slice_index goals) r) c.requires.size)
    (c.most-greatest.ensures ∙ ap (λ (xs : List ℕ). greatest_of c.args.of.now.ranks (slice_index xs)) c.deref.ensures.value)
    (c.moved-moved.ensures
    ∙ (ap (λ (xs : List ℕ). moved_inodes rows xs c.deref-3.result.now (length rows)) c.deref-2.ensures.value
    ∙ ap (λ (xs : List ℕ). moved_inodes rows part xs (length rows)) c.deref-3.ensures.value))
