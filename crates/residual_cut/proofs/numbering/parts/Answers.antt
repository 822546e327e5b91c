use Rattle.std.proofs.Common.{◌≡◌, ◌∙◌, ap, arith, rules, length, subst, ℕ, slice_index, List, max, ◌+◌}
use Rattle.mds_types.specs.Problem.{parent_at}
use Rattle.mds_types.specs.CutTable.{is_cut_at}
use Rattle.residual_cut.specs.Labels.{IsLabelled}
use Rattle.residual_cut.proofs.LabelLemmas.{labelled_step}
use Rattle.residual_cut.proofs.numbering.parts.Goals as goal

pub loop-i-preserved : goal.loop-i-preserved
loop-i-preserved c =
    let step = labelled_step c.args.rows.now (is_cut_at c.args.table.now) c.loop-i.part.items c.push.new.self.items c.loop-i.count
    c.loop-i.i c.next_part-next.result c.requires.forest (omega arith) c.loop-i.invariant.size c.in_ok-push.ensures.items
    c.next_part-next.ensures.new
    (λ fails. c.next_part-next.ensures.same fails
    ∙ ap (λ (xs : List ℕ). slice_index xs (parent_at c.args.rows.now c.loop-i.i)) c.deref.ensures.value)
    c.loop-i.invariant.labelled in
    let largest : c.max-count.result ≡ max c.loop-i.count (c.next_part-next.result + 1) = search rules in
    record {
      size = step.0;
      labelled = rw largest step.1;
      few = omega (arith, largest, step.2, c.loop-i.invariant.few);
    }

pub returns-clause-labelled : goal.returns-clause-labelled
returns-clause-labelled c =
    let last : c.loop-i.i ≡ length c.args.rows.now = omega arith in
    let P : ℕ → Type 0 = λ n. IsLabelled c.args.rows.now (is_cut_at c.args.table.now) (slice_index c.loop-i.part.items) c.loop-i.count n in
    subst P last c.loop-i.invariant.labelled
