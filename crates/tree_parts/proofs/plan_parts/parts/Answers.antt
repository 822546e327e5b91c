use Rattle.std.proofs.Common.{◌≡◌, ◌<◌, ◌∙◌, ℕ, List, refl, ap, sym, arith, length, Bool, true, false, get_or}
use Rattle.std.specs.Prelude.{slice_index}
use Rattle.mds_types.specs.declared.plan.Plan.{Plan}
use Rattle.mds_types.specs.declared.problem.ProblemRow.{ProblemRow}
use Rattle.mds_types.specs.Certificate.{plan_label, plan_rank}
use Rattle.tree_parts.specs.PlanParts.{is_part_top, nothing, part_of_top, total_of}
use Rattle.tree_parts.proofs.PartsSoFar.{part_made, read}
use Rattle.tree_parts.proofs.RowsSoFar.{map_one, map_same}
use Rattle.tree_parts.proofs.plan_parts.parts.Goals as goal
use Rattle.tree_parts.proofs.plan_parts.parts.Goals.{then-is_top+in_ok-push, else-is_top}

pub loop-i-preserved : goal.loop-i-preserved
loop-i-preserved c =
    let rows : List ProblemRow = c.args.problem.now.rows in
    let dirs : List ℕ = c.args.dirs.now in
    let plan : Plan = c.args.plan.now in
    let seen_part : c.as_slice-part.result.now ≡ plan.part = c.as_slice-part.ensures.value ∙ ap (λ (p : Plan). p.part) c.plan.view_is in
    let seen_rank : c.as_slice-rank.result.now ≡ plan.rank = c.as_slice-rank.ensures.value ∙ ap (λ (p : Plan). p.rank) c.plan.view_is in
    let n : ℕ = c.loop-i.i in
    let test : ℕ → Bool = is_part_top rows (plan_label plan) in
    let top : c.is_top.result ≡ test n = c.is_top.ensures ∙ (rw (c.rows-rows.ensures.value, seen_part) refl) in
    elim c.if-is_top.branch [
      | then-is_top+in_ok-push w ↦
          let is : test n ≡ true = sym top ∙ w.if-is_top.true in
          let inside : n < length rows = omega (arith, c.loop-i-test.true, ap length c.rows-rows.ensures.value) in
          let label : slice_index c.as_slice-part.result.now n ≡ plan_label plan n = ap (λ (xs : List ℕ). slice_index xs n) seen_part in
          let within : plan_label plan n < length plan.rank = c.requires.labels n inside in
          let place : plan_label plan n < length c.in_ok-totals.totals.items = omega (arith, within, c.in_ok-totals.ensures.size, ap length seen_rank) in
          let top_is : w.index-dirs-i.result ≡ slice_index dirs n =
          read dirs n w.index-dirs-i.result 0 (omega (arith, inside, c.requires.dirs)) w.index-dirs-i.is in
          let rank_is : w.index-rank-label.result ≡ plan_rank plan (plan_label plan n) =
          read plan.rank (plan_label plan n) w.index-rank-label.result 0 within (rw (seen_rank, label) at w.index-rank-label.is) in
          let seen : w.index-total.result.now ≡ get_or c.in_ok-totals.totals.items (plan_label plan n) nothing =
          read c.in_ok-totals.totals.items (plan_label plan n) w.index-total.result.now nothing place
          (rw label at w.index-total.ensures) in
          let counted : get_or c.in_ok-totals.totals.items (plan_label plan n) nothing
          ≡ total_of rows (plan_label plan) (length rows) (plan_label plan n) =
          rw (c.rows-rows.ensures.value, seen_part) at
          (c.in_ok-totals.ensures.totals (plan_label plan n) (omega (arith, within, ap length seen_rank))) in
          let part_is : record {
            top = w.index-dirs-i.result;
            rank = w.index-rank-label.result;
            heat = w.index-total.result.now.heat;
            inodes = w.index-total.result.now.inodes;
          } ≡ part_of_top rows dirs plan n =
          part_made rows dirs plan n w.index-dirs-i.result w.index-rank-label.result w.index-total.result.now top_is rank_is
          (seen ∙ counted) in
          rw (w.parts-is, w.in_ok-push.ensures.items, c.loop-i.invariant, part_is) (sym (map_one (part_of_top rows dirs plan) test n is))
      | else-is_top w ↦
          let is : test n ≡ false = sym top ∙ w.if-is_top.false in
          rw (w.parts-is, c.loop-i.invariant) (sym (map_same (part_of_top rows dirs plan) test n is))
    ]

pub returns : goal.returns
returns c =
    let last : c.loop-i.i ≡ length c.args.problem.now.rows = omega (arith, c.loop-i-test.false, c.loop-i.auto.i-end, ap length c.rows-rows.ensures.value) in
    rw last at c.loop-i.invariant
