use Rattle.std.proofs.Common.{◌≡◌, ◌∙◌, ℕ, length, inr, arith, subst, ap, List, replicate, slice_index}
use Rattle.std.proofs.lemmas.List.{get_or-replicate, get_or_default, length-replicate}
use Rattle.mds_types.specs.Problem.{no_row}
use Rattle.mds_types.specs.declared.problem.ProblemRow.{ProblemRow}
use Rattle.planner.specs.Present.{AreRanksNow, IsPartOf}
use Rattle.planner.proofs.PresentLemmas.{added, fewer, none_now}
use Rattle.planner.proofs.present.ranks_now.Goals as goal

pub loop-row-init : goal.loop-row-init
loop-row-init c =
    let is : c.in_ok-numbers.numbers.items ≡ replicate 64 4294967295 = c.in_ok-numbers.ensures.items_if_clones_equal (λ y same. same) in
    record {
      are = rw (c.in_ok-with_capacity.ensures.items, c.new.ensures.items) (none_now c.args.rows.now);
      few = rw c.new.ensures.items (omega arith);
      numbered = λ r l. inr (
        ap (λ (numbers : List ℕ). slice_index numbers r) is ∙ get_or-replicate 64 r 4294967295 0 l,
        rw c.new.ensures.items (λ p lp. absurd (omega (arith, lp))),
      );
      size = ap length is ∙ length-replicate {A = ℕ} 64 4294967295;
    }

pub loop-row-preserved : goal.loop-row-preserved
loop-row-preserved c =
    record {
      are = rw c.in_ok-push.ensures.items (added c.args.rows.now c.loop-row.row-index c.loop-row.found.part.items
          c.loop-row.found.rank.items c.part_of.new.rank.items c.in_ok-part.part c.loop-row.invariant.are
          (subst (λ now. IsPartOf c.loop-row.found.rank.items c.part_of.new.rank.items now c.in_ok-part.part)
          (ap (λ (row : ProblemRow). row.now) (c.row-item.is ∙ get_or_default c.args.rows.now c.loop-row.row-index c.row-item.result no_row (omega arith)))
          c.in_ok-part.ensures.part));
      few = (let more = fewer c.loop-row.found.rank.items c.part_of.new.rank.items c.row-item.result.now c.in_ok-part.part c.in_ok-part.ensures.part in
          omega (arith, more, c.loop-row.invariant.few));
      numbered = c.in_ok-part.ensures.numbered;
      size = c.in_ok-part.ensures.size;
    }

pub returns-clause-now : goal.returns-clause-now
returns-clause-now c = subst (λ n. AreRanksNow c.args.rows.now n c.loop-row.found.part.items c.loop-row.found.rank.items) (omega arith) c.loop-row.invariant.are
