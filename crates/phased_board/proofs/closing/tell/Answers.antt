use Rattle.std.proofs.Common.{◌<◌, ◌≤◌, length, add-one, arith, sym, subst, ◌≡◌, ◌+◌, ◌∙◌, ℕ, List, ap, take}
use Rattle.std.proofs.lemmas.List.{take_all}
use Rattle.std.specs.List.{count_by}
use Rattle.export_protocol.proofs.Lists.{take_next}
use Rattle.phased_board.specs.declared.outcome.Outcome.{Outcome}
use Rattle.phased_board.specs.declared.standing.Standing.{Standing}
use Rattle.phased_board.specs.Asked.{IsAsked, is_begun, ones}
use Rattle.phased_board.specs.Outcomes.{AreOutcomes, IsOutcome, is_started}
use Rattle.phased_board.proofs.Asking.{count_snoc, each_long, each_next}
use Rattle.phased_board.proofs.closing.tell.Goals as goal

same_sum : (a b x y : ℕ) → a ≡ b → x ≡ y → a + x ≡ b + y
same_sum a b x y e f = omega arith

pub loop-standing-preserved : goal.loop-standing-preserved
loop-standing-preserved c =
    let near : c.loop-standing.standing-index < length c.args.standings.now = omega arith in
    record {
      told = λ first now orders same all.
          rw (add-one, c.push_reserved.ensures.items)
          (each_next (IsAsked first now) (IsOutcome first now) orders c.args.standings.now c.loop-standing.standing-index
          c.standing-item.result c.outcome.result c.loop-standing.outcomes.items all near
          (λ order is. c.outcome.ensures.told first now order same (subst (λ s. IsAsked first now order s) (sym c.standing-item.is) is))
          (c.loop-standing.invariant.told first now orders same all));
      counted = ap (λ (xs : List Outcome). count_by is_started xs) c.push_reserved.ensures.items
          ∙ (count_snoc is_started c.loop-standing.outcomes.items c.outcome.result
          ∙ (same_sum _ _ _ _ c.loop-standing.invariant.counted (ap ones c.outcome.ensures.counted)
          ∙ (sym (count_snoc is_begun (take c.loop-standing.standing-index c.args.standings.now) c.standing-item.result)
          ∙ ap (λ (xs : List Standing). count_by is_begun xs)
          (sym (take_next c.args.standings.now c.loop-standing.standing-index c.standing-item.result near c.standing-item.is)))));
      count = omega arith;
      room = omega arith;
    }

pub returns-clause-told : goal.returns-clause-told
returns-clause-told c = λ first now orders same all.
    let long = each_long (IsAsked first now) orders c.args.standings.now all in
    let past : length orders ≤ c.loop-standing.standing-index = omega arith in
    subst (λ os. AreOutcomes first now os c.loop-standing.outcomes.items) (take_all c.loop-standing.standing-index orders past)
    (c.loop-standing.invariant.told first now orders same all)

pub returns-clause-counted : goal.returns-clause-counted
returns-clause-counted c =
    let past : length c.args.standings.now ≤ c.loop-standing.standing-index = omega arith in
    c.loop-standing.invariant.counted ∙ ap (λ (xs : List Standing). count_by is_begun xs) (take_all c.loop-standing.standing-index c.args.standings.now past)
