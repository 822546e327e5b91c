use Rattle.std.proofs.Common.{◌∙◌, ℕ, List, ap, arith, inr, length, slice_index}
use Rattle.ceph_plan.specs.declared.hours.Hour.{Hour}
use Rattle.ceph_plan.specs.Balance.{load_of_parts}
use Rattle.ceph_plan.specs.Packing.{greatest_of, load}
use Rattle.ceph_plan.proofs.Bounds.{greatest-same}
use Rattle.ceph_plan.proofs.rank_choice.evened.Goals as goal

pub returns-then-greatest-packed-clause-greatest :
    goal.returns-then-greatest-packed-clause-greatest
returns-then-greatest-packed-clause-greatest c =
    let hours : List Hour = c.args.parts.now.hours.now in
    let heats : List ℕ = c.args.parts.now.heats.now in
    c.most-greatest.ensures
    ∙ (ap (λ (xs : List ℕ). greatest_of c.args.parts.now.ranks (slice_index xs)) c.deref-3.ensures.value
    ∙ greatest-same c.args.parts.now.ranks (slice_index c.in_ok-loads.loads.items) (load_of_parts hours heats c.in_ok-rank.rank.items)
    (λ r l. c.in_ok-loads.ensures.loads r l
    ∙ (ap (λ (xs : List ℕ). load hours (length xs) (slice_index xs) r) c.deref-2.ensures.value
    ∙ ap (λ (n : ℕ). load hours n (slice_index c.in_ok-rank.rank.items) r) c.in_ok-rank.ensures.size)))

pub returns-then-greatest-packed-clause-evened : goal.returns-then-greatest-packed-clause-evened
returns-then-greatest-packed-clause-evened c = record {
  ranks_are = c.in_ok-rank.ensures;
  cooler = inr (omega (arith, returns-then-greatest-packed-clause-greatest c, c.if-greatest-packed.true, c.requires.greatest));
  left = λ le. absurd (omega (arith, le, c.if-packed-enough.false, c.requires.greatest));
}
