use Rattle.std.proofs.Common.{◌≡◌, ◌<◌, ◌≤◌, ◌+◌, ◌∙◌, ◌||◌, ◌∷◌, ◌++◌, ℕ, Bool, false, List, [], ap, arith, max, refl, subst, sym}
use Rattle.mds_types.specs.declared.problem.ProblemRow.{ProblemRow}
use Rattle.mds_types.specs.RankSet.{rank_count}
use Rattle.ceph_plan.specs.declared.hours.Hour.{Hour}
use Rattle.ceph_plan.specs.declared.plan.PackedDivision.{PackedDivision}
use Rattle.ceph_plan.specs.declared.plan.Size.{Size}
use Rattle.ceph_plan.proofs.Bounds.{count-positive}
use Rattle.ceph_plan.specs.Choice.{IsTriedCount}
use Rattle.ceph_plan.proofs.Weighed.{IsSoFar, at-last, later-count, more-so_far, none-so_far, some_weighed, tried_now, weighed_fewer}
use Rattle.ceph_plan.proofs.choice.weighed.Goals as goal

pub loop-parts-init : goal.loop-parts-init
loop-parts-init c =
    let count : c.from-count.result ≡ rank_count c.args.of.now.ranks = c.from-count.ensures ∙ c.len.ensures.count in
    record {
      weighed = subst (λ (n : ℕ). IsSoFar c.args.of.now.ranks c.args.of.now.hours.now c.args.of.now.rows.now c.new-divisions.result.items false n) (sym count)
          (subst (λ (plans : List PackedDivision). IsSoFar c.args.of.now.ranks c.args.of.now.hours.now c.args.of.now.rows.now plans false
          (rank_count c.args.of.now.ranks)) (sym c.new-divisions.ensures.items)
          (none-so_far c.args.of.now.ranks c.args.of.now.hours.now c.args.of.now.rows.now));
      from = omega (arith, count);
      ended = λ past. let none : ⊥ = omega (arith, past, c.max-last.ensures) in absurd none;
    }

pub size_for-size-requires : goal.size_for-size-requires
size_for-size-requires c = omega (arith, c.loop-parts.invariant.from, count-positive c.args.of.now.ranks c.args.of.now.able.zero)

pub divide-requires-clause-parts : goal.divide-requires-clause-parts
divide-requires-clause-parts c =
    let same : c.size_for-size.result.parts ≡ c.loop-parts.parts = ap (λ (size : Size). size.parts) c.size_for-size.ensures in
    omega (arith, same, c.loop-parts.invariant.from, count-positive c.args.of.now.ranks c.args.of.now.able.zero)

pub loop-parts-preserved : goal.loop-parts-preserved
loop-parts-preserved c =
    let ranks : ℕ = c.args.of.now.ranks in
    let hours : List Hour = c.args.of.now.hours.now in
    let rows : List ProblemRow = c.args.of.now.rows.now in
    let heavy : Bool = c.loop-parts.is_heavy || c.in_ok-divided.divided.is_heavy in
    record {
      weighed = subst (λ (plans : List PackedDivision). IsSoFar ranks hours rows plans heavy c.next_count-parts.result) (sym c.in_ok-push.ensures.items)
          (more-so_far ranks hours rows c.loop-parts.divisions.items c.loop-parts.is_heavy heavy c.loop-parts.parts
          c.next_count-parts.result c.total_heat-heat.result
          c.size_for-size.result c.in_ok-divided.divided c.total_heat-heat.ensures.total c.size_for-size.ensures
          c.in_ok-divided.ensures.divided (c.next_count-parts.ensures.more, c.next_count-parts.ensures.near) refl
          c.loop-parts.invariant.weighed);
      from = later-count (rank_count ranks) c.loop-parts.parts c.next_count-parts.result c.loop-parts.invariant.from c.next_count-parts.ensures.more;
      ended = λ past.
          let same : c.loop-parts.parts ≡ c.max-last.result =
          at-last c.loop-parts.parts c.max-last.result c.next_count-parts.result c.loop-parts-test.true c.next_count-parts.ensures.last past in
          subst (λ (plans : List PackedDivision). IsTriedCount ranks hours rows plans c.max-last.result) (sym c.in_ok-push.ensures.items)
          (subst (λ (n : ℕ). IsTriedCount ranks hours rows (c.loop-parts.divisions.items ++ c.in_ok-divided.divided ∷ []) n) same
          (tried_now ranks hours rows c.loop-parts.divisions.items c.loop-parts.is_heavy c.loop-parts.parts c.total_heat-heat.result
          c.size_for-size.result c.in_ok-divided.divided
          c.total_heat-heat.ensures.total c.size_for-size.ensures c.in_ok-divided.ensures.divided c.loop-parts.invariant.weighed.flag));
    }

last_is : (most count last from parts ranks : ℕ) → from ≡ most → count ≡ ranks → last ≡ max from count → last < parts → max most ranks + 1 ≤ parts
last_is most count last from parts ranks from_is count_is is past = omega (arith, from_is, count_is, is, past)

pub returns-clause-weighed : goal.returns-clause-weighed
returns-clause-weighed c =
    weighed_fewer c.args.of.now.ranks c.args.of.now.hours.now c.args.of.now.rows.now c.loop-parts.divisions.items c.loop-parts.parts
    (max c.args.most (rank_count c.args.of.now.ranks) + 1)
    (last_is c.args.most c.from-count.result c.max-last.result c.from.result c.loop-parts.parts (rank_count c.args.of.now.ranks)
    c.from.ensures (c.from-count.ensures ∙ c.len.ensures.count)
    c.max-last.ensures c.loop-parts-test.false)
    c.loop-parts.invariant.weighed.weighed

pub returns-clause-some : goal.returns-clause-some
returns-clause-some c =
    let past : max c.args.most (rank_count c.args.of.now.ranks) + 1 ≤ c.loop-parts.parts =
    last_is c.args.most c.from-count.result c.max-last.result c.from.result c.loop-parts.parts (rank_count c.args.of.now.ranks)
    c.from.ensures (c.from-count.ensures ∙ c.len.ensures.count)
    c.max-last.ensures c.loop-parts-test.false in
    some_weighed c.args.of.now.ranks c.args.of.now.hours.now c.args.of.now.rows.now c.loop-parts.divisions.items c.loop-parts.parts
    (omega (arith, past)) c.loop-parts.invariant.weighed.weighed

pub returns-clause-last : goal.returns-clause-last
returns-clause-last c =
    let ranks : ℕ = c.args.of.now.ranks in
    let last : c.max-last.result ≡ max c.args.most (rank_count ranks) =
    greatest_is c.args.most c.from-count.result c.max-last.result c.from.result (rank_count ranks) c.from.ensures
    (c.from-count.ensures ∙ c.len.ensures.count) c.max-last.ensures in
    subst (λ (n : ℕ). IsTriedCount ranks c.args.of.now.hours.now c.args.of.now.rows.now c.loop-parts.divisions.items n) last
    (c.loop-parts.invariant.ended c.loop-parts-test.false)
  where
    greatest_is : (most count last from ranks : ℕ) → from ≡ most → count ≡ ranks → last ≡ max from count → last ≡ max most ranks
    greatest_is most count last from ranks from_is count_is is = omega (arith, from_is, count_is, is)
