use Rattle.std.proofs.Common.{rules, ◌≡◌, ◌+◌, ◌/◌, ◌<◌, ◌∙◌, ℕ, List, ap, arith, cond, length, length-set, min, replicate, slice_index, subst, sym}
use Rattle.std.proofs.Math.Nat.{min_comm}
use Rattle.std.proofs.lemmas.List.{get_or-replicate, get_or_read}
use Rattle.ceph_snapshot.specs.declared.tree.Node.{Node}
use Rattle.ceph_snapshot.specs.declared.tree.Sighting.{Sighting}
use Rattle.ceph_snapshot.specs.Authority.{is_torn_at}
use Rattle.ceph_snapshot.specs.Holding.{most_heat}
use Rattle.ceph_snapshot.proofs.ByPath.{spread_more}
use Rattle.ceph_snapshot.proofs.snapshot.spread_heats.Goals as goal

pub loop-seen-init : goal.loop-seen-init
loop-seen-init c =
    let zeros : c.in_ok-spread.spread.items ≡ replicate c.from.result 0 = c.in_ok-spread.ensures.items_if_clones_equal (λ y is. is) in
    record {
      size = search rules;
      heats = λ rank l. ap (λ (xs : List ℕ). slice_index xs rank) zeros
          ∙ get_or-replicate c.from.result rank 0 0 (subst (λ (n : ℕ). rank < n) (sym c.from.ensures) l);
    }

pub loop-seen-preserved : goal.loop-seen-preserved
loop-seen-preserved c =
    let nodes : List Node = c.args.nodes.now in
    let ss : List Sighting = c.args.sightings.now in
    let s : Sighting = c.seen-item.result in
    let at : ℕ = c.loop-seen.seen-index in
    let spread : List ℕ = c.loop-seen.spread.items in
    let rank : ℕ = c.from-at.result in
    let sum : ℕ = c.saturating_add.result in
    let samples : ℕ = c.args.samples in
    let inside : at < length ss = omega (arith, c.loop-seen-test.true) in
    let rank_is : rank ≡ s.rank = c.from-at.ensures ∙ c.number.ensures.value in
    let small : rank < 64 = subst (λ (n : ℕ). n < 64) (sym c.from-at.ensures) c.number.ensures.small in
    let had : c.index.result.now ≡ slice_index spread rank =
    get_or_read spread rank c.index.result.now (subst (λ (n : ℕ). rank < n) (sym c.loop-seen.invariant.size) small) c.index.ensures 0 in
    let added : sum ≡ min most_heat (slice_index spread rank + cond (is_torn_at nodes s.directory) s.heat 0 / samples) =
    c.saturating_add.ensures
    ∙ (min_comm _ _ ∙ (ap (λ (k : ℕ). min most_heat (k + c.heat_if_torn.result / samples)) had
    ∙ ap (λ (h : ℕ). min most_heat (slice_index spread rank + h / samples)) c.heat_if_torn.ensures)) in
    record {
      size = length-set spread rank sum ∙ c.loop-seen.invariant.size;
      heats = spread_more nodes samples ss at s spread rank sum c.loop-seen.invariant.size inside (sym c.seen-item.is) rank_is small added
          c.loop-seen.invariant.heats;
    }
