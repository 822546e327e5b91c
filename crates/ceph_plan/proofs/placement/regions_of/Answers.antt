use Rattle.std.proofs.Common.{◌≡◌, ◌≢◌, ◌<◌, ◌∙◌, ◌⊎◌, ◌++◌, ◌∷◌, [], ℕ, List, ap, arith, inl, inr, length, refl, slice_index, subst, sym}
use Rattle.std.proofs.lemmas.List.{get_or_read}
use Rattle.mds_types.specs.Problem.{parent_at}
use Rattle.ceph_plan.specs.Placements.{AreRegions}
use Rattle.ceph_plan.proofs.Regions.{region-step}
use Rattle.ceph_plan.proofs.placement.regions_of.Goals as goal
use Rattle.ceph_plan.proofs.placement.regions_of.Goals.{then-next-count+in_ok-push-2, else-next-count}

pub loop-i-preserved : goal.loop-i-preserved
loop-i-preserved c =
    let rank : List ℕ = c.loop-i.rank.items in
    let i : ℕ = c.loop-i.i in
    let next : ℕ = c.next_region-next.result in
    let rank2 : List ℕ = c.if-next-count.rank.items in
    let count : c.len-count.result ≡ length rank = omega (arith, c.len-count.ensures, c.loop-i.rank.ok.0) in
    let inside : i < length c.args.goals.now = omega (arith, c.requires.size, c.loop-i-test.true) in
    let how : ((next ≡ length rank) × (rank2 ≡ rank ++ slice_index c.args.goals.now i ∷ [])) ⊎ ((next ≢ length rank) × (rank2 ≡ rank)) =
    elim c.if-next-count.branch [
      | then-next-count+in_ok-push-2 w ↦ inl (
        omega (arith, w.if-next-count.true, count),
        rw w.rank-is (w.in_ok-push-2.ensures.items ∙ ap (λ (x : ℕ). rank ++ x ∷ [])
            (get_or_read c.args.goals.now i w.index-goals-i.result inside w.index-goals-i.is 0)),
      )
      | else-next-count w ↦ inr (λ same. absurd (w.if-next-count.false (same ∙ sym count)), rw w.rank-is refl)
    ] in
    region-step c.args.rows.now c.args.goals.now c.loop-i.part.items c.push.new.self.items rank rank2 i next c.requires.forest
    c.loop-i-test.true c.in_ok-push.ensures.items
    (λ is. c.next_region-next.ensures.new is ∙ count)
    (λ is. c.next_region-next.ensures.same is ∙ ap (λ (xs : List ℕ). slice_index xs (parent_at c.args.rows.now i)) c.deref.ensures.value)
    how c.loop-i.invariant

pub returns : goal.returns
returns c =
    let last : c.loop-i.i ≡ length c.args.rows.now = omega (arith, c.loop-i-test.false, c.loop-i.auto.i-end) in
    subst (λ (n : ℕ). AreRegions c.args.rows.now c.args.goals.now n c.loop-i.part.items c.loop-i.rank.items) last c.loop-i.invariant
