-- Why no pin can be left out.
use Rattle.std.proofs.Common.{◌≡◌, ◌≢◌, ℕ, ◌<◌, ◌≤◌, List, length, false, Option, Some, None, refl, ap, sym, ◌∙◌, arith, ⊎_elim, inl, inr}
use Rattle.std.proofs.lemmas.Bool.{cases_eq, eqb-false, eq-eqb, ne_eqb}
use Rattle.ceph_plan.specs.declared.row.PinRow.{PinRow}
use Rattle.ceph_plan.specs.Rule.{AreRows, IsAt, IsChoice, IsFree, IsNearest, IsOurs, IsRealized}
use Rattle.ceph_plan.specs.Rule.{IsSettled, climb, foreign_at, parent_at, rest_at, target_at, without}
use Rattle.ceph_plan.specs.Holds.{rests_at}
use Rattle.ceph_plan.proofs.Climbs.{climb-le, climb-root, free_above, free_below, nearest_above, nearest_once, not_free, same_some, some_none}
use Rattle.ceph_plan.proofs.Held.{IsForced}

rests_not : (o : Option ℕ) (t : ℕ) → o ≡ Some t → rests_at o t ≡ false → ⊥
rests_not None t e f = some_none None t e refl
rests_not (Some r) t e f = eqb-false r t f (same_some (Some r) r t refl e)

-- what each row above i has without the pin of row i
without_here : (i : ℕ) (own : ℕ → Option ℕ) → without i own i ≡ None
without_here i own = rw (eq-eqb i i refl) refl

without_above : (rows : List PinRow) (own : ℕ → Option ℕ) (i n : ℕ) → AreRows rows → 0 < i → i < length rows
    → without i own (climb rows n (parent_at rows i)) ≡ own (climb rows n (parent_at rows i))
without_above rows own i n are some l =
    let up : parent_at rows i < i = are.above i some l in
    let climbed : climb rows n (parent_at rows i) ≤ parent_at rows i = climb-le rows n (parent_at rows i) are (omega (arith, up, l)) in
    rw (ne_eqb (climb rows n (parent_at rows i)) i (λ same. omega (arith, same, up, climbed))) refl

near_without : (rows : List PinRow) (own : ℕ → Option ℕ) (i r : ℕ) → AreRows rows → 0 < i → i < length rows
    → IsNearest rows (without i own) (parent_at rows i) r → IsNearest rows own (parent_at rows i) r
near_without rows own i r are some l near = record {
  steps = near.steps;
  pin = sym (without_above rows own i near.steps are some l) ∙ near.pin;
  nearer = λ n le. sym (without_above rows own i n are some l) ∙ near.nearer n le;
}

free_without : (rows : List PinRow) (own : ℕ → Option ℕ) (i : ℕ) → AreRows rows → 0 < i → i < length rows
    → IsFree rows (without i own) (parent_at rows i) → IsFree rows own (parent_at rows i)
free_without rows own i are some l free =
    record { none = λ n. sym (without_above rows own i n are some l) ∙ free.none n }

pub needed : (rows : List PinRow) (own : ℕ → Option ℕ) (i : ℕ) → AreRows rows → 0 < i → i < length rows → IsForced rows own i
    → IsAt rows (without i own) i (target_at rows i) → ⊥
needed rows own i are some l forced (inl near) =
    let above : IsNearest rows own (parent_at rows i) (target_at rows i) =
    near_without rows own i (target_at rows i) are some l (nearest_above rows (without i own) i (target_at rows i) (without_here i own) near) in
    elim forced.reason [
      | inl free ↦ not_free rows own (parent_at rows i) (target_at rows i) above free.0
      | inr other ↦ eqb-false (target_at rows i) (target_at rows (parent_at rows i)) other.1
          (nearest_once rows own (parent_at rows i) (target_at rows i) (target_at rows (parent_at rows i)) above other.0)
    ]
needed rows own i are some l forced (inr resting) =
    let above : IsFree rows own (parent_at rows i) = free_without rows own i are some l (free_above rows (without i own) i resting.0) in
    elim forced.reason [
      | inl free ↦ rests_not (rest_at rows i) (target_at rows i) resting.1 free.2
      | inr other ↦ not_free rows own (parent_at rows i) (target_at rows (parent_at rows i)) other.0 above
    ]

-- where a row has no pin of its own, and it and its parent are at their targets, the targets are the same
same_target : (rows : List PinRow) (other : ℕ → Option ℕ) (i : ℕ) → IsSettled rows → i < length rows → parent_at rows i < length rows
    → other i ≡ None → IsAt rows other i (target_at rows i) → IsAt rows other (parent_at rows i) (target_at rows (parent_at rows i))
    → target_at rows i ≡ target_at rows (parent_at rows i)
same_target rows other i settled l m none (inl near) (inl up) =
    nearest_once rows other (parent_at rows i) (target_at rows i) (target_at rows (parent_at rows i))
    (nearest_above rows other i (target_at rows i) none near) up
same_target rows other i settled l m none (inl near) (inr up) =
    absurd (not_free rows other (parent_at rows i) (target_at rows i) (nearest_above rows other i (target_at rows i) none near) up.0)
same_target rows other i settled l m none (inr resting) (inl up) =
    absurd (not_free rows other (parent_at rows i) (target_at rows (parent_at rows i)) up (free_above rows other i resting.0))
same_target rows other i settled l m none (inr resting) (inr up) =
    same_some (rest_at rows 0) (target_at rows i) (target_at rows (parent_at rows i))
    (settled.root i (target_at rows i) l resting.1)
    (settled.root (parent_at rows i) (target_at rows (parent_at rows i)) m up.1)

-- where no pin is at or above a row that is at its target, it rests there
free_rests : (rows : List PinRow) (other : ℕ → Option ℕ) (i t : ℕ) → IsFree rows other i → IsAt rows other i t → rest_at rows i ≡ Some t
free_rests rows other i t free (inl near) = absurd (not_free rows other i t near free)
free_rests rows other i t free (inr resting) = resting.1

pub least : (rows : List PinRow) (own other : ℕ → Option ℕ) (i : ℕ) → AreRows rows → IsSettled rows → IsChoice rows other
    → IsRealized rows other → 0 < i → IsOurs rows i → IsForced rows own i → other i ≡ None → ⊥
least rows own other i are settled choice real some ours forced none =
    let up : parent_at rows i < i = are.above i some ours.inside in
    let parent : IsOurs rows (parent_at rows i) = record { inside = omega (arith, up, ours.inside); free = free_above rows (foreign_at rows) i ours.free } in
    let same : target_at rows i ≡ target_at rows (parent_at rows i) =
    same_target rows other i settled ours.inside parent.inside none (real i ours) (real (parent_at rows i) parent) in
    elim forced.reason [
      | inl free ↦
          ⊎_elim (λ (root : parent_at rows i ≡ 0).
          let above : IsFree rows other (parent_at rows i) =
          record { none = λ n. ap (λ (k : ℕ). other (climb rows n k)) root ∙ (ap other (climb-root rows n are) ∙ choice.root) } in
          rests_not (rest_at rows i) (target_at rows i) (free_rests rows other i (target_at rows i) (free_below rows other i none above) (real i ours)) free.2)
          (λ (below : parent_at rows i ≢ 0).
          rests_not (rest_at rows i) (target_at rows i)
          (settled.same i (parent_at rows i) some (omega (arith, below)) ours.inside parent.inside ∙ (free.1 ∙ ap (λ (t : ℕ). Some t) (sym same))) free.2)
          (cases_eq (parent_at rows i) 0)
      | inr other ↦ eqb-false (target_at rows i) (target_at rows (parent_at rows i)) other.1 same
    ]
