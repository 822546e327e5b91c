-- Lists of hours, with one more, and what they count.
use Rattle.std.proofs.Common.{◌≡◌, ◌≢◌, ◌∙◌, ◌+◌, ◌<◌, ◌≤◌, ◌++◌, ◌∷◌, ◌^◌, [], ℕ, zero}
use Rattle.std.proofs.Common.{suc, List, Option, Some, ap, arith, length, refl, slice_index, subst, sym, ⊎_elim}
use Rattle.std.specs.List.{slice_get}
use Rattle.std.specs.Option.{option_map_or}
use Rattle.std.proofs.lemmas.Bool.{cases_eq}
use Rattle.mds_types.proofs.SumsLemmas.{sum_below-term}
use Rattle.residual_cut.proofs.LabelLemmas.{slice_index-last, slice_index-push}
use Rattle.ceph_plan.specs.declared.hours.Hour.{Hour}
use Rattle.ceph_plan.specs.Packing.{AreHours, heat_in, heats_in, pinned_in}
use Rattle.ceph_plan.specs.Shares.{CountFor}
use Rattle.ceph_plan.proofs.Weighed.{get_last}

-- what holds of each number of a list holds with one more
pub more-numbers : (P : ℕ → ℕ → Type 0) (xs more : List ℕ) (n x : ℕ) → length xs ≡ n → more ≡ xs ++ x ∷ [] → P n x → ((k : ℕ) → k < n → P k (slice_index xs k))
    → (k : ℕ) → k < n + 1 → P k (slice_index more k)
more-numbers P xs more n x size is last before k l =
    ⊎_elim (λ (same : k ≡ n).
    subst (λ (j : ℕ). P j (slice_index more j)) (sym same)
    (subst (P n) (sym (ap (λ (ys : List ℕ). slice_index ys n) is ∙ (ap (slice_index (xs ++ x ∷ [])) (sym size) ∙ slice_index-last xs x))) last))
    (λ (other : k ≢ n).
    let low : k < n = omega (arith, l, other) in
    subst (P k) (sym (ap (λ (ys : List ℕ). slice_index ys k) is ∙ slice_index-push xs x k (omega (arith, low, size)))) (before k low))
    (cases_eq k n)

kept : (xs : List Hour) (x : Hour) (k : ℕ) → k < length xs → slice_get (xs ++ x ∷ []) k ≡ slice_get xs k
kept [] x k l = absurd (omega (arith, l))
kept (y ∷ xs) x zero l = refl
kept (y ∷ xs) x (suc k) l = kept xs x k (omega (arith, l))

-- and so of each hour
pub more-hours : (P : ℕ → Option Hour → Type 0) (xs more : List Hour) (n : ℕ) (x : Hour) → length xs ≡ n → more ≡ xs ++ x ∷ [] → P n (Some x)
    → ((k : ℕ) → k < n → P k (slice_get xs k)) → (k : ℕ) → k < n + 1 → P k (slice_get more k)
more-hours P xs more n x size is last before k l =
    ⊎_elim (λ (same : k ≡ n).
    subst (λ (j : ℕ). P j (slice_get more j)) (sym same)
    (subst (P n) (sym (ap (λ (ys : List Hour). slice_get ys n) is ∙ (ap (slice_get (xs ++ x ∷ [])) (sym size) ∙ get_last xs x))) last))
    (λ (other : k ≢ n).
    let low : k < n = omega (arith, l, other) in
    subst (P k) (sym (ap (λ (ys : List Hour). slice_get ys k) is ∙ kept xs x k (omega (arith, low, size)))) (before k low))
    (cases_eq k n)

pub heats-there : (hours : List Hour) (h : ℕ) (hour : Hour) → slice_get hours h ≡ Some hour → heats_in hours h ≡ hour.heats.items
heats-there hours h hour there = ap (λ (o : Option Hour). option_map_or (λ (one : Hour). one.heats.items) o []) there

pub pinned-there : (hours : List Hour) (h : ℕ) (hour : Hour) → slice_get hours h ≡ Some hour → pinned_in hours h ≡ hour.pinned.items
pinned-there hours h hour there = ap (λ (o : Option Hour). option_map_or (λ (one : Hour). one.pinned.items) o []) there

-- what a heat counts is not too much
pub small-share : (hours shares : List Hour) (n count bound weight h i : ℕ) → AreHours hours n → h < length hours
    → CountFor count bound weight (heats_in hours h) (heats_in shares h)
    → i < n → heat_in shares h i ≤ 2 ^ 57
small-share hours shares n count bound weight h i are l counts inside =
    omega (arith, counts.each i (omega (arith, inside, are.size h l)), sum_below-term n i (heat_in hours h) inside, are.total h l)
