-- The least sum above the bound that a walk has seen: with any bound below it the walk would have gone the same way.
use Rattle.std.proofs.Common.{◌≡◌, ◌≢◌, ◌∙◌, ℕ, ◌+◌, ◌<◌, ◌≤◌, false, List, length, min, ap, sym, arith, ⊎_elim}
use Rattle.std.proofs.lemmas.Bool.{cases_eq, cases_lt, false_from_ne_true}
use Rattle.mds_types.specs.declared.problem.ProblemRow.{ProblemRow}
use Rattle.mds_types.specs.declared.cut_proof.Row.{Row}
use Rattle.mds_types.specs.Problem.{IsForest}
use Rattle.mds_types.specs.CutTable.{is_child, rest_at, price_at, is_cut_at}
use Rattle.residual_cut.specs.Probing.{IsSeen}
use Rattle.residual_cut.specs.Walk.{IsGivenRow, IsWalked}
use Rattle.residual_cut.proofs.WalkLemmas.{child_above, child_parent, one_parent}

-- only row i's rest and price have changed, and whether its children are cut
pub record IsSameBut (rows : List ProblemRow) (old new : List Row) (i : ℕ) : Type 0 where
  pub rest : (v : ℕ) → v ≢ i → rest_at new v ≡ rest_at old v
  pub price : (v : ℕ) → v ≢ i → price_at new v ≡ price_at old v
  pub cut : (j : ℕ) → is_child rows i j ≡ false → is_cut_at new j ≡ is_cut_at old j

-- at first nothing is cut
pub seen_start :
    (rows : List ProblemRow) (table : List Row) (bound above : ℕ) → IsForest rows
    → IsWalked rows table bound (length rows) (length rows) → IsSeen rows table above
seen_start rows table bound above forest is = record {
  full = λ v j l child cut.
      (let free = is.walk.uncut j l (omega (arith, child_parent rows v j child, child_above rows forest v j l child)) in
      absurd (cc (free, cut)));
}

-- row i was cut from
pub seen_cut :
    (rows : List ProblemRow) (table table2 : List Row) (i above sum count : ℕ) → IsSameBut rows table table2 i
    → (0 < count → sum ≡ rest_at table2 i + price_at table2 i) → (count ≡ 0 → table2 ≡ table)
    → IsSeen rows table above → IsSeen rows table2 (min above sum)
seen_cut rows table table2 i above sum count same some none old = record {
  full = λ v j l child cut.
      ⊎_elim
      (λ (more : 0 < count).
      ⊎_elim
      (λ (here : v ≡ i). rw here (omega (arith, some more)))
      (λ (other : v ≢ i).
      let apart = false_from_ne_true (is_child rows i j) (λ is. other (one_parent rows v i j child is)) in
      omega (arith, old.full v j l child (sym (same.cut j apart) ∙ cut), same.rest v other, same.price v other))
      (cases_eq v i))
      (λ (zero_is : count ≤ 0).
      let unchanged = none (omega arith) in
      let was = old.full v j l child (ap (λ t. is_cut_at t j) (sym unchanged) ∙ cut) in
      rw unchanged (omega (arith, was)))
      (cases_lt 0 count);
}

-- row i has given what is left of it to its parent
pub seen_given :
    (rows : List ProblemRow) (table table2 : List Row) (parent i above : ℕ) → IsGivenRow table table2 parent i
    → IsSeen rows table above → IsSeen rows table2 above
seen_given rows table table2 parent i above given old = record {
  full = λ v j l child cut.
      (let cut_before : is_cut_at table2 j ≡ is_cut_at table j =
      ⊎_elim (λ (same : j ≡ parent). rw same (ap (λ (row : Row). row.cut) given.here))
      (λ (other : j ≢ parent). ap (λ (row : Row). row.cut) (given.other j other))
      (cases_eq j parent) in
      let was = old.full v j l child (sym cut_before ∙ cut) in
      ⊎_elim
      (λ (same : v ≡ parent).
      let was_here = rw same at was in
      rw same (omega (arith, was_here, ap (λ (row : Row). row.rest) given.here, ap (λ (row : Row). row.price) given.here)))
      (λ (other : v ≢ parent).
      omega (arith, was, ap (λ (row : Row). row.rest) (given.other v other), ap (λ (row : Row). row.price) (given.other v other)))
      (cases_eq v parent));
}

-- the walk is one for each bound below
pub walk_raise :
    (rows : List ProblemRow) (table : List Row) (bound bound2 above m s : ℕ) → bound ≤ bound2 → bound2 < above
    → IsSeen rows table above → IsWalked rows table bound m s → IsWalked rows table bound2 m s
walk_raise rows table bound bound2 above m s le less seen is = record {
  size = is.size;
  walk = record {
    rest_is = is.walk.rest_is;
    cuts_is = is.walk.cuts_is;
    kept = is.walk.kept;
    taken = is.walk.taken;
    full = λ v j l child cut. omega (arith, seen.full v j l child cut);
    top = is.walk.top;
    uncut = is.walk.uncut;
    within = λ v le_v l. omega (arith, is.walk.within v le_v l);
    counted = is.walk.counted;
    gathered = is.walk.gathered;
  };
}
