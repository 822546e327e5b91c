-- One child is cut from a row, or all are.
use Rattle.std.proofs.Common.{◌≡◌, ◌≢◌, ◌∙◌, ℕ, ◌+◌, ◌-◌, ◌<◌, ◌≤◌, ◌^◌, true, false, cond, List, length, slice_index_or, refl, ap, sym, arith, ⊎_elim}
use Rattle.std.proofs.lemmas.Bool.{cases_Bool, cases_eq, false≢true}
use Rattle.mds_types.specs.declared.problem.ProblemRow.{ProblemRow}
use Rattle.mds_types.specs.declared.cut_proof.Row.{Row}
use Rattle.mds_types.specs.Problem.{IsForest, heat_at}
use Rattle.mds_types.specs.Sums.{count_below}
use Rattle.mds_types.specs.CutTable.{is_child, cuts_at, rest_at, price_at, is_cut_at, no_cut}
use Rattle.mds_types.proofs.SumsLemmas.{sum_below-term, sum_below-zero, count_below-le}
use Rattle.residual_cut.specs.declared.child.Child.{Child}
use Rattle.residual_cut.specs.Walk.{is_handled, IsWalked}
use Rattle.residual_cut.proofs.HeapLemmas.{IsPopped}
use Rattle.residual_cut.proofs.SeenLemmas.{IsSameBut}
use Rattle.residual_cut.proofs.TableLemmas.{heats_le}
use Rattle.residual_cut.proofs.WalkLemmas.{IsCutAt, child_above, handled_from, handled_parts, cut_child, one_more_cut}

-- rows before i may now be cut from
pub IsWalked-less :
    (rows : List ProblemRow) (table : List Row) (bound m s t : ℕ) → t ≤ s → IsWalked rows table bound m s
    → IsWalked rows table bound m t
IsWalked-less rows table bound m s t le is = record {
  size = is.size;
  walk = record {
    rest_is = is.walk.rest_is;
    cuts_is = is.walk.cuts_is;
    kept = is.walk.kept;
    taken = is.walk.taken;
    full = is.walk.full;
    top = is.walk.top;
    uncut = λ j l before. is.walk.uncut j l (omega arith);
    within = is.walk.within;
    counted = is.walk.counted;
    gathered = is.walk.gathered;
  };
}

-- the cuts below a row are no more than the rows
pub few_cuts :
    (rows : List ProblemRow) (table : List Row) (bound m s v : ℕ) → v < m → IsWalked rows table bound m s
    → cuts_at table v ≤ length rows
few_cuts rows table bound m s v l is =
    omega (arith, sum_below-term m v (cuts_at table) l, is.walk.counted, count_below-le (length rows) (is_cut_at table))

-- what is left at a row fits
pub rest_fits :
    (rows : List ProblemRow) (table : List Row) (bound m s v : ℕ) → IsForest rows → v < m → IsWalked rows table bound m s
    → rest_at table v ≤ 2 ^ 56
rest_fits rows table bound m s v forest l is =
    omega (
      arith,
      sum_below-term m v (rest_at table) l,
      is.walk.gathered,
      heats_le rows forest (length rows) (omega arith),
      forest.few,
    )

module _ (rows : List ProblemRow) (forest : IsForest rows) (table : List Row) (bound i : ℕ) (here : i < length rows)
    (is : IsWalked rows table bound (i + 1) i) where
  -- a child that isn't cut is part of what is left at the row
  pub rest_within_row : (j : ℕ) → j < length rows → is_child rows i j ≡ true → is_cut_at table j ≡ false
      → rest_at table j ≤ rest_at table i
  rest_within_row j l child free =
      let handled = handled_from rows (i + 1) i j (let up = child_above rows forest i j l child in omega arith) child in
      let term = sum_below-term (length rows) j
      (λ x. cond (is_handled rows (i + 1) i x) (cond (is_cut_at table x) 0 (rest_at table x)) 0) l in
      let known = rw (handled, free) at term in
      omega (arith, known, is.walk.rest_is i here)

  -- where each child is cut, only the row's own heat is left
  pub own_heat : ((j : ℕ) → j < length rows → is_child rows i j ≡ true → is_cut_at table j ≡ true)
      → rest_at table i ≡ heat_at rows i
  own_heat all =
      let none = sum_below-zero (length rows)
      (λ x. cond (is_handled rows (i + 1) i x) (cond (is_cut_at table x) 0 (rest_at table x)) 0)
      (λ x l.
      ⊎_elim
      (λ (handled : is_handled rows (i + 1) i x ≡ true).
      let cut = all x l (handled_parts rows (i + 1) i x handled).1 in rw (handled, cut) refl)
      (λ (other : is_handled rows (i + 1) i x ≡ false). rw other refl)
      (cases_Bool (is_handled rows (i + 1) i x))) in
      omega (arith, none, is.walk.rest_is i here)

  module _ (x : Child) (pop : IsPopped rows (rest_at table) (is_cut_at table) i x) (hot : bound < rest_at table i)
      (table2 : List Row) (size : length table2 ≡ length table)
      (at_i : slice_index_or table2 i no_cut ≡ record {
        cuts = cuts_at table i + 1;
        rest = rest_at table i - x.rest;
        price = x.rest;
        cut = is_cut_at table i;
      })
      (at_x : slice_index_or table2 x.row.0 no_cut ≡ record (slice_index_or table x.row.0 no_cut) { cut = true })
      (other : (v : ℕ) → v ≢ i → v ≢ x.row.0 → slice_index_or table2 v no_cut ≡ slice_index_or table v no_cut) where
    pub change : IsCutAt (cuts_at table) (rest_at table) (price_at table) (cuts_at table2) (rest_at table2) (price_at table2)
        (is_cut_at table) (is_cut_at table2) i x.row.0
    change =
        let within = rest_within_row x.row.0 pop.inside pop.child pop.free in
        record {
          cuts_here = ap (λ (row : Row). row.cuts) at_i;
          cuts_other = λ v apart.
              ⊎_elim (λ (same : v ≡ x.row.0). rw same (ap (λ (row : Row). row.cuts) at_x))
              (λ (else : v ≢ x.row.0). ap (λ (row : Row). row.cuts) (other v apart else))
              (cases_eq v x.row.0);
          rest_here = omega (arith, ap (λ (row : Row). row.rest) at_i, pop.rest_is, within);
          rest_other = λ v apart.
              ⊎_elim (λ (same : v ≡ x.row.0). rw same (ap (λ (row : Row). row.rest) at_x))
              (λ (else : v ≢ x.row.0). ap (λ (row : Row). row.rest) (other v apart else))
              (cases_eq v x.row.0);
          price_here = ap (λ (row : Row). row.price) at_i ∙ pop.rest_is;
          price_other = λ v apart.
              ⊎_elim (λ (same : v ≡ x.row.0). rw same (ap (λ (row : Row). row.price) at_x))
              (λ (else : v ≢ x.row.0). ap (λ (row : Row). row.price) (other v apart else))
              (cases_eq v x.row.0);
          cut_here = ap (λ (row : Row). row.cut) at_x;
          cut_other = λ v apart.
              ⊎_elim (λ (same : v ≡ i). rw same (ap (λ (row : Row). row.cut) at_i))
              (λ (else : v ≢ i). ap (λ (row : Row). row.cut) (other v else apart))
              (cases_eq v i);
        }

    pub walked_on : IsWalked rows table2 bound (i + 1) i
    walked_on = record {
      size = size ∙ is.size;
      walk = cut_child rows forest bound (cuts_at table) (rest_at table) (price_at table) (cuts_at table2) (rest_at table2)
          (price_at table2) (is_cut_at table) (is_cut_at table2) i x.row.0 here change pop.inside pop.child pop.free hot
          pop.largest is.walk;
    }

    -- what the row had before is what it has now and what was cut from it
    pub above_on : rest_at table i ≡ rest_at table2 i + price_at table2 i
    above_on = omega (arith, change.rest_here, change.price_here)

    pub same_on : (first : List Row) → IsSameBut rows first table i → IsSameBut rows first table2 i
    same_on first old = record {
      rest = λ v apart. change.rest_other v apart ∙ old.rest v apart;
      price = λ v apart. change.price_other v apart ∙ old.price v apart;
      cut = λ j other.
          change.cut_other j (λ same. false≢true (sym other ∙ (ap (λ y. is_child rows i y) same ∙ pop.child)))
          ∙ old.cut j other;
    }

    pub counted_on : count_below (length rows) (is_cut_at table2) ≡ count_below (length rows) (is_cut_at table) + 1
    counted_on = one_more_cut rows forest bound (cuts_at table) (rest_at table) (price_at table) (cuts_at table2) (rest_at table2)
        (price_at table2) (is_cut_at table) (is_cut_at table2) i x.row.0 here change pop.inside pop.child pop.free hot
        pop.largest is.walk

pub IsSameBut-none : (rows : List ProblemRow) (table : List Row) (i : ℕ) → IsSameBut rows table table i
IsSameBut-none rows table i = record { rest = λ v apart. refl; price = λ v apart. refl; cut = λ j other. refl }
