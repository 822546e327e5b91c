-- What a pass over the rows counts to each part, and what it lists of the tops.
use Rattle.std.proofs.Common.{◌≡◌, ◌≢◌, ℕ, ◌<◌, ◌≤◌, ◌+◌, List, sym, ap, ◌∙◌, refl, arith, cond, eqb, get_or, set, length, inl, inr}
use Rattle.std.specs.Prelude.{slice_index}
use Rattle.std.proofs.lemmas.Bool.{cases_eq, eq-eqb, ne_eqb}
use Rattle.std.proofs.lemmas.Grind.{common_steps}
use Rattle.std.proofs.lemmas.List.{get_or-set_same, get_or-set_other}
use Rattle.mds_types.specs.declared.plan.Plan.{Plan}
use Rattle.mds_types.specs.declared.problem.ProblemRow.{ProblemRow}
use Rattle.mds_types.specs.Certificate.{plan_label, plan_rank}
use Rattle.mds_types.specs.Problem.{heat_at, inodes_at}
use Rattle.mds_types.specs.Sums.{sum_below}
use Rattle.mds_types.proofs.SumsLemmas.{sum_below_more}
use Rattle.tree_parts.specs.declared.plan_parts.PlanPart.{PlanPart}
use Rattle.tree_parts.specs.declared.plan_parts.Total.{Total}
use Rattle.tree_parts.specs.PlanParts.{nothing, part_of_top, total_of}

-- the element that was read
pub read : {A : Type 0} (xs : List A) (n : ℕ) (v z : A) → n < length xs → v ≡ get_or xs n v → v ≡ get_or xs n z
read xs n v z inside is = grind (arith, common_steps)

-- a total and one row more
abbrev pub plus : Total → ℕ → ℕ → Total
plus sum heat inodes = record { heat = sum.heat + heat; inodes = sum.inodes + inodes }

pub plus-same : (sum other : Total) (heat hot inodes many : ℕ) → sum ≡ other → heat ≡ hot → inodes ≡ many → plus sum heat inodes ≡ plus other hot many
plus-same sum other heat hot inodes many same h i = rw (same, h, i) refl

-- a bound of each total
pub bounded_more : (f : Total → ℕ) (totals : List Total) (size most low high part : ℕ) (more : Total) → part < length totals → part < size
    → f more ≤ f (get_or totals part nothing) + most → low + most ≤ high → ((p : ℕ) → p < size → f (get_or totals p nothing) ≤ low)
    → (p : ℕ) → p < size → f (get_or (set totals part more) p nothing) ≤ high
bounded_more f totals size most low high part more inside within fits step before p h = elim (cases_eq p part) [
  | inl here ↦ rw (here, get_or-set_same totals part more nothing inside)
      (let old : f (get_or totals part nothing) ≤ low = before part within in omega (arith, old, fits, step))
  | inr other ↦ rw (get_or-set_other totals part p more nothing other) (let old : f (get_or totals p nothing) ≤ low = before p h in omega (arith, old, step))
]

module _ (rows : List ProblemRow) (label : ℕ → ℕ) where
  count_one : (f : ℕ → ℕ) (n p : ℕ) → label n ≡ p → sum_below (n + 1) (λ i. cond (eqb (label i) p) (f i) 0)
      ≡ sum_below n (λ i. cond (eqb (label i) p) (f i) 0) + f n
  count_one f n p is = sum_below_more n (λ i. cond (eqb (label i) p) (f i) 0) ∙ (rw (eq-eqb (label n) p is) refl)

  count_same : (f : ℕ → ℕ) (n p : ℕ) → label n ≢ p → sum_below (n + 1) (λ i. cond (eqb (label i) p) (f i) 0) ≡ sum_below n (λ i. cond (eqb (label i) p) (f i) 0)
  count_same f n p other =
      let none : cond (eqb (label n) p) (f n) 0 ≡ 0 = rw (ne_eqb (label n) p other) refl in
      omega (arith, sum_below_more n (λ i. cond (eqb (label i) p) (f i) 0), none)

  total_one : (n p : ℕ) → label n ≡ p → total_of rows label (n + 1) p ≡ plus (total_of rows label n p) (heat_at rows n) (inodes_at rows n)
  total_one n p is = rw (count_one (heat_at rows) n p is, count_one (inodes_at rows) n p is) refl

  total_same : (n p : ℕ) → label n ≢ p → total_of rows label (n + 1) p ≡ total_of rows label n p
  total_same n p other = rw (count_same (heat_at rows) n p other, count_same (inodes_at rows) n p other) refl

  -- a row is counted to its part
  pub total_more : (totals : List Total) (size n part : ℕ) (more : Total) → label n ≡ part → part < length totals → part < size
      → more ≡ plus (get_or totals part nothing) (heat_at rows n) (inodes_at rows n)
      → ((p : ℕ) → p < size → get_or totals p nothing ≡ total_of rows label n p) → (p : ℕ) → p < size
      → get_or (set totals part more) p nothing ≡ total_of rows label (n + 1) p
  total_more totals size n part more at inside within is before p h = elim (cases_eq p part) [
    | inl here ↦
        let now : more ≡ total_of rows label (n + 1) part = is
        ∙ ap (λ (sum : Total). plus sum (heat_at rows n) (inodes_at rows n)) (before part within) ∙ sym (total_one n part at) in
        rw (here, get_or-set_same totals part more nothing inside) now
    | inr other ↦ get_or-set_other totals part p more nothing other ∙ (before p h ∙ sym (total_same n p (λ same. other (sym same ∙ at))))
  ]

-- the part of a top, from what was read of it
pub part_made : (rows : List ProblemRow) (dirs : List ℕ) (plan : Plan) (i top rank : ℕ) (total : Total) → top ≡ slice_index dirs i
    → rank ≡ plan_rank plan (plan_label plan i) → total ≡ total_of rows (plan_label plan) (length rows) (plan_label plan i)
    → record { top = top; rank = rank; heat = total.heat; inodes = total.inodes } ≡ part_of_top rows dirs plan i
part_made rows dirs plan i top rank total top_is rank_is total_is = let part : ℕ → ℕ → Total
    → PlanPart = λ t r s. record { top = t; rank = r; heat = s.heat; inodes = s.inodes } in
    ap (λ (t : ℕ). part t rank total) top_is ∙ ap (λ (r : ℕ). part (slice_index dirs i) r total) rank_is
    ∙ ap (λ (s : Total). part (slice_index dirs i) (plan_rank plan (plan_label plan i)) s) total_is
