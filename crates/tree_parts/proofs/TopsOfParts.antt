-- In a partition each part has one top, so the parts of a plan have what the rows have together.
use Rattle.std.proofs.Common.{◌≡◌, ◌≢◌, ℕ, zero, suc, ◌<◌, List, [], ◌∷◌, length, map, sym, ap, ◌∙◌, refl, arith, Bool, true, false, cond, eqb, inl, inr}
use Rattle.std.specs.Prelude.{filter, not, sum_by}
use Rattle.std.proofs.lemmas.Bool.{cases_Bool, cases_eq, eq-eqb, ne_eqb}
use Rattle.std.proofs.lemmas.List.{map-append}
use Rattle.std.proofs.lemmas.List.Sums.{sum_by-append}
use Rattle.mds_types.specs.declared.plan.Plan.{Plan}
use Rattle.mds_types.specs.declared.problem.ProblemRow.{ProblemRow}
use Rattle.mds_types.specs.Certificate.{IsPartition, plan_label}
use Rattle.mds_types.specs.Problem.{IsForest, heat_at, inodes_at, parent_at}
use Rattle.mds_types.specs.Sums.{sum_below}
use Rattle.mds_types.proofs.DivisionLemmas.{one_top}
use Rattle.mds_types.proofs.SumsLemmas.{sum_below-only, sum_below-pick, sum_below-same, sum_below-swap}
use Rattle.mds_types.proofs.Tops.{joins, top, top_from, top_from-is}
use Rattle.dir_pins.specs.Pins.{below}
use Rattle.tree_parts.specs.PlanParts.{IsTopOf, is_part_top, part_of_top, plan_parts}
use Rattle.tree_parts.proofs.Places.{kept_next}

is_top : (b : Bool) → 0 < cond b 0 1 → not b ≡ true
is_top true h = absurd (omega arith)
is_top false h = refl

top_is : (b : Bool) → not b ≡ true → 0 < cond b 0 1
top_is true h = cc
top_is false h = omega arith

-- the sum over a mapped list of the numbers that pass
pub sum_listed : {A : Type 0} (f : A → ℕ) (g : ℕ → A) (test : ℕ → Bool) (n : ℕ)
    → sum_by f (map g (filter test (below n))) ≡ sum_below n (λ i. cond (test i) (f (g i)) 0)
sum_listed f g test zero = refl
sum_listed f g test (suc n) =
    let kept : List ℕ = filter test (below n) in
    let last : sum_by f (map g (cond (test n) (n ∷ []) [])) ≡ cond (test n) (f (g n)) 0 = elim (cases_Bool (test n)) [
      | inl passes ↦ rw passes (omega arith)
      | inr fails ↦ rw fails refl
    ] in
    ap (λ (ds : List ℕ). sum_by f (map g ds)) (kept_next test n)
    ∙ ap (sum_by f) (map-append g kept (cond (test n) (n ∷ []) []))
    ∙ sum_by-append f (map g kept) (map g (cond (test n) (n ∷ []) []))
    ∙ (omega (arith, sum_listed f g test n, last))

module _ (rows : List ProblemRow) (k : ℕ) (label : ℕ → ℕ) (forest : IsForest rows) (parts : IsPartition rows k label) where
  pub same_top : (part i j : ℕ) → IsTopOf rows label part i → IsTopOf rows label part j → i ≡ j
  same_top part i j at_i at_j =
      one_top rows forest k label parts.division i j at_i.inside at_j.inside (at_i.label_is ∙ sym at_j.label_is)
      (top_is (joins (parent_at rows) label i) at_i.top) (top_is (joins (parent_at rows) label j) at_j.top)

  some_top : (part : ℕ) → part < k → (i : ℕ) × IsTopOf rows label part i
  some_top part l =
      let (x, used) = parts.used part l in
      let found = top_from-is (parent_at rows) label (length rows) forest.root forest.above x x (omega arith) used.0 in (
        top_from (parent_at rows) label x x,
        record {
          inside = found.0;
          label_is = found.1 ∙ used.1;
          top = is_top (joins (parent_at rows) label (top_from (parent_at rows) label x x)) found.2;
        },
      )

  pub one_top_of : (part : ℕ) → part < k → (i : ℕ) × IsTopOf rows label part i × ((j : ℕ) → IsTopOf rows label part j → j ≡ i)
  one_top_of part l = let (i, at) = some_top part l in (i, at, λ j at_j. same_top part j i at_j at)

  -- what a sum over the tops has of one part
  at_top : (part y : ℕ) → part < k → sum_below (length rows) (λ i. cond (eqb (label i) part) (cond (is_part_top rows label i) y 0) 0) ≡ y
  at_top part y l =
      let (t, at) = some_top part l in
      let f : ℕ → ℕ = λ i. cond (eqb (label i) part) (cond (is_part_top rows label i) y 0) 0 in
      let others : (i : ℕ) → i < length rows → i ≢ t → f i ≡ 0 = λ i h other. elim (cases_eq (label i) part) [
        | inl same ↦ elim (cases_Bool (is_part_top rows label i)) [
          | inl top ↦ absurd (other (same_top part i t (record { inside = h; label_is = same; top = top }) at))
          | inr below_top ↦ rw (eq-eqb (label i) part same, below_top) refl
        ]
        | inr another ↦ rw (ne_eqb (label i) part another) refl
      ] in
      let here : f t ≡ y = rw (eq-eqb (label t) part at.label_is, at.top) refl in
      sum_below-only (length rows) t f at.inside others ∙ here

  -- the sums of the parts, each taken at its top, are the sum over the rows
  add_up : (f : ℕ → ℕ) → sum_below (length rows)
      (λ i. cond (is_part_top rows label i) (sum_below (length rows) (λ j. cond (eqb (label j) (label i)) (f j) 0)) 0)
      ≡ sum_below (length rows) f
  add_up f =
      let n : ℕ = length rows in
      let of : ℕ → ℕ = λ part. sum_below n (λ j. cond (eqb (label j) part) (f j) 0) in
      let spread : sum_below n (λ i. cond (is_part_top rows label i) (of (label i)) 0)
      ≡ sum_below n (λ i. sum_below k (λ part. cond (eqb (label i) part) (cond (is_part_top rows label i) (of part) 0) 0)) =
      sum_below-same n _ _ (λ i l. sym (sum_below-pick k (label i) (λ part. cond (is_part_top rows label i) (of part) 0) (parts.division.below i l))) in
      let by_part : sum_below k (λ part. sum_below n (λ i. cond (eqb (label i) part) (cond (is_part_top rows label i) (of part) 0) 0)) ≡ sum_below k of =
      sum_below-same k _ _ (λ part l. at_top part (of part) l) in
      let by_row : sum_below n (λ i. sum_below k (λ part. cond (eqb (label i) part) (f i) 0)) ≡ sum_below n f =
      sum_below-same n _ _ (λ i l. sum_below-pick k (label i) (λ part. f i) (parts.division.below i l)) in
      spread
      ∙ sum_below-swap n k (λ i part. cond (eqb (label i) part) (cond (is_part_top rows label i) (of part) 0) 0)
      ∙ by_part
      ∙ sum_below-swap k n (λ part i. cond (eqb (label i) part) (f i) 0)
      ∙ by_row

pub heats_add_up : (rows : List ProblemRow) (dirs : List ℕ) (plan : Plan) → IsForest rows
    → IsPartition rows (length plan.rank) (plan_label plan)
    → sum_by (λ part. part.heat) (plan_parts rows dirs plan) ≡ sum_below (length rows) (heat_at rows)
heats_add_up rows dirs plan forest parts = sum_listed (λ part. part.heat) (part_of_top rows dirs plan) (is_part_top rows (plan_label plan))
    (length rows) ∙ add_up rows (length plan.rank) (plan_label plan) forest parts (heat_at rows)

pub inodes_add_up : (rows : List ProblemRow) (dirs : List ℕ) (plan : Plan) → IsForest rows
    → IsPartition rows (length plan.rank) (plan_label plan)
    → sum_by (λ part. part.inodes) (plan_parts rows dirs plan) ≡ sum_below (length rows) (inodes_at rows)
inodes_add_up rows dirs plan forest parts = sum_listed (λ part. part.inodes) (part_of_top rows dirs plan)
    (is_part_top rows (plan_label plan)) (length rows) ∙ add_up rows (length plan.rank) (plan_label plan) forest parts (inodes_at rows)
