-- The cost at the tops of a plan's parts is that of the plan's parts.
use Rattle.std.proofs.Common.{◌≡◌, ◌≢◌, ℕ, zero, suc, ◌<◌, ◌≤◌, List, [], ◌∷◌, ◌++◌, length, map, sym, ap, ◌∙◌}
use Rattle.std.proofs.Common.{refl, arith, Bool, true, false, ◌&&◌, cond, eqb, ltb, get_or, append-nil, length-append, Option, inl, inr}
use Rattle.std.specs.Prelude.{filter, slice_index, sum_by}
use Rattle.std.specs.List.{Contains, list_any}
use Rattle.std.proofs.lemmas.Bool.{and_parts, cases_Bool, cases_eq, cases_lt, eq-eqb, eqb-true, false_from_ne_true}
use Rattle.std.proofs.lemmas.Bool.{false≢true, ltb-true, ne_eqb, not-false, or_from, or_right}
use Rattle.std.proofs.lemmas.List.{get_or-map, length-map, map-append, map-id}
use Rattle.std.proofs.lemmas.List.Folds.{Any-from_list_any, list_any_at}
use Rattle.mds_types.specs.declared.plan.Plan.{Plan}
use Rattle.mds_types.specs.declared.problem.ProblemRow.{ProblemRow}
use Rattle.mds_types.specs.Certificate.{IsPartition, plan_label}
use Rattle.mds_types.specs.Division.{greatest_heat, joins_parent, part_heat}
use Rattle.mds_types.specs.Problem.{IsForest, heat_at, inodes_at, no_row, parent_at}
use Rattle.mds_types.specs.Sums.{sum_below}
use Rattle.mds_types.proofs.SumsLemmas.{max_below-le, max_below-term, sum_below-same}
use Rattle.dirtree.specs.Tree.{Entry, IsTree, inodes_of, parent_of}
use Rattle.dir_pins.specs.Pins.{below, is_unpinned, unpinned}
use Rattle.tree_parts.specs.declared.division.Part.{Part}
use Rattle.tree_parts.specs.Parts.{greatest, is_free_top, is_member, is_top, members, part_at, parts, top_of}
use Rattle.tree_parts.proofs.Chains.{greatest_is}
use Rattle.tree_parts.proofs.Elements.{Contains-map, Contains-mapped, kept_below, passes_below}
use Rattle.tree_parts.proofs.Passes.{top_of-other, top_of-top}
use Rattle.tree_parts.specs.declared.plan_parts.PlanPart.{PlanPart}
use Rattle.tree_parts.specs.PlanParts.{IsTopOf, is_part_top, part_of_top, part_tops, plan_parts}
use Rattle.tree_parts.specs.ProblemRows.{problem_rows, row_of}
use Rattle.tree_parts.proofs.DirDivisions.{at_row, both_tests, listed_sum, place_row, row_inside, row_of_dir}
use Rattle.tree_parts.proofs.Places.{kept_next}
use Rattle.tree_parts.proofs.RowsSoFar.{parents_row}
use Rattle.tree_parts.proofs.TopsOfParts.{one_top_of, same_top, sum_listed}
use Rattle.script_board.specs.PlanCost.{without_rank}

-- numbers that pass two tests, by their places among those that pass the first
module _ (free chosen at_place : ℕ → Bool) (at : ℕ → ℕ)
    (there : (d : ℕ) → free d ≡ true → at (length (filter free (below d))) ≡ d)
    (same : (d : ℕ) → free d ≡ true → chosen d ≡ at_place (length (filter free (below d)))) where
  passes_both : (n : ℕ) → free n ≡ true → cond (free n && chosen n) (n ∷ []) []
      ≡ map at (cond (at_place (length (filter free (below n)))) (length (filter free (below n)) ∷ []) [])
  passes_both n is = rw (is, same n is) (elim (cases_Bool (at_place (length (filter free (below n))))) [
    | inl yes_ ↦ rw (yes_, there n is) refl
    | inr no_ ↦ rw no_ refl
  ])

  both_kept : (n : ℕ) → filter (λ d. free d && chosen d) (below n) ≡ map at (filter at_place (below (length (filter free (below n)))))
  both_kept zero = refl
  both_kept (suc n) =
      let kept : List ℕ = filter free (below n) in
      elim (cases_Bool (free n)) [
        | inl is ↦
            let all : filter free (below (suc n)) ≡ kept ++ n ∷ [] = kept_next free n ∙ (rw is refl) in
            let size : length (filter free (below (suc n))) ≡ suc (length kept) = ap length all ∙ (omega (arith, length-append kept (n ∷ []))) in
            kept_next (λ d. free d && chosen d) n
            ∙ ap (λ (ds : List ℕ). filter (λ d. free d && chosen d) (below n) ++ ds) (passes_both n is)
            ∙ ap (λ (ds : List ℕ). ds ++ map at (cond (at_place (length kept)) (length kept ∷ []) [])) (both_kept n)
            ∙ sym (map-append at (filter at_place (below (length kept))) (cond (at_place (length kept)) (length kept ∷ []) []))
            ∙ ap (map at) (sym (kept_next at_place (length kept)))
            ∙ ap (λ (m : ℕ). map at (filter at_place (below m))) (sym size)
        | inr other ↦
            let all : filter free (below (suc n)) ≡ kept = kept_next free n ∙ (rw other (append-nil kept)) in
            let none : cond (free n && chosen n) (n ∷ []) [] ≡ [] = rw other refl in
            kept_next (λ d. free d && chosen d) n
            ∙ ap (λ (ds : List ℕ). filter (λ d. free d && chosen d) (below n) ++ ds) none
            ∙ append-nil (filter (λ d. free d && chosen d) (below n))
            ∙ both_kept n
            ∙ ap (λ (ds : List ℕ). map at (filter at_place (below (length ds)))) (sym all)
      ]

rest_contains : {A : Type 0} (x y : A) (xs : List A) → Contains xs y → Contains (x ∷ xs) y
rest_contains x y xs h = (suc h.0, omega (arith, h.1), h.2)

-- two ways from a list that agree on its elements
same_ways : {A B C D : Type 0} (f : B → D) (g : A → B) (h : C → D) (k : A → C) (xs : List A) → ((x : A) → Contains xs x → f (g x) ≡ h (k x))
    → map f (map g xs) ≡ map h (map k xs)
same_ways f g h k [] same = refl
same_ways f g h k (x ∷ xs) same =
    let first : f (g x) ≡ h (k x) = same x (0, omega arith, refl) in
    let rest : map f (map g xs) ≡ map h (map k xs) = same_ways f g h k xs (λ y in_. same y (rest_contains x y xs in_)) in
    rw (first, rest) refl

sum_kept : (f : ℕ → ℕ) (test : ℕ → Bool) (n : ℕ) → sum_by f (filter test (below n)) ≡ sum_below n (λ d. cond (test d) (f d) 0)
sum_kept f test n = sym (ap (sum_by f) (map-id (filter test (below n)))) ∙ sum_listed f (λ d. d) test n

below_joins : (rows : List ProblemRow) (label : ℕ → ℕ) (j : ℕ) → is_part_top rows label j ≡ false → (0 < j) × (label j ≡ label (parent_at rows j))
below_joins rows label j no_ =
    let both = and_parts (ltb 0 j) (eqb (label j) (label (parent_at rows j))) (not-false (joins_parent rows label j) no_) in
    (ltb-true 0 j both.0, eqb-true (label j) (label (parent_at rows j)) both.1)

-- the tops of the plan's parts, as directories
abbrev chosen_tops : List (Option Entry) → List (Option ℕ) → List ℕ → List ℕ → Plan → List ℕ
chosen_tops es own heats now plan = part_tops (plan_parts (problem_rows es own heats now) (unpinned es own) plan)

module _ (es : List (Option Entry)) (own : List (Option ℕ)) (heats now : List ℕ) (plan : Plan) (tree : IsTree es) where
  size : length (problem_rows es own heats now) ≡ length (unpinned es own)
  size = length-map (unpinned es own) (row_of es heats now (unpinned es own))

  -- only row 0 is the root
  root_row : (i : ℕ) → i < length (unpinned es own) → slice_index (unpinned es own) i ≡ 0 → i ≡ 0
  root_row i l root = sym (place_row es own heats now tree i l) ∙ ap (row_of_dir es own) root

  same_row : (i j : ℕ) → i < length (unpinned es own) → j < length (unpinned es own) → slice_index (unpinned es own) i ≡ slice_index (unpinned es own) j → i ≡ j
  same_row i j l m same = sym (place_row es own heats now tree i l) ∙ ap (row_of_dir es own) same ∙ place_row es own heats now tree j m

  top_is_chosen : (i : ℕ) → i < length (unpinned es own) → is_part_top (problem_rows es own heats now) (plan_label plan) i ≡ true
      → is_top (chosen_tops es own heats now plan) (slice_index (unpinned es own) i) ≡ true
  top_is_chosen i l top =
      let d : ℕ = slice_index (unpinned es own) i in
      let rows : List ProblemRow = problem_rows es own heats now in
      let row = kept_below (is_part_top rows (plan_label plan)) (length rows) i (omega (arith, size, l)) top in
      let part = Contains-map (part_of_top rows (unpinned es own) plan) (filter (is_part_top rows (plan_label plan)) (below (length rows))) i row in
      let in_tops : Contains (chosen_tops es own heats now plan) d =
      Contains-map (λ (p : PlanPart). p.top) (plan_parts rows (unpinned es own) plan) (part_of_top rows (unpinned es own) plan i)
      part in
      or_right (eqb d 0) (list_any (λ top. eqb top d) (chosen_tops es own heats now plan))
      (list_any_at (λ top. eqb top d) (chosen_tops es own heats now plan) in_tops.0 d in_tops.1
      (eq-eqb (get_or (chosen_tops es own heats now plan) in_tops.0 d) d in_tops.2))

  -- a row whose directory is chosen is the top of a part
  chosen_is_top : (i : ℕ) → i < length (unpinned es own)
      → list_any (λ top. eqb top (slice_index (unpinned es own) i)) (chosen_tops es own heats now plan) ≡ true
      → is_part_top (problem_rows es own heats now) (plan_label plan) i ≡ true
  chosen_is_top i l any =
      let rows : List ProblemRow = problem_rows es own heats now in
      let found = Any-from_list_any (λ top. eqb top (slice_index (unpinned es own) i)) (chosen_tops es own heats now plan) any in
      let part = Contains-mapped (λ (p : PlanPart). p.top) (plan_parts rows (unpinned es own) plan) found.1 (found.0, found.2, found.3) in
      let row = Contains-mapped (part_of_top rows (unpinned es own) plan) (filter (is_part_top rows (plan_label plan)) (below (length rows))) part.0 part.1 in
      let passes = passes_below (is_part_top rows (plan_label plan)) (length rows) row.0 row.1 in
      let dir : slice_index (unpinned es own) row.0 ≡ slice_index (unpinned es own) i = ap (λ (p : PlanPart). p.top) row.2 ∙ part.2
      ∙ eqb-true found.1 (slice_index (unpinned es own) i) found.4 in
      sym (ap (is_part_top rows (plan_label plan)) (same_row row.0 i (omega (arith, size, passes.0)) l dir)) ∙ passes.1

  other_is_not : (i : ℕ) → i < length (unpinned es own) → is_part_top (problem_rows es own heats now) (plan_label plan) i ≡ false
      → is_top (chosen_tops es own heats now plan) (slice_index (unpinned es own) i) ≡ false
  other_is_not i l no_ =
      let d : ℕ = slice_index (unpinned es own) i in
      let low = below_joins (problem_rows es own heats now) (plan_label plan) i no_ in
      or_from (eqb d 0) (list_any (λ top. eqb top d) (chosen_tops es own heats now plan))
      (ne_eqb d 0 (λ root. omega (arith, root_row i l root, low.0)))
      (false_from_ne_true (list_any (λ top. eqb top d) (chosen_tops es own heats now plan)) (λ any. false≢true (sym no_ ∙ chosen_is_top i l any)))

  is_chosen : (i : ℕ) → i < length (unpinned es own)
      → is_top (chosen_tops es own heats now plan) (slice_index (unpinned es own) i)
      ≡ is_part_top (problem_rows es own heats now) (plan_label plan) i
  is_chosen i l = elim (cases_Bool (is_part_top (problem_rows es own heats now) (plan_label plan) i)) [
    | inl top ↦ top_is_chosen i l top ∙ sym top
    | inr no_ ↦ other_is_not i l no_ ∙ sym no_
  ]

  -- the row that is the top of row j's part, whose directory is the nearest chosen one
  record IsTopFor (j i : ℕ) : Type 0 where
    inside : i < length (unpinned es own)
    top : is_part_top (problem_rows es own heats now) (plan_label plan) i ≡ true
    label_is : plan_label plan i ≡ plan_label plan j
    nearest : top_of es (chosen_tops es own heats now plan) (slice_index (unpinned es own) j) ≡ slice_index (unpinned es own) i

  module _ (forest : IsForest (problem_rows es own heats now)) where
    at_itself : (j : ℕ) → j < length (unpinned es own) → is_part_top (problem_rows es own heats now) (plan_label plan) j ≡ true → IsTopFor j j
    at_itself j l is = record {
      inside = l;
      top = is;
      label_is = refl;
      nearest = top_of-top es (chosen_tops es own heats now plan) (slice_index (unpinned es own) j) (is_chosen j l ∙ is);
    }

    at_parent : (j i : ℕ) → j < length (unpinned es own) → is_part_top (problem_rows es own heats now) (plan_label plan) j ≡ false
        → IsTopFor (parent_at (problem_rows es own heats now) j) i → IsTopFor j i
    at_parent j i l no_ rest =
        let tops : List ℕ = chosen_tops es own heats now plan in
        let low = below_joins (problem_rows es own heats now) (plan_label plan) j no_ in
        let up : parent_of es (slice_index (unpinned es own) j)
        ≡ slice_index (unpinned es own) (parent_at (problem_rows es own heats now) j) = sym (parents_row es own heats now tree j l) in
        record {
          inside = rest.inside;
          top = rest.top;
          label_is = rest.label_is ∙ sym low.1;
          nearest = top_of-other es tops (slice_index (unpinned es own) j) tree (is_chosen j l ∙ no_) ∙ ap (top_of es tops) up ∙ rest.nearest;
        }

    top_for : (n j : ℕ) → j ≤ n → j < length (unpinned es own) → (i : ℕ) × IsTopFor j i
    top_for zero j few l = elim (cases_Bool (is_part_top (problem_rows es own heats now) (plan_label plan) j)) [
      | inl is ↦ (j, at_itself j l is)
      | inr no_ ↦ absurd (omega (arith, few, (below_joins (problem_rows es own heats now) (plan_label plan) j no_).0))
    ]
    top_for (suc n) j few l = elim (cases_Bool (is_part_top (problem_rows es own heats now) (plan_label plan) j)) [
      | inl is ↦ (j, at_itself j l is)
      | inr no_ ↦
          let low = below_joins (problem_rows es own heats now) (plan_label plan) j no_ in
          let less : parent_at (problem_rows es own heats now) j < j = forest.above j low.0 (omega (arith, size, l)) in
          let rest = top_for n (parent_at (problem_rows es own heats now) j) (omega (arith, few, less)) (omega (arith, l, less)) in
          (rest.0, at_parent j rest.0 l no_ rest.1)
    ]

    module _ (divided : IsPartition (problem_rows es own heats now) (length plan.rank) (plan_label plan)) where
      as_top : (i : ℕ) → i < length (unpinned es own) → is_part_top (problem_rows es own heats now) (plan_label plan) i ≡ true → (part : ℕ)
          → plan_label plan i ≡ part → IsTopOf (problem_rows es own heats now) (plan_label plan) part i
      as_top i l top part same = record { inside = omega (arith, size, l); label_is = same; top = top }

      -- the nearest chosen directory gives the part
      tells : (i j : ℕ) → i < length (unpinned es own) → is_part_top (problem_rows es own heats now) (plan_label plan) i ≡ true
          → j < length (unpinned es own) → eqb (plan_label plan j) (plan_label plan i)
          ≡ eqb (top_of es (chosen_tops es own heats now plan) (slice_index (unpinned es own) j)) (slice_index (unpinned es own) i)
      tells i j l top m =
          let found = top_for j j (omega arith) m in
          let near : ℕ = top_of es (chosen_tops es own heats now plan) (slice_index (unpinned es own) j) in
          elim (cases_eq (plan_label plan j) (plan_label plan i)) [
            | inl same ↦
                let one : found.0 ≡ i = same_top (problem_rows es own heats now) (length plan.rank) (plan_label plan) forest divided
                (plan_label plan i) found.0 i (as_top found.0 found.1.inside found.1.top (plan_label plan i) (found.1.label_is ∙ same))
                (as_top i l top (plan_label plan i) refl) in
                eq-eqb (plan_label plan j) (plan_label plan i) same
                ∙ sym (eq-eqb near (slice_index (unpinned es own) i) (found.1.nearest ∙ ap (slice_index (unpinned es own)) one))
            | inr other ↦
                let apart : near ≢ slice_index (unpinned es own) i =
                λ same. other (sym found.1.label_is ∙ ap (plan_label plan)
                (same_row found.0 i found.1.inside l (sym found.1.nearest ∙ same))) in
                ne_eqb (plan_label plan j) (plan_label plan i) other ∙ sym (ne_eqb near (slice_index (unpinned es own) i) apart)
          ]

      -- what the rows of a part have together is what the members below its top have
      sums_agree : (f h : ℕ → ℕ) → ((j : ℕ) → j < length (unpinned es own) → h j ≡ f (slice_index (unpinned es own) j)) → (i : ℕ)
          → i < length (unpinned es own) → is_part_top (problem_rows es own heats now) (plan_label plan) i ≡ true
          → sum_by f (members es own (chosen_tops es own heats now plan) (slice_index (unpinned es own) i))
          ≡ sum_below (length (problem_rows es own heats now)) (λ j. cond (eqb (plan_label plan j) (plan_label plan i)) (h j) 0)
      sums_agree f h agree i l top =
          let tops : List ℕ = chosen_tops es own heats now plan in
          let t : ℕ = slice_index (unpinned es own) i in
          let g : ℕ → ℕ = λ d. cond (eqb (top_of es tops d) t) (f d) 0 in
          let by_rows : sum_below (length (unpinned es own)) (λ j. cond (eqb (plan_label plan j) (plan_label plan i)) (h j) 0)
          ≡ sum_below (length (unpinned es own)) (λ j. g (slice_index (unpinned es own) j)) =
          sum_below-same (length (unpinned es own)) _ _ (λ j m. rw (tells i j l top m, agree j m) refl) in
          let by_dirs : sum_below (length (unpinned es own)) (λ j. g (slice_index (unpinned es own) j))
          ≡ sum_below (length es) (λ d. cond (is_member es own tops t d) (f d) 0) =
          listed_sum g (is_unpinned es own) (length es) ∙ sum_below-same (length es) _ _
          (λ d m. both_tests (is_unpinned es own d) (eqb (top_of es tops d) t) (f d)) in
          sum_kept f (is_member es own tops t) (length es) ∙ sym by_dirs ∙ sym by_rows
          ∙ ap (λ (n : ℕ). sum_below n (λ j. cond (eqb (plan_label plan j) (plan_label plan i)) (h j) 0)) (sym size)

      row_is : (j : ℕ) → j < length (unpinned es own) → get_or (problem_rows es own heats now) j no_row
          ≡ row_of es heats now (unpinned es own) (slice_index (unpinned es own) j)
      row_is j m = get_or-map (row_of es heats now (unpinned es own)) (unpinned es own) j 0 no_row m

      same_part : (i : ℕ) → i < length (unpinned es own) → is_part_top (problem_rows es own heats now) (plan_label plan) i ≡ true
          → part_at es own heats (chosen_tops es own heats now plan) (slice_index (unpinned es own) i)
          ≡ without_rank (part_of_top (problem_rows es own heats now) (unpinned es own) plan i)
      same_part i l top =
          let heat = sums_agree (slice_index heats) (heat_at (problem_rows es own heats now)) (λ j m. ap (λ (r : ProblemRow). r.heat) (row_is j m)) i l top in
          let inodes = sums_agree (inodes_of es) (inodes_at (problem_rows es own heats now)) (λ j m. ap (λ (r : ProblemRow). r.inodes) (row_is j m)) i l top in
          rw (heat, inodes) refl

      pub cost_is_plan : parts es own heats (chosen_tops es own heats now plan)
          ≡ map without_rank (plan_parts (problem_rows es own heats now) (unpinned es own) plan)
      cost_is_plan =
          let tops : List ℕ = chosen_tops es own heats now plan in
          let rows : List ProblemRow = problem_rows es own heats now in
          let test : ℕ → Bool = is_part_top rows (plan_label plan) in
          let listed : filter (is_free_top es own tops) (below (length es))
          ≡ map (slice_index (unpinned es own)) (filter test (below (length (unpinned es own)))) =
          both_kept (is_unpinned es own) (is_top tops) test (slice_index (unpinned es own)) (λ d free. at_row es own heats now tree d free)
          (λ d free. sym (ap (is_top tops) (at_row es own heats now tree d free))
          ∙ is_chosen (row_of_dir es own d) (row_inside es own heats now tree d free)) (length es) in
          ap (map (part_at es own heats tops)) (listed ∙ ap (λ (n : ℕ). map (slice_index (unpinned es own)) (filter test (below n))) (sym size))
          ∙ same_ways (part_at es own heats tops) (slice_index (unpinned es own)) without_rank (part_of_top rows (unpinned es own) plan)
          (filter test (below (length rows)))
          (λ i h. let passes = passes_below test (length rows) i h in same_part i (omega (arith, size, passes.0)) passes.1)

      -- the hottest part is as hot as the division's
      none_hotter : greatest (map without_rank (plan_parts (problem_rows es own heats now) (unpinned es own) plan)) ≤ greatest_heat
          (problem_rows es own heats now) (length plan.rank) (plan_label plan)
      none_hotter =
          let rows : List ProblemRow = problem_rows es own heats now in
          let planned : List PlanPart = plan_parts rows (unpinned es own) plan in
          let is = greatest_is (map without_rank planned) in
          elim (cases_lt 0 (length (map without_rank planned))) [
            | inl some ↦
                let hottest = is.reached some in
                let part = Contains-mapped without_rank planned hottest.0 hottest.1 in
                let row = Contains-mapped (part_of_top rows (unpinned es own) plan)
                (filter (is_part_top rows (plan_label plan)) (below (length rows))) part.0 part.1 in
                let passes = passes_below (is_part_top rows (plan_label plan)) (length rows) row.0 row.1 in
                let heat : part_heat rows (plan_label plan) (plan_label plan row.0) ≡ hottest.0.heat = ap (λ (p : PlanPart). p.heat) row.2
                ∙ ap (λ (p : Part). p.heat) part.2 in
                omega (
                  arith,
                  heat,
                  hottest.2,
                  max_below-term (length plan.rank) (plan_label plan row.0) (part_heat rows (plan_label plan))
                      (divided.division.below row.0 passes.0),
                )
            | inr none ↦ omega (arith, is.none (omega (arith, none)))
          ]

      none_cooler : greatest_heat (problem_rows es own heats now) (length plan.rank) (plan_label plan) ≤ greatest
          (map without_rank (plan_parts (problem_rows es own heats now) (unpinned es own) plan))
      none_cooler =
          let rows : List ProblemRow = problem_rows es own heats now in
          let planned : List PlanPart = plan_parts rows (unpinned es own) plan in
          max_below-le (length plan.rank) (greatest (map without_rank planned)) (part_heat rows (plan_label plan)) (λ part l.
          let found = one_top_of rows (length plan.rank) (plan_label plan) forest divided part l in
          let row = kept_below (is_part_top rows (plan_label plan)) (length rows) found.0 found.1.inside found.1.top in
          let listed = Contains-map without_rank planned (part_of_top rows (unpinned es own) plan found.0)
          (Contains-map (part_of_top rows (unpinned es own) plan) (filter (is_part_top rows (plan_label plan)) (below (length rows)))
          found.0 row) in
          let bound = (greatest_is (map without_rank planned)).bound (without_rank (part_of_top rows (unpinned es own) plan found.0)) listed in
          rw (← found.1.label_is) bound)

      pub cost_greatest : greatest (parts es own heats (chosen_tops es own heats now plan))
          ≡ greatest_heat (problem_rows es own heats now) (length plan.rank) (plan_label plan)
      cost_greatest = ap greatest cost_is_plan ∙ (omega (arith, none_hotter, none_cooler))
