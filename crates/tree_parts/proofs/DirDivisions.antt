-- A division of the directories that no pin holds is one of the problem's rows, and the other way round.
use Rattle.std.proofs.Common.{◌≡◌, ◌↔◌, ℕ, zero, suc, ◌<◌, ◌≤◌, List, [], ◌∷◌, ◌++◌, length, map, sym, ap, ◌∙◌}
use Rattle.std.proofs.Common.{refl, subst, arith, Bool, true, false, ◌&&◌, cond, eqb, get_or, append-nil, length-append, Option, inl, inr, ⊎_elim}
use Rattle.std.specs.Prelude.{filter, is_none, slice_index}
use Rattle.std.proofs.lemmas.Bool.{and_parts, cases_Bool}
use Rattle.std.proofs.lemmas.List.{get_or-map, get_or_append_left, length-map}
use Rattle.std.proofs.Math.Seq.{get_or-append_seam}
use Rattle.mds_types.specs.declared.problem.ProblemRow.{ProblemRow}
use Rattle.mds_types.specs.Connected.{IsChain, IsParentOrChild}
use Rattle.mds_types.specs.Division.{InPart, IsDivision, IsEdge, IsLowerBound, greatest_heat, part_heat}
use Rattle.mds_types.specs.Placing.{IsPlacing, moved, moved_at}
use Rattle.mds_types.specs.Problem.{heat_at, no_row, parent_at}
use Rattle.mds_types.specs.RankSet.{has_rank}
use Rattle.mds_types.specs.Sums.{max_below, sum_below}
use Rattle.mds_types.proofs.SumsLemmas.{sum_below-same}
use Rattle.dirtree.specs.Tree.{Entry, IsTree, inodes_of, is_there, parent_of}
use Rattle.dirtree.proofs.Changes.{inside}
use Rattle.dir_pins.specs.Pins.{below, is_unpinned, nearest_pin, unpinned}
use Rattle.tree_parts.specs.DirDivision.{InDirPart, IsDirDivision, IsDirPlacing, dir_moved, dir_part_heat, greatest_dir_heat, row_label}
use Rattle.tree_parts.specs.ProblemRows.{problem_rows, row_of}
use Rattle.tree_parts.proofs.Places.{at_place, kept_at, kept_next, place_less}
use Rattle.tree_parts.proofs.RowsSoFar.{parent_is, parents_row}

-- a chain of members under a map that keeps edges between them
chain_mapped :
    (Edge Other : ℕ → ℕ → Type 0) (Member Image : ℕ → Type 0) (f : ℕ → ℕ)
    → ((x y : ℕ) → Member x → Member y → Edge x y → Other (f x) (f y)) → ((x : ℕ) → Member x → Image (f x))
    → (chain : List ℕ) (from to : ℕ) → Member from → IsChain Edge Member from chain to
    → IsChain Other Image (f from) (map f chain) (f to)
chain_mapped Edge Other Member Image f edges members [] from to is linked = ap f linked
chain_mapped Edge Other Member Image f edges members (next ∷ chain) from to is linked = (
  edges from next is linked.1 linked.0,
  members next linked.1,
  chain_mapped Edge Other Member Image f edges members chain next to linked.1 linked.2,
)

-- the sum over the numbers that pass a test, by their places
pub listed_sum :
    (g : ℕ → ℕ) (test : ℕ → Bool) (n : ℕ)
    → sum_below (length (filter test (below n))) (λ i. g (get_or (filter test (below n)) i 0))
    ≡ sum_below n (λ d. cond (test d) (g d) 0)
listed_sum g test zero = refl
listed_sum g test (suc n) =
    let kept : List ℕ = filter test (below n) in
    elim (cases_Bool (test n)) [
      | inl passes ↦
          let all : filter test (below (suc n)) ≡ kept ++ n ∷ [] = kept_next test n ∙ (rw passes refl) in
          let size : length (kept ++ n ∷ []) ≡ suc (length kept) = omega (arith, length-append kept (n ∷ [])) in
          let before : sum_below (length kept) (λ i. g (get_or (kept ++ n ∷ []) i 0)) ≡ sum_below (length kept) (λ i. g (get_or kept i 0)) =
          sum_below-same (length kept) _ _ (λ i l. ap g (get_or_append_left kept (n ∷ []) 0 i l)) in
          let last : g (get_or (kept ++ n ∷ []) (length kept) 0) ≡ g n = ap g (get_or-append_seam kept n [] 0) in
          rw (all, size, passes) (omega (arith, before, last, listed_sum g test n))
      | inr fails ↦
          let all : filter test (below (suc n)) ≡ kept = kept_next test n ∙ (rw fails (append-nil kept)) in
          rw (all, fails) (omega (arith, listed_sum g test n))
    ]

pub both_tests : (a b : Bool) (x : ℕ) → cond a (cond b x 0) 0 ≡ cond (a && b) x 0
both_tests true b x = refl
both_tests false b x = refl

same_greatest : (k : ℕ) (f g : ℕ → ℕ) → ((i : ℕ) → f i ≡ g i) → max_below k f ≡ max_below k g
same_greatest zero f g same = refl
same_greatest (suc k) f g same = rw (same_greatest k f g same, same k) refl

-- the row of a directory
abbrev pub row_of_dir : List (Option Entry) → List (Option ℕ) → ℕ → ℕ
row_of_dir es own d = length (filter (is_unpinned es own) (below d))

module _ (es : List (Option Entry)) (own : List (Option ℕ)) (heats now : List ℕ) (tree : IsTree es) where
  size : length (problem_rows es own heats now) ≡ length (unpinned es own)
  size = length-map (unpinned es own) (row_of es heats now (unpinned es own))

  free_below : (d : ℕ) → is_unpinned es own d ≡ true → d < length es
  free_below d free = inside es d (and_parts (is_there es d) (is_none (nearest_pin es own d)) free).0

  pub at_row : (d : ℕ) → is_unpinned es own d ≡ true → slice_index (unpinned es own) (row_of_dir es own d) ≡ d
  at_row d free = at_place (is_unpinned es own) (length es) d (free_below d free) free

  pub row_inside : (d : ℕ) → is_unpinned es own d ≡ true → row_of_dir es own d < length (unpinned es own)
  row_inside d free = place_less (is_unpinned es own) (length es) d (free_below d free) free

  pub free_row : (i : ℕ) → i < length (unpinned es own) → is_unpinned es own (slice_index (unpinned es own) i) ≡ true
  free_row i l = (kept_at (is_unpinned es own) (length es) i l).passes

  pub place_row : (i : ℕ) → i < length (unpinned es own) → row_of_dir es own (slice_index (unpinned es own) i) ≡ i
  place_row i l = (kept_at (is_unpinned es own) (length es) i l).place_is

  -- parents and rows of parents
  falls_to : (x y : ℕ) → is_unpinned es own x ≡ true → parent_of es x ≡ y
      → parent_at (problem_rows es own heats now) (row_of_dir es own x) ≡ row_of_dir es own y
  falls_to x y free up = parent_is es own heats now tree (row_of_dir es own x) (row_inside x free)
      ∙ ap (λ d. row_of_dir es own (parent_of es d)) (at_row x free) ∙ ap (row_of_dir es own) up

  rises_to : (i j : ℕ) → i < length (unpinned es own) → parent_at (problem_rows es own heats now) i ≡ j
      → parent_of es (slice_index (unpinned es own) i) ≡ slice_index (unpinned es own) j
  rises_to i j l up = sym (parents_row es own heats now tree i l) ∙ ap (slice_index (unpinned es own)) up

  -- placings of parts of directories and of parts of rows
  module _ (ranks : ℕ) (label rank : ℕ → ℕ) where
    pub placed_rows : IsDirPlacing es own ranks label rank → IsPlacing (problem_rows es own heats now) ranks (row_label es own label) rank
    placed_rows is = record {
      usable = λ i l. is.usable (slice_index (unpinned es own) i) (free_row i (omega (arith, size, l)));
      distinct = λ i j l m. is.distinct (slice_index (unpinned es own) i) (slice_index (unpinned es own) j)
          (free_row i (omega (arith, size, l))) (free_row j (omega (arith, size, m)));
    }

    pub placed_dirs : IsPlacing (problem_rows es own heats now) ranks (row_label es own label) rank → IsDirPlacing es own ranks label rank
    placed_dirs is = record {
      usable = λ d free. subst (λ x. has_rank ranks (rank (label x)) ≡ true) (at_row d free)
          (is.usable (row_of_dir es own d) (omega (arith, size, row_inside d free)));
      distinct = λ c d free also same.
          sym (ap label (at_row c free))
          ∙ (is.distinct (row_of_dir es own c) (row_of_dir es own d) (omega (arith, size, row_inside c free)) (omega (arith, size, row_inside d also))
          (ap (λ x. rank (label x)) (at_row c free) ∙ (same ∙ sym (ap (λ x. rank (label x)) (at_row d also))))
          ∙ ap label (at_row d also));
    }

    pub moves_agree : moved (problem_rows es own heats now) (row_label es own label) rank ≡ dir_moved es own now label rank
    moves_agree =
        let dirs : List ℕ = unpinned es own in
        let g : ℕ → ℕ = λ d. cond (eqb (get_or now d 0) (rank (label d))) 0 (inodes_of es d) in
        let row_is : (i : ℕ) → i < length dirs → moved_at (problem_rows es own heats now) i (rank (row_label es own label i)) ≡ g (slice_index dirs i) = λ i l.
        ap (λ (r : ProblemRow). cond (eqb r.now (rank (row_label es own label i))) 0 r.inodes) (get_or-map (row_of es heats now dirs) dirs i 0 no_row l) in
        let by_rows : moved (problem_rows es own heats now) (row_label es own label) rank ≡ sum_below (length dirs) (λ i. g (slice_index dirs i)) =
        rw size (sum_below-same (length dirs) _ _ row_is) in
        by_rows ∙ listed_sum g (is_unpinned es own) (length es)

  module _ (k : ℕ) (label : ℕ → ℕ) where
    in_rows : (part d : ℕ) → InDirPart es own label part d → InPart (problem_rows es own heats now) (row_label es own label) part (row_of_dir es own d)
    in_rows part d is = (omega (arith, size, row_inside d is.0), ap label (at_row d is.0) ∙ is.1)

    in_dirs : (part i : ℕ) → InPart (problem_rows es own heats now) (row_label es own label) part i
        → InDirPart es own label part (slice_index (unpinned es own) i)
    in_dirs part i is = (free_row i (omega (arith, size, is.0)), is.1)

    row_edge : (part x y : ℕ) → InDirPart es own label part x → InDirPart es own label part y → IsParentOrChild (parent_of es) x y
        → IsEdge (problem_rows es own heats now) (row_of_dir es own x) (row_of_dir es own y)
    row_edge part x y in_x in_y edge =
        ⊎_elim (λ (up : parent_of es x ≡ y). inl (falls_to x y in_x.0 up)) (λ (down : parent_of es y ≡ x). inr (falls_to y x in_y.0 down)) edge

    dir_edge : (part i j : ℕ) → InPart (problem_rows es own heats now) (row_label es own label) part i
        → InPart (problem_rows es own heats now) (row_label es own label) part j → IsEdge (problem_rows es own heats now) i j
        → IsParentOrChild (parent_of es) (slice_index (unpinned es own) i) (slice_index (unpinned es own) j)
    dir_edge part i j in_i in_j edge =
        ⊎_elim (λ (up : parent_at (problem_rows es own heats now) i ≡ j). inl (rises_to i j (omega (arith, size, in_i.0)) up))
        (λ (down : parent_at (problem_rows es own heats now) j ≡ i). inr (rises_to j i (omega (arith, size, in_j.0)) down)) edge

    to_rows : IsDirDivision es own k label → IsDivision (problem_rows es own heats now) k (row_label es own label)
    to_rows is = record {
      below = λ i l. is.below (slice_index (unpinned es own) i) (free_row i (omega (arith, size, l)));
      connected = λ part i j in_i in_j.
          (let c : ℕ = slice_index (unpinned es own) i in
          let d : ℕ = slice_index (unpinned es own) j in
          let (chain, linked) = is.connected part c d (in_dirs part i in_i) (in_dirs part j in_j) in
          let Link : ℕ → ℕ → Type 0 = λ x y. IsChain (IsEdge (problem_rows es own heats now))
          (InPart (problem_rows es own heats now) (row_label es own label) part) x (map (row_of_dir es own) chain) y in
          let mapped : Link (row_of_dir es own c) (row_of_dir es own d) =
          chain_mapped (IsParentOrChild (parent_of es)) (IsEdge (problem_rows es own heats now)) (InDirPart es own label part)
          (InPart (problem_rows es own heats now) (row_label es own label) part) (row_of_dir es own) (row_edge part) (in_rows part) chain c
          d (in_dirs part i in_i) linked in
          let from : Link i (row_of_dir es own d) = subst (λ x. Link x (row_of_dir es own d)) (place_row i (omega (arith, size, in_i.0))) mapped in
          (map (row_of_dir es own) chain, subst (λ y. Link i y) (place_row j (omega (arith, size, in_j.0))) from));
    }

    to_dirs : IsDivision (problem_rows es own heats now) k (row_label es own label) → IsDirDivision es own k label
    to_dirs is = record {
      below = λ d free. subst (λ x. label x < k) (at_row d free) (is.below (row_of_dir es own d) (omega (arith, size, row_inside d free)));
      connected = λ part c d in_c in_d.
          (let (chain, linked) = is.connected part (row_of_dir es own c) (row_of_dir es own d) (in_rows part c in_c) (in_rows part d in_d) in
          let at : ℕ → ℕ = slice_index (unpinned es own) in
          let Link : ℕ → ℕ → Type 0 = λ x y. IsChain (IsParentOrChild (parent_of es)) (InDirPart es own label part) x
          (map (slice_index (unpinned es own)) chain) y in
          let mapped : Link (at (row_of_dir es own c)) (at (row_of_dir es own d)) =
          chain_mapped (IsEdge (problem_rows es own heats now)) (IsParentOrChild (parent_of es))
          (InPart (problem_rows es own heats now) (row_label es own label) part)
          (InDirPart es own label part) (slice_index (unpinned es own)) (dir_edge part) (in_dirs part) chain (row_of_dir es own c)
          (row_of_dir es own d) (in_rows part c in_c) linked in
          let from : Link c (at (row_of_dir es own d)) = subst (λ x. Link x (at (row_of_dir es own d))) (at_row c in_c.0) mapped in
          (map (slice_index (unpinned es own)) chain, subst (λ y. Link c y) (at_row d in_d.0) from));
    }

    pub divisions_agree : IsDirDivision es own k label ↔ IsDivision (problem_rows es own heats now) k (row_label es own label)
    divisions_agree = (to_rows, to_dirs)

    pub heats_agree : (part : ℕ) → part_heat (problem_rows es own heats now) (row_label es own label) part ≡ dir_part_heat es own heats label part
    heats_agree part =
        let dirs : List ℕ = unpinned es own in
        let g : ℕ → ℕ = λ d. cond (eqb (label d) part) (slice_index heats d) 0 in
        let heat_is : (i : ℕ) → i < length dirs → heat_at (problem_rows es own heats now) i ≡ slice_index heats (slice_index dirs i) = λ i l.
        ap (λ (r : ProblemRow). r.heat) (get_or-map (row_of es heats now dirs) dirs i 0 no_row l) in
        let by_rows : part_heat (problem_rows es own heats now) (row_label es own label) part ≡ sum_below (length dirs) (λ i. g (slice_index dirs i)) =
        rw size (sum_below-same (length dirs) _ _ (λ i l. ap (λ (h : ℕ). cond (eqb (label (slice_index dirs i)) part) h 0) (heat_is i l))) in
        by_rows ∙ listed_sum g (is_unpinned es own) (length es)
        ∙ sum_below-same (length es) _ _ (λ d l. both_tests (is_unpinned es own d) (eqb (label d) part) (slice_index heats d))

    pub no_cooler : (heat : ℕ) → IsLowerBound (problem_rows es own heats now) k heat → IsDirDivision es own k label
        → heat ≤ greatest_dir_heat es own heats k label
    no_cooler heat lower is =
        let same : greatest_heat (problem_rows es own heats now) k (row_label es own label) ≡ greatest_dir_heat es own heats k label =
        same_greatest k _ _ heats_agree in
        let bound : heat ≤ greatest_heat (problem_rows es own heats now) k (row_label es own label) = lower (row_label es own label) (to_rows is) in
        omega (arith, same, bound)
