-- The rows of a board's problem are a forest, whose tree is that of the directories that no pin holds.
use Rattle.std.proofs.Common.{◌≡◌, ℕ, zero, suc, ◌<◌, ◌≤◌, ◌^◌, ◌+◌, List, [], ◌∷◌, ◌++◌, length, map}
use Rattle.std.proofs.Common.{ap, ◌∙◌, refl, arith, Bool, true, false, get_or, set, append-nil, Option, ◌⊎◌, inl, inr}
use Rattle.std.specs.Prelude.{filter, slice_index}
use Rattle.std.specs.List.{All}
use Rattle.std.specs.Option.{option_map_or}
use Rattle.std.proofs.lemmas.Bool.{cases_eq, cases_lt}
use Rattle.std.proofs.lemmas.List.{get_or-map, get_or-set_same, get_or-set_other, get_or_past, length-map, map-append}
use Rattle.std.proofs.lemmas.List.Elements.{All-get_or, All-map}
use Rattle.mds_types.specs.declared.limits.TheConstants.{DIR_LIMIT}
use Rattle.mds_types.specs.declared.problem.ProblemRow.{ProblemRow}
use Rattle.mds_types.specs.Problem.{IsForest, IsParentBefore, IsProblem, no_row, parent_at, row_at}
use Rattle.mds_types.specs.RankSet.{rank_count}
use Rattle.dirtree.specs.Tree.{Entry, IsTree, inodes_of, parent_of}
use Rattle.dirtree.proofs.Walks.{above}
use Rattle.dir_pins.specs.Pins.{below, is_unpinned, unpinned}
use Rattle.dir_pins.proofs.NearestPin.{below_more}
use Rattle.dir_pins.proofs.UnpinnedTree.{unpinned_parent}
use Rattle.tree_parts.specs.ProblemRows.{place_of, problem_rows, row_of}
use Rattle.tree_parts.proofs.Places.{IsKept, at_place, kept_at, kept_few, place, place_less}

pub root_parent : (es : List (Option Entry)) → IsTree es → parent_of es 0 ≡ 0
root_parent es tree = ap (λ (e : Option Entry). option_map_or (λ e. e.parent) e 0) tree.rooted

pub parent_low : (es : List (Option Entry)) → IsTree es → (d : ℕ) → parent_of es d ≤ d
parent_low es tree zero = omega (arith, root_parent es tree)
parent_low es tree (suc d) = let less = above es (suc d) tree (omega arith) in omega (arith, less)

-- one more place is as it should be
pub set_more : (xs : List ℕ) (f : ℕ → ℕ) (n v : ℕ) → n < length xs → v ≡ f n → ((d : ℕ) → d < n → get_or xs d 0 ≡ f d) → (d : ℕ) → d < n + 1
    → get_or (set xs n v) d 0 ≡ f d
set_more xs f n v inside is before d h = elim (cases_eq d n) [
  | inl here ↦ rw here (get_or-set_same xs n v 0 inside ∙ is)
  | inr other ↦ get_or-set_other xs n d v 0 other ∙ before d (omega (arith, h, other))
]

-- a row whose parent's place was read
pub row_read : (es : List (Option Entry)) (heats now dirs : List ℕ) (d p : ℕ) → p ≡ place_of dirs (parent_of es d)
    → record { parent = p; heat = slice_index heats d; inodes = inodes_of es d; now = slice_index now d } ≡ row_of es heats now dirs d
row_read es heats now dirs d p is = let of : ℕ → ProblemRow =
    λ (q : ℕ). record { parent = q; heat = slice_index heats d; inodes = inodes_of es d; now = slice_index now d } in ap of is

-- a directory without a heat has heat 0
cool_at : (heats : List ℕ) → All (λ heat. heat ≤ 2 ^ 40) heats → (d : ℕ) → slice_index heats d ≤ 2 ^ 40
cool_at heats cool d = elim (cases_lt d (length heats)) [
  | inl inside ↦ All-get_or (λ heat. heat ≤ 2 ^ 40) heats d 0 inside cool
  | inr past ↦ let none : get_or heats d 0 ≡ 0 = get_or_past heats d 0 past in omega (arith, none)
]

module _ (es : List (Option Entry)) (own : List (Option ℕ)) (heats now : List ℕ) (tree : IsTree es) where
  -- a parent has an earlier place than its child
  earlier : (d : ℕ) → is_unpinned es own d ≡ true
      → (length (filter (is_unpinned es own) (below (parent_of es d))) < length (filter (is_unpinned es own) (below d)))
      ⊎ ((parent_of es d ≡ 0) × (d ≡ 0))
  earlier zero is = inr (root_parent es tree, refl)
  earlier (suc d) is = inl (place_less (is_unpinned es own) (suc d) (parent_of es (suc d)) (above es (suc d) tree (omega arith))
      (unpinned_parent es own (suc d) tree (omega arith) is))

  free_parent : (d : ℕ) → is_unpinned es own d ≡ true → is_unpinned es own (parent_of es d) ≡ true
  free_parent zero is = ap (is_unpinned es own) (root_parent es tree) ∙ is
  free_parent (suc d) is = unpinned_parent es own (suc d) tree (omega arith) is

  -- the row that row i names as its parent
  pub parent_is : (i : ℕ) → i < length (unpinned es own)
      → parent_at (problem_rows es own heats now) i ≡ length
      (filter (is_unpinned es own) (below (parent_of es (get_or (unpinned es own) i 0))))
  parent_is i h =
      let dirs : List ℕ = unpinned es own in
      let d : ℕ = get_or dirs i 0 in
      let row : row_at (problem_rows es own heats now) i ≡ row_of es heats now dirs d = get_or-map (row_of es heats now dirs) dirs i 0 no_row h in
      let kept : IsKept (is_unpinned es own) (length es) i d = kept_at (is_unpinned es own) (length es) i h in
      ap (λ (r : ProblemRow). r.parent) row ∙ place (is_unpinned es own) (length es) (parent_of es d) (omega (arith, parent_low es tree d, kept.below_n))

  before : (i : ℕ) → i < length (unpinned es own) → IsParentBefore (problem_rows es own heats now) i
  before i h =
      let dirs : List ℕ = unpinned es own in
      let d : ℕ = get_or dirs i 0 in
      let kept : IsKept (is_unpinned es own) (length es) i d = kept_at (is_unpinned es own) (length es) i h in
      elim (earlier d kept.passes) [
        | inl less ↦
            let low : parent_at (problem_rows es own heats now) i < i = omega (arith, parent_is i h, less, kept.place_is) in
            (λ first. absurd (omega (arith, low, first)), λ some. low)
        | inr root ↦
            let first : length (filter (is_unpinned es own) (below d)) ≡ 0 = ap (λ (x : ℕ). length (filter (is_unpinned es own) (below x))) root.1 in
            let none : length (filter (is_unpinned es own) (below (parent_of es d)))
            ≡ 0 = ap (λ (x : ℕ). length (filter (is_unpinned es own) (below x))) root.0 in
            (λ _. parent_is i h ∙ none, λ some. absurd (omega (arith, some, first, kept.place_is)))
      ]

  pub forest : length es ≤ DIR_LIMIT → All (λ row. row.heat ≤ 2 ^ 40) (problem_rows es own heats now) → IsForest (problem_rows es own heats now)
  forest small cool =
      let dirs : List ℕ = unpinned es own in
      let rows : List ProblemRow = problem_rows es own heats now in
      let size : length rows ≡ length dirs = length-map dirs (row_of es heats now dirs) in
      let few : length dirs ≤ length es = kept_few (is_unpinned es own) (length es) in
      record {
        few = omega (arith, size, few, small);
        root = elim (cases_lt 0 (length dirs)) [
          | inl some ↦ (before 0 some).0 refl
          | inr none ↦ ap (λ (r : ProblemRow). r.parent) (get_or_past rows 0 no_row (omega (arith, size, none)))
        ];
        above = λ i some h. (before i (omega (arith, size, h))).1 some;
        cool = λ i h. All-get_or (λ row. row.heat ≤ 2 ^ 40) rows i no_row h cool;
      }

  -- so where heats are within their limit, the rows are those of a problem
  pub problem : (ranks : ℕ) → length es ≤ DIR_LIMIT → All (λ heat. heat ≤ 2 ^ 40) heats → 0 < rank_count ranks
      → IsProblem (record { rows = problem_rows es own heats now; ranks = ranks })
  problem ranks small cool some =
      let dirs : List ℕ = unpinned es own in
      record {
        forest = forest small (All-map (λ row. row.heat ≤ 2 ^ 40) (row_of es heats now dirs) dirs (λ k d h. cool_at heats cool (get_or dirs k d)));
        ranked = some;
      }

  -- it is the row of the directory's parent
  pub parents_row : (i : ℕ) → i < length (unpinned es own)
      → slice_index (unpinned es own) (parent_at (problem_rows es own heats now) i) ≡ parent_of es (slice_index (unpinned es own) i)
  parents_row i h =
      let dirs : List ℕ = unpinned es own in
      let d : ℕ = get_or dirs i 0 in
      let kept : IsKept (is_unpinned es own) (length es) i d = kept_at (is_unpinned es own) (length es) i h in
      ap (slice_index dirs) (parent_is i h) ∙ at_place (is_unpinned es own) (length es) (parent_of es d)
      (omega (arith, parent_low es tree d, kept.below_n)) (free_parent d kept.passes)

-- what a pass over the numbers writes for one number more
module _ {A : Type 0} (f : ℕ → A) (test : ℕ → Bool) (n : ℕ) where
  pub map_same : test n ≡ false → map f (filter test (below (n + 1))) ≡ map f (filter test (below n))
  map_same is =
      let all : filter test (below (n + 1)) ≡ filter test (below n) = below_more test n ∙ (rw is (append-nil (filter test (below n)))) in
      ap (map f) all

  pub map_one : test n ≡ true → map f (filter test (below (n + 1))) ≡ map f (filter test (below n)) ++ f n ∷ []
  map_one is =
      let all : filter test (below (n + 1)) ≡ filter test (below n) ++ n ∷ [] = below_more test n ∙ (rw is refl) in
      ap (map f) all ∙ map-append f (filter test (below n)) (n ∷ [])
