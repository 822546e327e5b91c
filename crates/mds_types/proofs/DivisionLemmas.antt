-- How many parts a division within a bound has.
use Rattle.std.proofs.Common.{◌≡◌, ℕ, suc, ◌+◌, ◌-◌, ◌<◌, ◌≤◌, Bool, cond, List, [], ◌∷◌, length, refl, ap, sym, ◌∙◌, arith, ⊎_elim, inl, inr}
use Rattle.mds_types.specs.declared.problem.ProblemRow.{ProblemRow}
use Rattle.mds_types.specs.declared.cut_proof.Row.{Row}
use Rattle.mds_types.specs.Connected.{IsChain}
use Rattle.mds_types.specs.Problem.{IsForest, parent_at, heat_at}
use Rattle.mds_types.specs.Division.{IsEdge, InPart, IsDivision, part_count, part_heat, IsWithin}
use Rattle.mds_types.specs.CutTable.{IsCutTable, cuts_at, rest_at, price_at, is_cut_at}
use Rattle.mds_types.specs.Sums.{sum_below}
use Rattle.mds_types.proofs.SumsLemmas.{sum_from, sum_below-split, sum_below-fewer}
use Rattle.mds_types.proofs.Pieces.{child, edge, edge_acc, heat_acc}
use Rattle.mds_types.proofs.Fewest.{Table, fewest_from, row_beyond, balance}
use Rattle.mds_types.specs.Subtree.{IsBeyond, edges_below, top_heat}
use Rattle.mds_types.proofs.SubtreeLemmas.{edges-below, heat-top}
use Rattle.mds_types.proofs.Tops.{top, top_from, top_from-top, top_from-parent, tops-edges, tops-parts}

-- along a chain within a part, each row has the same top
same_top :
    (rows : List ProblemRow) → IsForest rows → (label : ℕ → ℕ) (part : ℕ) (chain : List ℕ) (from to : ℕ)
    → InPart rows label part from → IsChain (IsEdge rows) (InPart rows label part) from chain to
    → top_from (parent_at rows) label from from ≡ top_from (parent_at rows) label to to
same_top rows forest label part [] from to inside linked = ap (λ x. top_from (parent_at rows) label x x) linked
same_top rows forest label part (next ∷ chain) from to inside linked =
    let parent = parent_at rows in
    let at : ℕ → ℕ = λ x. top_from (parent_at rows) label x x in
    let climb : (x : ℕ) → x < length rows → label (parent_at rows x) ≡ label x → at x ≡ at (parent_at rows x) =
    λ x. top_from-parent (parent_at rows) label (length rows) forest.root forest.above x in
    let one_part : label from ≡ label next = inside.1 ∙ sym linked.1.1 in
    let step : at from ≡ at next =
    ⊎_elim
    (λ (up : parent_at rows from ≡ next).
    climb from inside.0 (ap label up ∙ sym one_part) ∙ ap at up)
    (λ (down : parent_at rows next ≡ from).
    sym (climb next linked.1.0 (ap label down ∙ one_part) ∙ ap at down))
    linked.0 in
    step ∙ same_top rows forest label part chain next to linked.1 linked.2

-- so a part has one top
pub one_top :
    (rows : List ProblemRow) → IsForest rows → (k : ℕ) (label : ℕ → ℕ) → IsDivision rows k label
    → (i j : ℕ) → i < length rows → j < length rows → label i ≡ label j
    → 0 < top (parent_at rows) label i → 0 < top (parent_at rows) label j → i ≡ j
one_top rows forest k label division i j li lj same ti tj =
    let (chain, linked) = division.connected (label j) i j (li, same) (lj, refl) in
    sym (top_from-top (parent_at rows) label i i ti)
    ∙ (same_top rows forest label (label j) chain i j (li, same) linked
    ∙ top_from-top (parent_at rows) label j j tj)

table_of :
    (rows : List ProblemRow) (table : List Row) (bound : ℕ) → IsForest rows → IsCutTable rows table bound
    → Table 0 (length rows) (parent_at rows) (heat_at rows) (cuts_at table) (rest_at table) (price_at table) (is_cut_at table) bound
table_of rows table bound forest is = record {
  above = forest.above;
  rest_is = λ i _ l. (is.each i l).rest_is;
  cuts_is = λ i _ l. (is.each i l).cuts_is;
  kept = λ i j _ li lj child cut. (is.each i li).kept j (record { inside = lj; child = child; cut_is = cut });
  taken = λ i j _ li lj child cut. (is.each i li).cut j (record { inside = lj; child = child; cut_is = cut });
  full = λ i j _ li lj child cut. (is.each i li).full j (record { inside = lj; child = child; cut_is = cut });
}

-- a division within the table's bound has more parts than the table has cuts
pub part_count-more :
    (rows : List ProblemRow) (table : List Row) (bound k : ℕ) (label : ℕ → ℕ) → IsForest rows → 0 < length rows
    → IsCutTable rows table bound → IsDivision rows k label → IsWithin rows k label bound
    → cuts_at table 0 < part_count rows k label
part_count-more rows table bound k label forest some is division within =
    let d = length rows - 1 in
    let size : length rows ≡ suc d = omega arith in
    let edges = fewest_from 0 (length rows) (parent_at rows) label (heat_at rows) (cuts_at table) (rest_at table)
    (price_at table) (is_cut_at table) bound (table_of rows table bound forest is)
    (λ v l. within (label v) (division.below v l)) d (omega arith) (λ v l. absurd (omega arith)) in
    omega (
      arith,
      edges,
      tops-edges (parent_at rows) label d (length rows) size,
      tops-parts (parent_at rows) label (length rows) k division.below (one_top rows forest k label division),
    )

-- the same where only the rows from s on are known, and the rows before s have no child cut
pub part_count-from :
    (rows : List ProblemRow) (q r price : ℕ → ℕ) (cut : ℕ → Bool) (bound s d k : ℕ) (label : ℕ → ℕ) → IsForest rows
    → length rows ≡ suc s + d
    → Table s (length rows) (parent_at rows) (heat_at rows) q r price cut bound
    → ((v : ℕ) → v < s → q v ≤ sum_from d (suc s) (λ j. cond (child (parent_at rows) v j) (q j) 0))
    → IsDivision rows k label → IsWithin rows k label bound → sum_below (suc s) q < part_count rows k label
part_count-from rows q r price cut bound s d k label forest size table inner division within =
    let f : ℕ → ℕ = edge (parent_at rows) label in
    let edges = fewest_from s (length rows) (parent_at rows) label (heat_at rows) q r price cut bound table
    (λ v l. within (label v) (division.below v l)) d size inner in
    omega (
      arith,
      edges,
      sum_below-split d (suc s) (length rows) f size,
      sum_below-split (s + d) 1 (length rows) f (omega arith),
      sum_below-fewer 1 (suc s) f (omega arith),
      tops-edges (parent_at rows) label (s + d) (length rows) (omega arith),
      tops-parts (parent_at rows) label (length rows) k division.below (one_top rows forest k label division),
    )

-- the same of each subtree: more cut edges than the row has cuts, or as many and at least as hot a piece at its top
pub table_beyond :
    (rows : List ProblemRow) (table : List Row) (bound k i : ℕ) (label : ℕ → ℕ) → IsForest rows
    → IsCutTable rows table bound → IsDivision rows k label → IsWithin rows k label bound → i < length rows
    → IsBeyond (cuts_at table i) (rest_at table i) (edges_below rows label i) (top_heat rows label i)
table_beyond rows table bound k i label forest is division within l =
    let d = length rows - suc i in
    let size : length rows ≡ suc i + d = omega arith in
    let held : (v : ℕ) → v < length rows → part_heat rows label (label v) ≤ bound = λ v lv. within (label v) (division.below v lv) in
    let known = table_of rows table bound forest is in
    let beyond = row_beyond 0 (length rows) (parent_at rows) label (heat_at rows) (cuts_at table) (rest_at table) (price_at table)
    (is_cut_at table) bound known held d i (omega arith) size
    (balance 0 (length rows) (parent_at rows) label (heat_at rows) (cuts_at table) (rest_at table) (price_at table)
    (is_cut_at table) bound known held d (suc i) i (omega arith) (omega arith) (omega arith)) in
    let edges = edges-below rows forest label d i size in
    let heat = heat-top rows forest label d i size in
    ⊎_elim
    (λ (more : cuts_at table i < edge_acc (parent_at rows) label d (suc i) i). inl (omega (arith, edges)))
    (λ (same : (cuts_at table i ≡ edge_acc (parent_at rows) label d (suc i) i)
    × (rest_at table i ≤ heat_acc (parent_at rows) label (heat_at rows) d (suc i) i)).
    inr (same.0 ∙ edges, omega (arith, same.1, heat)))
    beyond
