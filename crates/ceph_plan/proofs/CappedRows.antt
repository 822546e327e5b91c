-- A division of rows that are capped is one of the rows.
use Rattle.std.proofs.Common.{◌≡◌, ◌∙◌, ◌<◌, ◌≤◌, ℕ, zero, suc, List, [], ◌∷◌, length, ap, refl, sym, subst, inl, inr, ⊎_elim, arith}
use Rattle.mds_types.specs.declared.problem.ProblemRow.{ProblemRow}
use Rattle.mds_types.specs.Connected.{IsChain}
use Rattle.mds_types.specs.Division.{InPart, IsDivision, IsEdge}
use Rattle.mds_types.specs.Problem.{IsForest, heat_at, parent_at}
use Rattle.minmax_search.specs.Found.{IsFound}
use Rattle.minmax_search.specs.declared.found.BestCut.{BestCut}
use Rattle.std.proofs.lemmas.List.{length-map}
use Rattle.ceph_plan.specs.Packing.{HaveParts}
use Rattle.ceph_plan.specs.Plans.{capped_row, capped_rows}

-- the first n rows have the parents of these rows, and there are no more
record HaveSameParents (rows found : List ProblemRow) (n : ℕ) : Type 0 where
  size : length found ≡ n
  parents : (i : ℕ) → i < n → parent_at found i ≡ parent_at rows i

parent-capped : (cap : ℕ) (rows : List ProblemRow) (i : ℕ) → parent_at (capped_rows cap rows) i ≡ parent_at rows i
parent-capped cap [] i = refl
parent-capped cap (row ∷ rows) zero = refl
parent-capped cap (row ∷ rows) (suc i) = parent-capped cap rows i

member-same : (rows found : List ProblemRow) (label : ℕ → ℕ) (part i : ℕ) → length found ≡ length rows → InPart found label part i → InPart rows label part i
member-same rows found label part i size member = (subst (λ (n : ℕ). i < n) size member.0, member.1)

edge-same : (rows found : List ProblemRow) (i j : ℕ) → HaveSameParents rows found (length rows) → i < length rows → j < length rows
    → IsEdge found i j → IsEdge rows i j
edge-same rows found i j same lt_i lt_j edge =
    ⊎_elim (λ (up : parent_at found i ≡ j). inl (sym (same.parents i lt_i) ∙ up))
    (λ (down : parent_at found j ≡ i). inr (sym (same.parents j lt_j) ∙ down))
    edge

chain-same : (rows found : List ProblemRow) (label : ℕ → ℕ) (part : ℕ) → HaveSameParents rows found (length rows)
    → (from : ℕ) (chain : List ℕ) (to : ℕ) → from < length rows
    → IsChain (IsEdge found) (InPart found label part) from chain to → IsChain (IsEdge rows) (InPart rows label part) from chain to
chain-same rows found label part same from [] to lt is = is
chain-same rows found label part same from (next ∷ chain) to lt is =
    let member : InPart rows label part next = member-same rows found label part next same.size is.1 in
    (edge-same rows found from next same lt member.0 is.0, member, chain-same rows found label part same next chain to member.0 is.2)

division-same : (rows found : List ProblemRow) (k : ℕ) (label : ℕ → ℕ) → HaveSameParents rows found (length rows) → IsDivision found k label
    → IsDivision rows k label
division-same rows found k label same division = record {
  below = λ i lt. division.below i (subst (λ (n : ℕ). i < n) (sym same.size) lt);
  connected = λ part i j member_i member_j.
      let back_i : InPart found label part i = (subst (λ (n : ℕ). i < n) (sym same.size) member_i.0, member_i.1) in
      let back_j : InPart found label part j = (subst (λ (n : ℕ). j < n) (sym same.size) member_j.0, member_j.1) in
      let got = division.connected part i j back_i back_j in
      (got.0, chain-same rows found label part same i got.0 j member_i.0 got.1);
}

pub division-capped : (cap : ℕ) (rows : List ProblemRow) (k : ℕ) (label : ℕ → ℕ) → IsDivision (capped_rows cap rows) k label → IsDivision rows k label
division-capped cap rows k label division =
    let same : HaveSameParents rows (capped_rows cap rows) (length rows) =
    record { size = length-map rows (capped_row cap); parents = λ i l. parent-capped cap rows i } in
    division-same rows (capped_rows cap rows) k label same division

-- what is found of the rows that are capped
pub found-capped : (rows those : List ProblemRow) (cap parts : ℕ) (best : BestCut) → those ≡ capped_rows cap rows → IsFound those parts best
    → IsFound (capped_rows cap rows) parts best
found-capped rows those cap parts best is found = subst (λ (some : List ProblemRow). IsFound some parts best) is found

pub parts-found : (rows those : List ProblemRow) (cap parts : ℕ) (best : BestCut) (part : List ℕ) → part ≡ best.cut.part.items → IsForest rows
    → those ≡ capped_rows cap rows → IsFound those parts best → HaveParts rows part best.cut.count
parts-found rows those cap parts best part is forest capped those_found =
    let found : IsFound (capped_rows cap rows) parts best = found-capped rows those cap parts best capped those_found in
    let same : length (capped_rows cap rows) ≡ length rows = length-map rows (capped_row cap) in
    subst (λ (some : List ℕ). HaveParts rows some best.cut.count) (sym is)
    (record {
      forest = forest;
      size = found.cut.size ∙ same;
      below = λ i lt. found.cut.parts.division.below i (subst (λ (n : ℕ). i < n) (sym same) lt);
    })

heat-capped : (cap : ℕ) (rows : List ProblemRow) (i : ℕ) → heat_at (capped_rows cap rows) i ≤ heat_at rows i
heat-capped cap [] i = omega arith
heat-capped cap (row ∷ rows) zero = omega arith
heat-capped cap (row ∷ rows) (suc i) = heat-capped cap rows i

-- the rows of a forest stay one when they are capped
pub forest-capped : (cap : ℕ) (rows those : List ProblemRow) → those ≡ capped_rows cap rows → IsForest rows → IsForest those
forest-capped cap rows those is forest =
    let size : length (capped_rows cap rows) ≡ length rows = length-map rows (capped_row cap) in
    subst IsForest (sym is) (record {
      few = omega (arith, size, forest.few);
      root = parent-capped cap rows 0 ∙ forest.root;
      above = λ i later inside. omega (arith, parent-capped cap rows i, forest.above i later (let lt : i < length rows = omega (arith, inside, size) in lt));
      cool = λ i inside. omega (arith, heat-capped cap rows i, forest.cool i (let lt : i < length rows = omega (arith, inside, size) in lt));
    })

pub some-capped : (cap : ℕ) (rows those : List ProblemRow) → those ≡ capped_rows cap rows → 0 < length rows → 0 < length those
some-capped cap rows those is some = omega (arith, ap length is, length-map rows (capped_row cap), some)
