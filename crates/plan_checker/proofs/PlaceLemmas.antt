-- The places of a set's ranks among each other.
use Rattle.std.proofs.Common.{◌≡◌, ◌≢◌, ◌∙◌, ◌+◌, ◌*◌, ◌<◌, ◌≤◌, cond, set, ℕ, true, List, length, arith, ⊎_elim, get_or-set_other, get_or-set_same}
use Rattle.std.proofs.lemmas.Nat.{same_from_place, row_fits}
use Rattle.std.proofs.lemmas.Bool.{cases_order}
use Rattle.mds_types.specs.RankSet.{has_rank, rank_count}
use Rattle.mds_types.specs.Sums.{count_below}
use Rattle.mds_types.proofs.SumsLemmas.{sum_below-fewer, count_below-le}
use Rattle.mds_types.proofs.RankSetLemmas.{count_below_more}
use Rattle.mds_types.proofs.PlacingLemmas.{has_rank-lt}
use Rattle.plan_checker.specs.Costs.{rank_place, cell_at}

-- a later number comes after a rank of the set
place_before : (ranks r s : ℕ) → has_rank ranks r ≡ true → r < s → rank_place ranks r < rank_place ranks s
place_before ranks r s has before =
    let more = rw has at (count_below_more r (has_rank ranks)) in
    let fewer = sum_below-fewer (r + 1) s (λ x. cond (has_rank ranks x) 1 0) (omega arith) in
    inside (rank_place ranks r) (count_below (r + 1) (has_rank ranks)) (rank_place ranks s) more fewer
  where
    inside : (a b c : ℕ) → b ≡ a + 1 → b ≤ c → a < c
    inside a b c e l = omega arith

-- a rank of the set has a place among its ranks
pub place_inside : (ranks r : ℕ) → has_rank ranks r ≡ true → rank_place ranks r < rank_count ranks
unfolding rank_count
place_inside ranks r has = place_before ranks r 64 has (has_rank-lt ranks r has)

pub rank_count-le : (ranks : ℕ) → rank_count ranks ≤ 64
unfolding rank_count
rank_count-le ranks = count_below-le 64 (has_rank ranks)

-- two ranks of the set with one place are one
pub place_same :
    (ranks r s : ℕ) → has_rank ranks r ≡ true → has_rank ranks s ≡ true → rank_place ranks r ≡ rank_place ranks s → r ≡ s
place_same ranks r s has_r has_s same =
    ⊎_elim (λ (is : r ≡ s). is)
    (⊎_elim
    (λ (before : r < s). absurd (omega (arith, same, place_before ranks r s has_r before)))
    (λ (after : s < r). absurd (omega (arith, same, place_before ranks s r has_s after))))
    (cases_order r s)

-- the cell of one rank is written
pub cell_here :
    (ranks : ℕ) (cells : List ℕ) (part number place value : ℕ) → has_rank ranks number ≡ true
    → place ≡ part * rank_count ranks + rank_place ranks number → place < length cells
    → cell_at ranks (set cells place value) part number ≡ value
cell_here ranks cells part number place value has place_is inside =
    rw (← place_is) (get_or-set_same cells place value 0 inside)

-- the cells of earlier ranks of the part stay
pub cell_before :
    (ranks : ℕ) (cells : List ℕ) (part number place value r : ℕ) → has_rank ranks r ≡ true → r < number
    → place ≡ part * rank_count ranks + rank_place ranks number
    → cell_at ranks (set cells place value) part r ≡ cell_at ranks cells part r
cell_before ranks cells part number place value r has before place_is =
    let apart = place_before ranks r number has before in
    get_or-set_other cells place (part * rank_count ranks + rank_place ranks r) value 0 (λ same. omega arith)

-- and those of other parts
pub cell_other :
    (ranks : ℕ) (cells : List ℕ) (part number place value p r : ℕ) → has_rank ranks number ≡ true → has_rank ranks r ≡ true
    → p ≢ part → place ≡ part * rank_count ranks + rank_place ranks number
    → cell_at ranks (set cells place value) p r ≡ cell_at ranks cells p r
cell_other ranks cells part number place value p r has has_r other place_is =
    get_or-set_other cells place (p * rank_count ranks + rank_place ranks r) value 0
    (λ same.
    other
    (same_from_place p (rank_place ranks r) part (rank_place ranks number) (rank_count ranks) (place_inside ranks r has_r)
    (place_inside ranks number has) (same ∙ place_is)).0)

-- a part's row of cells is within the table
pub row_inside : (ranks part count size : ℕ) → part < count → size ≡ count * rank_count ranks
    → part * rank_count ranks + rank_count ranks ≤ size
row_inside ranks part count size l size_is =
    rw size_is (row_fits part (rank_count ranks) count (rank_count ranks) l (omega arith))

-- where a cell of a part is
pub cell_inside :
    (ranks part count size r : ℕ) → part < count → size ≡ count * rank_count ranks → has_rank ranks r ≡ true
    → part * rank_count ranks + rank_place ranks r < size
cell_inside ranks part count size r l size_is has =
    omega (arith, row_inside ranks part count size l size_is, place_inside ranks r has)
