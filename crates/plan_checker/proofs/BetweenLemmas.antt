-- Sums over neighbouring rows add up.
use Rattle.std.proofs.Common.{◌≡◌, ◌∙◌, ◌+◌, ◌-◌, ◌*◌, ◌^◌, ◌<◌, ◌≤◌, cond, eqb, leb, sym}
use Rattle.std.proofs.Common.{ℕ, zero, suc, false, ◌&&◌, List, get_or, length, slice_index, refl, arith, ⊎_elim}
use Rattle.std.proofs.lemmas.Bool.{cases_lt, false_from_ne_true, le-leb, leb-true}
use Rattle.std.proofs.lemmas.List.{get_or_default}
use Rattle.std.proofs.lemmas.Nat.{row_fits}
use Rattle.mds_types.specs.declared.problem.ProblemRow.{ProblemRow}
use Rattle.mds_types.specs.Problem.{inodes_at, now_at}
use Rattle.mds_types.specs.Sums.{sum_below}
use Rattle.mds_types.proofs.PlacingLemmas.{has_rank-lt}
use Rattle.mds_types.proofs.SumsLemmas.{sum_below-split, sum_from-same, sum_below-same, sum_below-zero}
use Rattle.plan_checker.specs.Costs.{AreCells, AreCosts, AreRows, AreSums, own_between, own_inodes, part_total}
use Rattle.plan_checker.proofs.InodeLemmas.{part_inodes-le, part_total-inodes, cost-own}

-- no row comes before itself
not_later : (from i : ℕ) → i < from → leb from i ≡ false
not_later from i l = false_from_ne_true (leb from i) (λ yes. absurd (omega (arith, leb-true from i yes)))

pub none_between : (rows : List ProblemRow) (label : ℕ → ℕ) (from part r : ℕ) → own_between rows label from from part r ≡ 0
none_between rows label from part r =
    sum_below-zero from (λ i. cond (leb from i && (eqb (label i) part && eqb (now_at rows i) r)) (inodes_at rows i) 0)
    (λ i l. rw (not_later from i l) refl)

-- neighbouring rows
pub own-split :
    (rows : List ProblemRow) (label : ℕ → ℕ) (from mid to part r : ℕ) → from ≤ mid → mid ≤ to
    → own_between rows label from to part r ≡ own_between rows label from mid part r + own_between rows label mid to part r
own-split rows label from mid to part r low high =
    let own : ℕ → ℕ → ℕ = λ start i. cond (leb start i && (eqb (label i) part && eqb (now_at rows i) r)) (inodes_at rows i) 0 in
    let gap : to ≡ mid + (to - mid) = omega arith in
    let same = sum_from-same (to - mid) mid (own from) (own mid)
    (λ i l. rw (le-leb from i (omega (arith, low, l)), le-leb mid i l) refl) in
    omega (
      arith,
      sum_below-split (to - mid) mid to (own from) gap,
      sum_below-split (to - mid) mid to (own mid) gap,
      none_between rows label mid part r,
      same,
    )

-- all rows
pub own-whole :
    (rows : List ProblemRow) (label : ℕ → ℕ) (part r : ℕ) → own_between rows label 0 (length rows) part r ≡ own_inodes rows label part r
own-whole rows label part r =
    sum_below-same (length rows) (λ i. cond (leb 0 i && (eqb (label i) part && eqb (now_at rows i) r)) (inodes_at rows i) 0)
    (λ i. cond (eqb (label i) part && eqb (now_at rows i) r) (inodes_at rows i) 0)
    (λ i l. rw (le-leb 0 i (omega arith)) refl)

-- no rows
pub no_sums :
    (rows : List ProblemRow) (label : ℕ → ℕ) (count from : ℕ) (sums : List ℕ) → length sums ≡ count * 64
    → ((j : ℕ) (d : ℕ) → j < length sums → get_or sums j d ≡ 0) → AreSums rows label count from from sums
no_sums rows label count from sums size zeros = record {
  size = size;
  cells = λ p r lp lr.
      zeros (p * 64 + r) 0 (omega (arith, size, row_fits p 64 count 64 lp (omega arith)))
      ∙ sym (none_between rows label from p r);
  small = λ k d l. omega (arith, zeros k d l);
}

pub no_rows : (rows : List ProblemRow) (from : ℕ) → AreRows rows from from
no_rows rows from = record {
  ranks = λ i low high. absurd (omega arith);
  inodes = λ i low high. absurd (omega arith);
}

-- the sums of neighbouring rows, cell by cell
pub sums_joined :
    (rows : List ProblemRow) (label : ℕ → ℕ) (count from mid to : ℕ) (a b new : List ℕ) → from ≤ mid → mid ≤ to
    → AreSums rows label count from mid a → AreSums rows label count mid to b → length new ≡ length a
    → ((j : ℕ) → j < length a → slice_index new j ≡ slice_index a j + slice_index b j) → AreSums rows label count from to new
sums_joined rows label count from mid to a b new low high first second size each = record {
  size = size ∙ first.size;
  cells = λ p r lp lr.
      (let inside : p * 64 + r < length a = omega (arith, first.size, row_fits p 64 count 64 lp (omega arith)) in
      omega (
        arith,
        each (p * 64 + r) inside,
        first.cells p r lp lr,
        second.cells p r lp lr,
        own-split rows label from mid to p r low high,
      ));
  small = λ k d l.
      (let here : k < length a = omega (arith, size, l) in
      let there : k < length b = omega (arith, first.size, second.size, here) in
      omega (
        arith,
        get_or_default new k d 0 l,
        each k here,
        first.small k 0 here,
        second.small k 0 there,
        low,
        high,
      ));
}

pub rows_joined :
    (rows : List ProblemRow) (from mid to : ℕ) → AreRows rows from mid → AreRows rows mid to → AreRows rows from to
rows_joined rows from mid to first second = record {
  ranks = λ i low high.
      ⊎_elim (λ (before : i < mid). first.ranks i low before) (λ (after : mid ≤ i). second.ranks i after high) (cases_lt i mid);
  inodes = λ i low high.
      ⊎_elim (λ (before : i < mid). first.inodes i low before) (λ (after : mid ≤ i). second.inodes i after high) (cases_lt i mid);
}

-- the most inodes that n rows can have
inodes_few : (rows : List ProblemRow) (n : ℕ) → ((i : ℕ) → i < n → inodes_at rows i < 2 ^ 32)
    → sum_below n (inodes_at rows) ≤ n * 2 ^ 32
inodes_few rows zero small = omega arith
inodes_few rows (suc n) small = omega (arith, inodes_few rows n (λ i l. small i (omega arith)), small n (omega arith))

module _
    (rows : List ProblemRow) (label : ℕ → ℕ) (count ranks : ℕ) (sums : List ℕ)
    (are : AreSums rows label count 0 (length rows) sums) (known : AreRows rows 0 (length rows)) where
  owned : (p r : ℕ) → p < count → r < 64 → slice_index sums (p * 64 + r) ≡ own_inodes rows label p r
  owned p r lp lr = are.cells p r lp lr ∙ own-whole rows label p r

  seated : (i : ℕ) → i < length rows → now_at rows i < 64
  seated i l = known.ranks i (omega arith) l

  -- a part has no more inodes than there can be
  pub part_total_few : length rows ≤ 65536 → (p : ℕ) → p < count → part_total sums p ≤ 2 ^ 48
  part_total_few few p l =
      omega (
        arith,
        part_total-inodes rows label sums p (λ r lr. owned p r l lr) seated,
        part_inodes-le rows label p,
        inodes_few rows (length rows) (λ i li. known.inodes i (omega arith) li),
        few,
      )

  -- what a part moves is what it has, less what the rank has of it
  pub costs_from_sums : (cells : List ℕ) → AreCells sums count ranks cells → AreCosts rows label count ranks cells
  costs_from_sums cells made = record {
    size = made.size;
    costs = λ p r l has.
        omega (
          arith,
          made.moved p r l has,
          cost-own rows label p r,
          owned p r l (has_rank-lt ranks r has),
          part_total-inodes rows label sums p (λ s ls. owned p s l ls) seated,
        );
    small = made.small;
  }
