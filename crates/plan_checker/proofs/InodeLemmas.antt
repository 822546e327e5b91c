-- What a part moves is what it has, less what the rank has of it now.
use Rattle.std.proofs.Common.{◌≡◌, ◌≢◌, ◌∙◌, ◌+◌, ◌*◌, ◌<◌, ◌≤◌, ap, cond, eqb, sym, ℕ, Bool, true, false, ◌&&◌, List, length, slice_index, refl, arith, ⊎_elim}
use Rattle.mds_types.specs.declared.problem.ProblemRow.{ProblemRow}
use Rattle.mds_types.specs.Problem.{inodes_at, now_at}
use Rattle.mds_types.specs.Placing.{cost, moved_at}
use Rattle.mds_types.specs.Sums.{sum_below}
use Rattle.mds_types.proofs.SumsLemmas.{sum_below-le, sum_below-term, sum_below-fewer, sum_below_more, sum_below-same}
use Rattle.mds_types.proofs.SumsLemmas.{sum_below-add, sum_below-swap, sum_below-pick, sum_below-zero}
use Rattle.plan_checker.specs.Costs.{own_inodes, part_total}

-- the inodes of a part
abbrev pub part_inodes : List ProblemRow → (ℕ → ℕ) → ℕ → ℕ
part_inodes rows label part = sum_below (length rows) (λ i. cond (eqb (label i) part) (inodes_at rows i) 0)

stays_or_moves : (b c : Bool) (x : ℕ) → cond b (cond c 0 x) 0 + cond (b && c) x 0 ≡ cond b x 0
stays_or_moves true true x = omega arith
stays_or_moves true false x = omega arith
stays_or_moves false c x = refl

-- a part moves at a rank what the rank doesn't have of it
pub cost-own :
    (rows : List ProblemRow) (label : ℕ → ℕ) (part r : ℕ)
    → cost rows label part r + own_inodes rows label part r ≡ part_inodes rows label part
cost-own rows label part r =
    let moves : ℕ → ℕ = λ i. cond (eqb (label i) part) (moved_at rows i r) 0 in
    let stays : ℕ → ℕ = λ i. cond (eqb (label i) part && eqb (now_at rows i) r) (inodes_at rows i) 0 in
    sym (sum_below-add (length rows) moves stays)
    ∙ sum_below-same (length rows) (λ i. moves i + stays i) (λ i. cond (eqb (label i) part) (inodes_at rows i) 0)
    (λ i l. stays_or_moves (eqb (label i) part) (eqb (now_at rows i) r) (inodes_at rows i))

at_one_rank : (n now x : ℕ) (b : Bool) → now < n → sum_below n (λ r. cond (b && eqb now r) x 0) ≡ cond b x 0
at_one_rank n now x true l = sum_below-pick n now (λ r. x) l
at_one_rank n now x false l = sum_below-zero n (λ r. cond (false && eqb now r) x 0) (λ r lr. refl)

-- the ranks have the inodes of a part between them
pub own-part_inodes :
    (rows : List ProblemRow) (label : ℕ → ℕ) (part n : ℕ) → ((i : ℕ) → i < length rows → now_at rows i < n)
    → sum_below n (λ r. own_inodes rows label part r) ≡ part_inodes rows label part
own-part_inodes rows label part n known =
    sum_below-swap n (length rows) (λ r i. cond (eqb (label i) part && eqb (now_at rows i) r) (inodes_at rows i) 0)
    ∙ sum_below-same (length rows)
    (λ i. sum_below n (λ r. cond (eqb (label i) part && eqb (now_at rows i) r) (inodes_at rows i) 0))
    (λ i. cond (eqb (label i) part) (inodes_at rows i) 0)
    (λ i l. at_one_rank n (now_at rows i) (inodes_at rows i) (eqb (label i) part) (known i l))

-- the sum of some of a part's cells
abbrev pub total_so_far : List ℕ → ℕ → ℕ → ℕ
total_so_far sums part n = sum_below n (λ r. slice_index sums (part * 64 + r))

pub part_total_all :
    (sums : List ℕ) (part n total : ℕ) → n ≡ 64 → total ≡ total_so_far sums part n → total ≡ part_total sums part
unfolding part_total
part_total_all sums part n total all is = is ∙ ap (total_so_far sums part) all

-- one cell more is within the sum
pub total_room :
    (sums : List ℕ) (part r total : ℕ) → r < 64 → total ≡ total_so_far sums part r
    → total + slice_index sums (part * 64 + r) ≤ part_total sums part
unfolding part_total
total_room sums part r total l is =
    room r 64 total (λ x. slice_index sums (part * 64 + x)) l is
  where
    room : (k n t : ℕ) (f : ℕ → ℕ) → k < n → t ≡ sum_below k f → t + f k ≤ sum_below n f
    room k n t f l is = omega (arith, sum_below_more k f, sum_below-fewer (k + 1) n f (omega arith))

pub cell_within : (sums : List ℕ) (part r : ℕ) → r < 64 → slice_index sums (part * 64 + r) ≤ part_total sums part
unfolding part_total
cell_within sums part r l = sum_below-term 64 r (λ x. slice_index sums (part * 64 + x)) l

-- the cells of a part add up to the part
pub part_total-inodes :
    (rows : List ProblemRow) (label : ℕ → ℕ) (sums : List ℕ) (part : ℕ)
    → ((r : ℕ) → r < 64 → slice_index sums (part * 64 + r) ≡ own_inodes rows label part r)
    → ((i : ℕ) → i < length rows → now_at rows i < 64) → part_total sums part ≡ part_inodes rows label part
unfolding part_total
part_total-inodes rows label sums part are known =
    sum_below-same 64 (λ r. slice_index sums (part * 64 + r)) (λ r. own_inodes rows label part r) are
    ∙ own-part_inodes rows label part 64 known

pub at_most : (b : Bool) (x : ℕ) → cond b x 0 ≤ x
at_most true x = omega arith
at_most false x = omega arith

-- a part has no more inodes than the rows
pub part_inodes-le :
    (rows : List ProblemRow) (label : ℕ → ℕ) (part : ℕ) → part_inodes rows label part ≤ sum_below (length rows) (inodes_at rows)
part_inodes-le rows label part =
    sum_below-le (length rows) (λ i. cond (eqb (label i) part) (inodes_at rows i) 0) (inodes_at rows)
    (λ i l. at_most (eqb (label i) part) (inodes_at rows i))
