-- What a placing moves, and why prices bound it.
use Rattle.std.proofs.Common.{le_trans, ◌≡◌, ◌≢◌, ℕ, ◌+◌, ◌<◌, ◌≤◌, true, false, cond, eqb, ltb, List}
use Rattle.std.proofs.Common.{length, refl, ap, sym, ◌∙◌, arith, ⊎_elim, ℤ, pos, negsuc, ◌+ℤ◌, ◌≤ℤ◌}
use Rattle.std.proofs.lemmas.Bool.{and_parts, ltb-true, cases_Bool}
use Rattle.std.proofs.lemmas.Int.{ints}
use Rattle.std.specs.Int.{bit_at}
use borrow.Author.Differences.{up, down}
use Rattle.mds_types.specs.declared.problem.ProblemRow.{ProblemRow}
use Rattle.mds_types.specs.declared.dual_proof.DualProof.{DualProof}
use Rattle.mds_types.specs.Sums.{sum_below}
use Rattle.mds_types.specs.RankSet.{has_rank}
use Rattle.mds_types.specs.Placing.{moved_at, moved, cost, IsPlacing}
use Rattle.mds_types.specs.Certificate.{part_price_at, rank_price_at, IsDualProof, IsPartition, AreRanks}
use Rattle.mds_types.proofs.SumsLemmas.{sum_below-same, sum_below-le, sum_below-add, sum_below-swap, sum_below-pick, sum_below-distinct, sum_below-cover}

-- what moves is the sum of what each part moves
pub moved-cost :
    (rows : List ProblemRow) (k : ℕ) (label rank : ℕ → ℕ) → ((i : ℕ) → i < length rows → label i < k)
    → moved rows label rank ≡ sum_below k (λ part. cost rows label part (rank part))
moved-cost rows k label rank below =
    sum_below-same (length rows) (λ i. moved_at rows i (rank (label i)))
    (λ i. sum_below k (λ part. cond (eqb (label i) part) (moved_at rows i (rank part)) 0))
    (λ i l. sym (sum_below-pick k (label i) (λ part. moved_at rows i (rank part)) (below i l)))
    ∙ sum_below-swap (length rows) k (λ i part. cond (eqb (label i) part) (moved_at rows i (rank part)) 0)

-- a placing of parts that each have a row gives them different ranks of the set
pub placing_ranks :
    (rows : List ProblemRow) (ranks k : ℕ) (label rank : ℕ → ℕ) → IsPartition rows k label
    → IsPlacing rows ranks label rank → AreRanks ranks k rank
placing_ranks rows ranks k label rank parts placing = record {
  usable = λ part l.
      (let (i, inside) = parts.used part l in
      ap (λ p. has_rank ranks (rank p)) (sym inside.1) ∙ placing.usable i inside.0);
  distinct = λ p q lp lq same.
      (let (i, at_p) = parts.used p lp in
      let (j, at_q) = parts.used q lq in
      sym at_p.1
      ∙ (placing.distinct i j at_p.0 at_q.0 (ap rank at_p.1 ∙ (same ∙ ap rank (sym at_q.1)))
      ∙ at_q.1));
}

-- and the other way round
pub ranks_placing :
    (rows : List ProblemRow) (ranks k : ℕ) (label rank : ℕ → ℕ) → ((i : ℕ) → i < length rows → label i < k)
    → AreRanks ranks k rank → IsPlacing rows ranks label rank
ranks_placing rows ranks k label rank below are = record {
  usable = λ i l. are.usable (label i) (below i l);
  distinct = λ i j li lj same. are.distinct (label i) (label j) (below i li) (below j lj) same;
}

pub has_rank-lt : (ranks r : ℕ) → has_rank ranks r ≡ true → r < 64
has_rank-lt ranks r has = ltb-true r 64 (and_parts (ltb r 64) (eqb (bit_at ranks r) 1) has).0

priced : (y z : ℤ) (c : ℕ) → (y +ℤ z) ≤ℤ pos c → z ≤ℤ pos 0 → up y ≤ c + (down y + down z)
priced y z c below not_above = omega (arith, ints)

not_up : (z : ℤ) → z ≤ℤ pos 0 → up z ≡ 0
not_up (pos n) h = omega (arith, ints)
not_up (negsuc n) h = refl

matched : (y z : ℤ) (c : ℕ) → (y +ℤ z) ≡ pos c → z ≤ℤ pos 0 → c + (down y + down z) ≤ up y
matched y z c chosen not_above = omega (arith, ints, not_up z not_above)

-- two sums of costs, each with the same prices
less :
    (k : ℕ) (c d y x v w : ℕ → ℕ) → ((i : ℕ) → i < k → c i + (x i + v i) ≤ y i) → ((i : ℕ) → i < k → y i ≤ d i + (x i + w i))
    → sum_below k w ≤ sum_below k v → sum_below k c ≤ sum_below k d
less k c d y x v w first second owed =
    omega (
      arith,
      owed,
      sum_below-le k (λ i. c i + (x i + v i)) (λ i. d i + (x i + w i)) (λ i l. le_trans (first i l) (second i l)),
      sum_below-add k c (λ i. x i + v i),
      sum_below-add k x v,
      sum_below-add k d (λ i. x i + w i),
      sum_below-add k x w,
    )

-- the prices bound what any placing moves
pub moved-least :
    (rows : List ProblemRow) (ranks k : ℕ) (label rank : ℕ → ℕ) (dual : DualProof) → IsPartition rows k label
    → AreRanks ranks k rank → IsDualProof rows ranks k label rank dual
    → (other : ℕ → ℕ) → IsPlacing rows ranks label other → moved rows label rank ≤ moved rows label other
moved-least rows ranks k label rank dual parts are is other placing =
    let there = placing_ranks rows ranks k label other parts placing in
    let y : ℕ → ℤ = part_price_at dual in
    let z : ℕ → ℤ = rank_price_at dual ranks in
    let owed : ℕ → ℕ = λ r. cond (has_rank ranks r) (down (rank_price_at dual ranks r)) 0 in
    let at_owed : (r : ℕ) → has_rank ranks r ≡ true → owed r ≡ down (rank_price_at dual ranks r) = λ r has. rw has refl in
    let best : (part : ℕ) → part < k
    → cost rows label part (rank part) + (down (y part) + owed (rank part)) ≤ up (y part) = λ part l.
    rw (at_owed (rank part) (are.usable part l))
    (matched (y part) (z (rank part)) (cost rows label part (rank part)) (is.chosen part l)
    (is.not_above (rank part) (are.usable part l))) in
    let any : (part : ℕ) → part < k
    → up (y part) ≤ cost rows label part (other part) + (down (y part) + owed (other part)) = λ part l.
    rw (at_owed (other part) (there.usable part l))
    (priced (y part) (z (other part)) (cost rows label part (other part))
    (is.below part (other part) l (there.usable part l))
    (is.not_above (other part) (there.usable part l))) in
    let idle : (r : ℕ) → r < 64 → ((part : ℕ) → part < k → rank part ≢ r) → owed r ≡ 0 = λ r l none.
    ⊎_elim (λ (has : has_rank ranks r ≡ true). at_owed r has ∙ ap down (is.unused r has none))
    (λ (has_not : has_rank ranks r ≡ false). rw has_not refl)
    (cases_Bool (has_rank ranks r)) in
    let all_owed = sum_below-cover k 64 rank owed (λ part l. has_rank-lt ranks (rank part) (are.usable part l)) idle in
    let some_owed = sum_below-distinct k 64 other owed
    (λ part l. has_rank-lt ranks (other part) (there.usable part l)) there.distinct in
    rw (moved-cost rows k label rank parts.division.below, moved-cost rows k label other parts.division.below)
    (less k (λ part. cost rows label part (rank part)) (λ part. cost rows label part (other part))
    (λ part. up (y part)) (λ part. down (y part)) (λ part. owed (rank part)) (λ part. owed (other part))
    best any (le_trans some_owed all_owed))
