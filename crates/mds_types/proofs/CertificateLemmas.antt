-- Why a plan whose proofs hold is best.
use Rattle.std.proofs.Common.{le_trans, ◌≡◌, ℕ, zero, suc, ◌-◌, ◌<◌, ◌≤◌, true, cond, eqb, List, length, refl, ap, ◌∙◌, arith, ⊎_elim}
use Rattle.std.proofs.lemmas.Bool.{cases_lt, eq-eqb, ne_eqb}
use Rattle.std.proofs.lemmas.List.{get_or_past}
use Rattle.std.specs.Prelude.{slice_index}
use Rattle.mds_types.specs.declared.problem.ProblemRow.{ProblemRow}
use Rattle.mds_types.specs.declared.cut_proof.Row.{Row}
use Rattle.mds_types.specs.declared.cut_proof.CutProof.{CutProof}
use Rattle.mds_types.specs.declared.cut_proof.CutProof.TheVariants.{Zero, Heavy, Table}
use Rattle.mds_types.specs.declared.plan.Plan.{Plan}
use Rattle.mds_types.specs.Problem.{ProblemData, IsProblem, IsForest, heat_at}
use Rattle.mds_types.specs.Sums.{sum_below, some_below}
use Rattle.mds_types.specs.Division.{IsDivision, part_heat, greatest_heat, IsLowerBound, IsLeast}
use Rattle.mds_types.specs.CutTable.{cuts_at, no_cut}
use Rattle.mds_types.specs.RankSet.{has_rank, rank_count}
use Rattle.mds_types.specs.Placing.{moved}
use Rattle.mds_types.specs.Certificate.{IsDualProof, IsCutCertified, IsCutProof, AreRanks, plan_label, plan_rank, IsCertified, IsBest}
use Rattle.mds_types.proofs.SumsLemmas.{sum_below-term, sum_below-zero, sum_below-distinct, sum_below-same, count_below-le, max_below-term, max_below-more}
use Rattle.mds_types.proofs.DivisionLemmas.{part_count-more}
use Rattle.mds_types.proofs.PlacingLemmas.{ranks_placing, has_rank-lt, moved-least}

-- a row is no hotter than the hottest part
pub heat-greatest :
    (rows : List ProblemRow) (k : ℕ) (label : ℕ → ℕ) (i : ℕ) → i < length rows → label i < k
    → heat_at rows i ≤ greatest_heat rows k label
heat-greatest rows k label i l below =
    let own : eqb (label i) (label i) ≡ true = eq-eqb (label i) (label i) refl in
    let in_part : heat_at rows i ≤ part_heat rows label (label i) =
    rw own at (sum_below-term (length rows) i (λ j. cond (eqb (label j) (label i)) (heat_at rows j) 0) l) in
    le_trans in_part (max_below-term k (label i) (part_heat rows label) below)

-- a table of no rows counts no cuts
no_cuts : (table : List Row) → length table ≡ 0 → cuts_at table 0 ≡ 0
no_cuts table none = ap (λ row. row.cuts) (get_or_past table 0 no_cut (omega arith))

-- a cut proof bounds every division
pub lower_bound :
    (rows : List ProblemRow) (k greatest : ℕ) (proof : CutProof) → IsForest rows → 0 < k
    → IsCutProof rows k greatest proof → IsLowerBound rows k greatest
lower_bound rows k greatest Zero forest some holds label division = omega arith
lower_bound rows k greatest (Heavy i) forest some holds label division =
    omega (arith, holds.2, heat-greatest rows k label i holds.1 (division.below i holds.1))
lower_bound rows k greatest (Table table) forest some holds label division =
    ⊎_elim
    (λ (less : greatest_heat rows k label < greatest).
    let within : (part : ℕ) → part < k → part_heat rows label part ≤ greatest - 1 = λ part l.
    (let most = max_below-term k part (part_heat rows label) l in omega arith) in
    ⊎_elim
    (λ (rows_there : 0 < length rows).
    let more = part_count-more rows table (greatest - 1) k label forest rows_there holds.1 division within in
    let most = count_below-le k (λ part. some_below (length rows) (λ i. eqb (label i) part)) in
    absurd (omega (arith, more, most, holds.2)))
    (λ (no_rows : length rows ≤ 0).
    absurd (omega (arith, no_cuts table (omega (arith, holds.1.size)), holds.2)))
    (cases_lt 0 (length rows)))
    (λ (enough : greatest ≤ greatest_heat rows k label). enough)
    (cases_lt (greatest_heat rows k label) greatest)

-- a division into fewer parts is one into more, with the same greatest heat
pub IsDivision-more :
    (rows : List ProblemRow) (k m : ℕ) (label : ℕ → ℕ) → k ≤ m → IsDivision rows k label → IsDivision rows m label
IsDivision-more rows k m label le division = record {
  below = λ i l. (let small = division.below i l in omega arith);
  connected = division.connected;
}

pub greatest_heat-more :
    (rows : List ProblemRow) (k m : ℕ) (label : ℕ → ℕ) → k ≤ m → IsDivision rows k label
    → greatest_heat rows m label ≡ greatest_heat rows k label
greatest_heat-more rows k m label le division =
    max_below-more k m (part_heat rows label) le (λ part past.
    sum_below-zero (length rows) (λ i. cond (eqb (label i) part) (heat_at rows i) 0) (λ i l.
    let small = division.below i l in
    rw (ne_eqb (label i) part (λ same. omega arith)) refl))

-- a certified division is one with the least greatest heat
pub least :
    (rows : List ProblemRow) (ranks : ℕ) (part : List ℕ) (k greatest : ℕ) (proof : CutProof) → IsForest rows → 0 < ranks
    → IsCutCertified rows ranks part k greatest proof → IsLeast rows ranks greatest
least rows ranks part k greatest proof forest some is = record {
  reached = (
    slice_index part,
    IsDivision-more rows k ranks (slice_index part) is.few is.parts.division,
    greatest_heat-more rows k ranks (slice_index part) is.few is.parts.division ∙ is.greatest_is,
  );
  lowest = lower_bound rows ranks greatest proof forest some is.cut;
}

-- different ranks of the set are no more than the set has
pub AreRanks-le : (ranks k : ℕ) (rank : ℕ → ℕ) → AreRanks ranks k rank → k ≤ rank_count ranks
unfolding rank_count
AreRanks-le ranks k rank are =
    let one : ℕ → ℕ = λ r. cond (has_rank ranks r) 1 0 in
    let each : sum_below k (λ part. one (rank part)) ≡ sum_below k (λ part. 1) =
    sum_below-same k (λ part. one (rank part)) (λ part. 1) (λ part l. rw (are.usable part l) refl) in
    omega (
      arith,
      each,
      ones k,
      sum_below-distinct k 64 rank one (λ part l. has_rank-lt ranks (rank part) (are.usable part l)) are.distinct,
    )
  where
    ones : (n : ℕ) → sum_below n (λ i. 1) ≡ n
    ones zero = refl
    ones (suc n) = omega (arith, ones n)

-- a certified plan is best
pub best :
    (problem : ProblemData) (plan : Plan) → IsProblem problem → IsCertified problem plan → IsBest problem plan
best problem plan valid is =
    let few = AreRanks-le problem.ranks (length plan.rank) (plan_rank plan) is.ranks in
    record {
      size = is.size;
      placed = is.parts.division.below;
      division = IsDivision-more problem.rows (length plan.rank) (rank_count problem.ranks) (plan_label plan) few
          is.parts.division;
      greatest = greatest_heat-more problem.rows (length plan.rank) (rank_count problem.ranks) (plan_label plan) few
          is.parts.division
          ∙ is.greatest;
      least = lower_bound problem.rows (rank_count problem.ranks) plan.greatest plan.cut valid.forest valid.ranked is.cut;
      placing = ranks_placing problem.rows problem.ranks (length plan.rank) (plan_label plan) (plan_rank plan)
          is.parts.division.below is.ranks;
      moved_is = is.moved_is;
      cheapest = λ other placing.
          rw (← is.moved_is)
          (moved-least problem.rows problem.ranks (length plan.rank) (plan_label plan) (plan_rank plan) plan.dual
          is.parts is.ranks is.dual other placing);
    }

-- a certified plan has a certified division
pub IsCutCertified-of :
    (problem : ProblemData) (plan : Plan) → IsCertified problem plan
    → IsCutCertified problem.rows (rank_count problem.ranks) plan.part (length plan.rank) plan.greatest plan.cut
IsCutCertified-of problem plan is = record {
  few = AreRanks-le problem.ranks (length plan.rank) (plan_rank plan) is.ranks;
  size = is.size;
  parts = is.parts;
  greatest_is = is.greatest;
  cut = is.cut;
}

-- a plan with a certified division, different ranks, its moved inodes and a dual proof is certified
pub IsCertified-from :
    (problem : ProblemData) (plan : Plan) → AreRanks problem.ranks (length plan.rank) (plan_rank plan)
    → IsCutCertified problem.rows (rank_count problem.ranks) plan.part (length plan.rank) plan.greatest plan.cut
    → moved problem.rows (plan_label plan) (plan_rank plan) ≡ plan.moved
    → IsDualProof problem.rows problem.ranks (length plan.rank) (plan_label plan) (plan_rank plan) plan.dual
    → IsCertified problem plan
IsCertified-from problem plan are division moved_is dual = record {
  size = division.size;
  parts = division.parts;
  ranks = are;
  greatest = division.greatest_is;
  moved_is = moved_is;
  cut = division.cut;
  dual = dual;
}
