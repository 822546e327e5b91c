-- What makes the proofs of a plan proofs: of its greatest heat, and of the inodes that it moves.
use Rattle.std.specs.Prelude.{◌≡◌, ◌≢◌, ◌<◌, ◌≤◌, ◌+◌, ◌-◌, ℕ, ℤ, pos, ◌+ℤ◌, ◌≤ℤ◌}
use Rattle.std.specs.Prelude.{true, List, length, slice_index, slice_index_or}
use Rattle.mds_types.specs.declared.problem.ProblemRow.{ProblemRow}
use Rattle.mds_types.specs.declared.cut_proof.CutProof.{CutProof}
use Rattle.mds_types.specs.declared.cut_proof.CutProof.TheVariants.{Zero, Heavy, Table}
use Rattle.mds_types.specs.declared.dual_proof.DualProof.{DualProof}
use Rattle.mds_types.specs.declared.plan.Plan.{Plan}
use Rattle.mds_types.specs.Problem.{ProblemData, heat_at}
use Rattle.mds_types.specs.Sums.{count_below}
use Rattle.mds_types.specs.Division.{InPart, IsDivision, greatest_heat, IsLowerBound}
use Rattle.mds_types.specs.RankSet.{has_rank, rank_count}
use Rattle.mds_types.specs.Placing.{cost, moved, IsPlacing}
use Rattle.mds_types.specs.CutTable.{IsCutTable, cuts_at}

-- why each division into at most k parts has at least this greatest heat
abbrev pub IsCutProof : List ProblemRow → ℕ → ℕ → CutProof → Type 0
IsCutProof rows k greatest Zero = greatest ≡ 0
IsCutProof rows k greatest (Heavy i) = (0 < greatest) × (i < length rows) × (heat_at rows i ≡ greatest)
IsCutProof rows k greatest (Table table) =
    (0 < greatest) × IsCutTable rows table (greatest - 1) × (k < cuts_at table 0 + 1)

abbrev pub part_price_at : DualProof → ℕ → ℤ
part_price_at dual part = slice_index_or dual.part_price part (pos 0)

-- the price of a rank, which is at its place among the ranks of the set
abbrev pub rank_price_at : DualProof → ℕ → ℕ → ℤ
rank_price_at dual ranks r = slice_index_or dual.rank_price (count_below r (has_rank ranks)) (pos 0)

-- why no placing of these k parts moves fewer inodes
pub record IsDualProof (rows : List ProblemRow) (ranks k : ℕ) (label rank : ℕ → ℕ) (dual : DualProof) : Type 0 where
  pub part_prices : length dual.part_price ≡ k
  pub rank_prices : length dual.rank_price ≡ rank_count ranks
  pub below : (part r : ℕ) → part < k → has_rank ranks r ≡ true
      → (part_price_at dual part +ℤ rank_price_at dual ranks r) ≤ℤ pos (cost rows label part r)
  pub not_above : (r : ℕ) → has_rank ranks r ≡ true → rank_price_at dual ranks r ≤ℤ pos 0
  pub unused : (r : ℕ) → has_rank ranks r ≡ true → ((part : ℕ) → part < k → rank part ≢ r)
      → rank_price_at dual ranks r ≡ pos 0
  pub chosen : (part : ℕ) → part < k
      → (part_price_at dual part +ℤ rank_price_at dual ranks (rank part)) ≡ pos (cost rows label part (rank part))

-- a division into k connected parts that each have a row
pub record IsPartition (rows : List ProblemRow) (k : ℕ) (label : ℕ → ℕ) : Type 0 where
  pub division : IsDivision rows k label
  pub used : (part : ℕ) → part < k → (i : ℕ) × InPart rows label part i

-- a division into no more parts than there are ranks, with its greatest heat and a proof that none has a smaller one
pub record IsCutCertified (rows : List ProblemRow) (ranks : ℕ) (part : List ℕ) (k greatest : ℕ)
    (proof : CutProof) : Type 0 where
  pub few : k ≤ ranks
  pub size : length part ≡ length rows
  pub parts : IsPartition rows k (slice_index part)
  pub greatest_is : greatest_heat rows k (slice_index part) ≡ greatest
  pub cut : IsCutProof rows ranks greatest proof

-- k different ranks of the set
pub record AreRanks (ranks k : ℕ) (rank : ℕ → ℕ) : Type 0 where
  pub usable : (part : ℕ) → part < k → has_rank ranks (rank part) ≡ true
  pub distinct : (p q : ℕ) → p < k → q < k → rank p ≡ rank q → p ≡ q

abbrev pub plan_label : Plan → ℕ → ℕ
plan_label plan i = slice_index plan.part i

abbrev pub plan_rank : Plan → ℕ → ℕ
plan_rank plan part = slice_index plan.rank part

-- a plan whose proofs hold
pub record IsCertified (problem : ProblemData) (plan : Plan) : Type 0 where
  pub size : length plan.part ≡ length problem.rows
  pub parts : IsPartition problem.rows (length plan.rank) (plan_label plan)
  pub ranks : AreRanks problem.ranks (length plan.rank) (plan_rank plan)
  pub greatest : greatest_heat problem.rows (length plan.rank) (plan_label plan) ≡ plan.greatest
  pub moved_is : moved problem.rows (plan_label plan) (plan_rank plan) ≡ plan.moved
  pub cut : IsCutProof problem.rows (rank_count problem.ranks) plan.greatest plan.cut
  pub dual : IsDualProof problem.rows problem.ranks (length plan.rank) (plan_label plan) (plan_rank plan) plan.dual

-- each row has a part and each part a rank, no division into as many parts as there are ranks has a smaller greatest
-- heat, and no placing of the plan's parts moves fewer inodes
pub record IsBest (problem : ProblemData) (plan : Plan) : Type 0 where
  pub size : length plan.part ≡ length problem.rows
  pub placed : (i : ℕ) → i < length problem.rows → plan_label plan i < length plan.rank
  pub division : IsDivision problem.rows (rank_count problem.ranks) (plan_label plan)
  pub greatest : greatest_heat problem.rows (rank_count problem.ranks) (plan_label plan) ≡ plan.greatest
  pub least : IsLowerBound problem.rows (rank_count problem.ranks) plan.greatest
  pub placing : IsPlacing problem.rows problem.ranks (plan_label plan) (plan_rank plan)
  pub moved_is : moved problem.rows (plan_label plan) (plan_rank plan) ≡ plan.moved
  pub cheapest : (other : ℕ → ℕ) → IsPlacing problem.rows problem.ranks (plan_label plan) other
      → plan.moved ≤ moved problem.rows (plan_label plan) other
