-- The parts of the present placement: the rows that a rank has now are one part.
use Rattle.std.specs.Prelude.{◌≡◌, ◌≢◌, ◌<◌, ◌≤◌, ◌⊎◌, ◌++◌, ◌∷◌, [], ℕ, List, length, slice_index}
use Rattle.mds_types.specs.declared.problem.ProblemRow.{ProblemRow}
use Rattle.mds_types.specs.Problem.{ProblemData, now_at}
use Rattle.mds_types.specs.RankSet.{rank_count}
use Rattle.mds_types.specs.Certificate.{AreRanks, IsPartition}
use Rattle.mds_types.specs.Division.{greatest_heat}
use Rattle.planner.specs.declared.present.Present.{Present}

-- a division into connected parts, no more than there are ranks, with this greatest heat
pub record IsBestDivision (problem : ProblemData) (part : List ℕ) (count greatest : ℕ) : Type 0 where
  pub few : count ≤ rank_count problem.ranks
  pub size : length part ≡ length problem.rows
  pub parts : IsPartition problem.rows count (slice_index part)
  pub greatest_is : greatest_heat problem.rows count (slice_index part) ≡ greatest

-- no rank comes twice
abbrev pub IsDistinct : List ℕ → Type 0
IsDistinct rank =
    (p q : ℕ) → p < length rank → q < length rank → slice_index rank p ≡ slice_index rank q → p ≡ q

-- the first n rows have parts, one for each rank that has some of them
pub record AreRanksNow (rows : List ProblemRow) (n : ℕ) (part rank : List ℕ) : Type 0 where
  pub size : length part ≡ n
  pub below : (i : ℕ) → i < n → slice_index part i < length rank
  pub now : (i : ℕ) → i < n → slice_index rank (slice_index part i) ≡ now_at rows i
  pub used : (p : ℕ) → p < length rank → (i : ℕ) × (i < n) × (slice_index part i ≡ p)
  pub distinct : IsDistinct rank

-- the number of a rank in the list, or the greatest of 32 bits for one that isn't there
abbrev pub IsNumber : List ℕ → ℕ → ℕ → Type 0
IsNumber rank r number =
    ((number < length rank) × (slice_index rank number ≡ r))
    ⊎ ((number ≡ 4294967295) × ((p : ℕ) → p < length rank → slice_index rank p ≢ r))

-- the part of a rank, which the list has already or gets as its last
abbrev pub IsPartOf : List ℕ → List ℕ → ℕ → ℕ → Type 0
IsPartOf old new now part =
    ((new ≡ old) × (part < length old) × (slice_index old part ≡ now))
    ⊎ ((new ≡ old ++ now ∷ []) × (part ≡ length old) × ((p : ℕ) → p < length old → slice_index old p ≢ now))

-- these are the parts of the present placement, with this greatest heat, and their ranks are in the set
pub record IsStaying (problem : ProblemData) (greatest : ℕ) (now : Present) : Type 0 where
  pub are : AreRanksNow problem.rows (length problem.rows) now.part.items now.rank.items
  pub division : IsBestDivision problem now.part.items (length now.rank.items) greatest
  pub ranks : AreRanks problem.ranks (length now.rank.items) (slice_index now.rank.items)
