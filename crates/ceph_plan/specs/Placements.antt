-- Plans that are made from a rank for each row: the parts are the largest connected sets of rows that go to one rank.
use Rattle.std.specs.Prelude.{◌≡◌, ◌==◌, ◌<◌, ◌≤◌, ℕ, Bool, true, not, List, length, slice_index}
use Rattle.mds_types.specs.declared.problem.ProblemRow.{ProblemRow}
use Rattle.mds_types.specs.Division.{IsDivision}
use Rattle.mds_types.specs.Problem.{IsForest, parent_at}
use Rattle.mds_types.specs.RankSet.{has_rank}
use Rattle.residual_cut.specs.Labels.{IsLabelled}
use Rattle.ceph_plan.specs.declared.hours.Hour.{Hour}
use Rattle.ceph_plan.specs.Packing.{IsPacking, packed_rank}
use Rattle.ceph_plan.specs.Plans.{moved_inodes}
use Rattle.ceph_plan.specs.declared.plan.Planned.{Planned}

-- each of n rows has a rank of the set, the root rank 0
pub record AreGoals (ranks n : ℕ) (goals : List ℕ) : Type 0 where
  pub size : length goals ≡ n
  pub root : 0 < n → slice_index goals 0 ≡ 0
  pub usable : (i : ℕ) → i < n → has_rank ranks (slice_index goals i) ≡ true

-- each of n rows but the root has the rank that is wanted, wherever that is one of the set
abbrev pub AreAsWanted : ℕ → List ℕ → ℕ → List ℕ → Type 0
AreAsWanted ranks wanted n goals =
    (i : ℕ) → 0 < i → i < n → has_rank ranks (slice_index wanted i) ≡ true → slice_index goals i ≡ slice_index wanted i

-- the row goes to another rank than the row above it
abbrev pub is_border : List ProblemRow → List ℕ → ℕ → Bool
is_border rows goals i = not (slice_index goals i == slice_index goals (parent_at rows i))

-- the first n rows are in parts: one begins where a row goes to another rank than the row above it, and each part has
-- the rank of its rows
pub record AreRegions (rows : List ProblemRow) (goals : List ℕ) (n : ℕ) (part rank : List ℕ) : Type 0 where
  pub size : length part ≡ n
  pub few : length rank ≤ n
  pub labelled : IsLabelled rows (is_border rows goals) (slice_index part) (length rank) n
  pub ranks : (i : ℕ) → i < n → slice_index rank (slice_index part i) ≡ slice_index goals i

-- each row is in one part, each part is connected and on one rank of the set, the root's on rank 0; loads and moved
-- inodes are right
pub record IsPlacement (ranks : ℕ) (hours : List Hour) (rows : List ProblemRow) (plan : Planned) : Type 0 where
  pub forest : IsForest rows
  pub size : length plan.part.items ≡ length rows
  pub division : IsDivision rows plan.count (slice_index plan.part.items)
  pub packing : IsPacking ranks hours rows plan.part.items plan.count plan.packing
  pub moved : plan.moved ≡ moved_inodes rows plan.part.items plan.packing.rank.items (length rows)

-- the plan has each row at this rank
abbrev pub IsPlacementAt : List ProblemRow → List ℕ → Planned → Type 0
IsPlacementAt rows goals plan =
    (i : ℕ) → i < length rows → packed_rank plan.packing.rank.items plan.part.items i ≡ slice_index goals i
