-- Loads of ranks in each hour, where each row of a problem goes to some rank.
use Rattle.std.specs.Prelude.{◌≡◌, ◌==◌, ◌<◌, ◌≤◌, ◌+◌, ◌*◌, ◌^◌, ℕ, All, true}
use Rattle.std.specs.Prelude.{List, [], length, slice_get, slice_index, if◌then◌else◌}
use Rattle.std.specs.Option.{option_map_or}
use Rattle.mds_types.specs.declared.problem.ProblemRow.{ProblemRow}
use Rattle.mds_types.specs.Problem.{IsForest, heat_at}
use Rattle.mds_types.specs.RankSet.{has_rank, rank_count}
use Rattle.mds_types.specs.Sums.{max_below, sum_below}
use Rattle.ceph_plan.specs.declared.hours.Hour.{Hour}
use Rattle.ceph_plan.specs.declared.packing.Packing.{Packing}

-- this is the heat that is pinned to each of 64 ranks, and not too much of it
pub record IsPinnedHeat (pinned : List ℕ) : Type 0 where
  pub size : length pinned ≡ 64
  pub small : All (λ n. n ≤ 2 ^ 57) pinned

-- rank 0 is among the ranks, and the heat that is pinned in an hour can be counted
pub record ArePlanRanks (ranks : ℕ) (pinned : List ℕ) : Type 0 where
  pub zero : has_rank ranks 0 ≡ true
  pub held : IsPinnedHeat pinned

-- the rows are a forest, and each is in one of so many parts
pub record HaveParts (rows : List ProblemRow) (part : List ℕ) (count : ℕ) : Type 0 where
  pub forest : IsForest rows
  pub size : length part ≡ length rows
  pub below : (i : ℕ) → i < length rows → slice_index part i < count

-- of hour h: the heats of rows or parts, and what is pinned to each rank
abbrev pub heats_in : List Hour → ℕ → List ℕ
heats_in hours h = option_map_or (λ (hour : Hour). hour.heats.items) (slice_get hours h) []

abbrev pub pinned_in : List Hour → ℕ → List ℕ
pinned_in hours h = option_map_or (λ (hour : Hour). hour.pinned.items) (slice_get hours h) []

abbrev pub heat_in : List Hour → ℕ → ℕ → ℕ
heat_in hours h i = slice_index (heats_in hours h) i

abbrev pub pinned_at : List Hour → ℕ → ℕ → ℕ
pinned_at hours h r = slice_index (pinned_in hours h) r

-- the greatest in any hour
abbrev pub worst : List Hour → (ℕ → ℕ) → ℕ
worst hours f = max_below (length hours) f

-- what is pinned in each hour can be counted
abbrev pub ArePinned : List Hour → Type 0
ArePinned hours = (h : ℕ) → h < length hours → IsPinnedHeat (pinned_in hours h)

-- each hour is of these rows, none of which is hotter in it than the row itself
pub record HasHeats (rows : List ProblemRow) (heats : List ℕ) : Type 0 where
  pub size : length heats ≡ length rows
  pub cool : (i : ℕ) → i < length rows → slice_index heats i ≤ heat_at rows i

abbrev pub HaveHeats : List ProblemRow → List Hour → Type 0
HaveHeats rows hours = (h : ℕ) → h < length hours → HasHeats rows (heats_in hours h)

-- the only hour: the heat of these rows, and this is pinned
pub record IsOneHour (rows : List ProblemRow) (pinned : List ℕ) (hours : List Hour) : Type 0 where
  pub one : length hours ≡ 1
  pub pinned_is : pinned_in hours 0 ≡ pinned
  pub size : length (heats_in hours 0) ≡ length rows
  pub heats : (i : ℕ) → i < length rows → heat_in hours 0 i ≡ heat_at rows i

-- in each hour there is a heat for each of n rows or parts, and all can be counted
pub record AreHours (hours : List Hour) (n : ℕ) : Type 0 where
  pub pinned : ArePinned hours
  pub size : (h : ℕ) → h < length hours → length (heats_in hours h) ≡ n
  pub total : (h : ℕ) → h < length hours → sum_below n (heat_in hours h) ≤ 2 ^ 56

-- the load of rank r in hour h: what is pinned there, and what of n rows or parts goes there
abbrev pub load_in : List Hour → ℕ → (ℕ → ℕ) → ℕ → ℕ → ℕ
load_in hours n to h r = pinned_at hours h r + sum_below n (λ i. if to i == r then heat_in hours h i else 0)

-- the load of rank r, in the hour in which it is greatest
abbrev pub load : List Hour → ℕ → (ℕ → ℕ) → ℕ → ℕ
load hours n to r = worst hours (λ h. load_in hours n to h r)

-- the load of rank r by the heat of rows: what is pinned there, and the rows that go there
abbrev pub load_of_rows : List ℕ → List ProblemRow → (ℕ → ℕ) → ℕ → ℕ
load_of_rows pinned rows to r =
    slice_index pinned r + sum_below (length rows) (λ i. if to i == r then heat_at rows i else 0)

-- a table of the loads: 64 numbers an hour
pub record AreLoads (hours : List Hour) (n : ℕ) (to : ℕ → ℕ) (loads : List ℕ) : Type 0 where
  pub size : length loads ≡ length hours * 64
  pub are : (h r : ℕ) → h < length hours → r < 64 → slice_index loads (h * 64 + r) ≡ load_in hours n to h r

-- the greatest f of a rank of the set, and the sum
unfoldable pub greatest_of : ℕ → (ℕ → ℕ) → ℕ
greatest_of ranks f = max_below 64 (λ r. if has_rank ranks r then f r else 0)

unfoldable pub total_of : ℕ → (ℕ → ℕ) → ℕ
total_of ranks f = sum_below 64 (λ r. if has_rank ranks r then f r else 0)

abbrev pub greatest_load : ℕ → List Hour → ℕ → (ℕ → ℕ) → ℕ
greatest_load ranks hours n to = greatest_of ranks (load hours n to)

-- n directories of these heats: whichever ranks of the set they go to, one rank has at least this load
abbrev pub IsBoundOf : ℕ → List ℕ → ℕ → (ℕ → ℕ) → ℕ → Type 0
IsBoundOf ranks pinned n heat bound =
    (to : ℕ → ℕ) → ((i : ℕ) → i < n → has_rank ranks (to i) ≡ true)
    → bound ≤ greatest_of ranks (λ r. slice_index pinned r + sum_below n (λ i. if to i == r then heat i else 0))

-- the bound is no less than the mean load, than each heat and the least that is pinned to a rank of the set together,
-- and than what is pinned to each
pub record IsAsGreat (ranks : ℕ) (pinned : List ℕ) (n : ℕ) (heat : ℕ → ℕ) (bound : ℕ) : Type 0 where
  pub mean : sum_below n heat + total_of ranks (slice_index pinned) ≤ bound * rank_count ranks
  pub least : (r : ℕ) × (has_rank ranks r ≡ true) × ((i : ℕ) → i < n → heat i + slice_index pinned r ≤ bound)
  pub most : (r : ℕ) → has_rank ranks r ≡ true → slice_index pinned r ≤ bound

-- the rank that row i goes to with its part
abbrev pub packed_rank : List ℕ → List ℕ → ℕ → ℕ
packed_rank rank part i = slice_index rank (slice_index part i)

-- each part has a rank of the set, the root's part rank 0, and the loads and the greatest are right
pub record IsPacking (ranks : ℕ) (hours : List Hour) (rows : List ProblemRow) (part : List ℕ) (count : ℕ)
    (packing : Packing) : Type 0 where
  pub size : length packing.rank.items ≡ count
  pub usable : (p : ℕ) → p < count → has_rank ranks (slice_index packing.rank.items p) ≡ true
  pub root : slice_index packing.rank.items (slice_index part 0) ≡ 0
  pub loads_size : length packing.load.items ≡ 64
  pub loads : (r : ℕ) → r < 64 → slice_index packing.load.items r
      ≡ load hours (length rows) (packed_rank packing.rank.items part) r
  pub greatest : packing.greatest ≡ greatest_load ranks hours (length rows) (packed_rank packing.rank.items part)
