-- Hours that were not seen: half of the load lies alike on the children of one directory, the rest is as it is now.
use Rattle.std.specs.Prelude.{◌≡◌, ◌≢◌, ◌<◌, ◌≤◌, ◌⊎◌, ◌↔◌, ◌+◌, ◌*◌, ◌/◌, ◌^◌, ◌&&◌, ℕ, Bool, List, Some, false}
use Rattle.std.specs.Prelude.{length, min, true, slice_get, slice_index, slice_index_or, if◌then◌else◌}
use Rattle.std.specs.Option.{option_map_or}
use Rattle.mds_types.specs.declared.problem.ProblemError.{ProblemError}
use Rattle.mds_types.specs.declared.problem.ProblemRow.{ProblemRow}
use Rattle.mds_types.specs.CutTable.{is_child, sum_of_children}
use Rattle.mds_types.specs.Problem.{IsFirstFault, inodes_at, row_at}
use Rattle.mds_types.specs.Sums.{count_below, sum_below}
use Rattle.ceph_plan.specs.declared.hours.Hour.{Hour}
use Rattle.ceph_plan.specs.declared.hours_error.HoursError.TheVariants as hours_cause
use Rattle.ceph_plan.specs.declared.made.MadeHour.{MadeHour}
use Rattle.ceph_plan.specs.declared.made.TheConstants.{MADE_CHILDREN}
use Rattle.ceph_plan.specs.declared.plan_error.PlanError.{PlanError}
use Rattle.ceph_plan.specs.declared.plan_error.PlanError.TheVariants as cause
use Rattle.ceph_plan.specs.HourPlans.{IsCountedHour}

-- row i is a child of row d, and is to be planned
abbrev pub is_free_child : List ProblemRow → List Bool → ℕ → ℕ → Bool
is_free_child rows free d i = is_child rows d i && slice_index_or free i false

-- how many there are
abbrev pub free_children : List ProblemRow → List Bool → ℕ → ℕ
free_children rows free d = count_below (length rows) (is_free_child rows free d)

-- these are the numbers of such children of all rows
pub record AreCounts (rows : List ProblemRow) (free : List Bool) (counts : List ℕ) : Type 0 where
  pub size : length counts ≡ length rows
  pub each : (d : ℕ) → d < length rows → slice_index counts d ≡ free_children rows free d

-- what each row and all below it have, where row i itself has `own i`
abbrev pub AreTotals : List ProblemRow → (ℕ → ℕ) → (ℕ → ℕ) → Type 0
AreTotals rows own totals = (v : ℕ) → v < length rows → totals v ≡ own v + sum_of_children rows v totals

-- the rows, each with its number as its heat
pub record HaveNumbers (rows : List ProblemRow) (own : List ℕ) (found : List ProblemRow) : Type 0 where
  pub size : length found ≡ length rows
  pub rows_are : (i : ℕ) → i < length rows → row_at found i ≡ record (row_at rows i) { heat = slice_index own i }

-- 1 for a row with heat, 0 for another
abbrev pub heat_mark : List ℕ → ℕ → ℕ
heat_mark heats i = min (slice_index heats i) 1

-- there is heat at row d or below it
pub record IsWarm (rows : List ProblemRow) (heats : List ℕ) (d : ℕ) : Type 0 where
  pub hot : ℕ → ℕ
  pub are : AreTotals rows (heat_mark heats) hot
  pub some : 0 < hot d

-- row d and all below it have at least 2 percent of all inodes
pub record IsLarge (rows : List ProblemRow) (d : ℕ) : Type 0 where
  pub inodes : ℕ → ℕ
  pub are : AreTotals rows (inodes_at rows) inodes
  pub many : inodes 0 * 2 ≤ inodes d * 100

-- there is more than one inode at row d or below it
pub record IsFilled (rows : List ProblemRow) (d : ℕ) : Type 0 where
  pub inodes : ℕ → ℕ
  pub are : AreTotals rows (inodes_at rows) inodes
  pub some : 1 < inodes d

-- of all rows no more inodes are known than one each
pub record AreUncounted (rows : List ProblemRow) : Type 0 where
  pub inodes : ℕ → ℕ
  pub are : AreTotals rows (inodes_at rows) inodes
  pub none : inodes 0 ≤ length rows

-- load may come to row d: it is warm or not empty, or it isn't known which rows are empty
abbrev pub MayTake : List ProblemRow → List ℕ → ℕ → Type 0
MayTake rows heats d = IsWarm rows heats d ⊎ (IsFilled rows d ⊎ AreUncounted rows)

-- the rows that are to be planned and to which load may come
pub record AreTaking (rows : List ProblemRow) (free : List Bool) (heats : List ℕ) (taking : List Bool) : Type 0 where
  pub size : length taking ≡ length rows
  pub each : (d : ℕ) → d < length rows → (slice_index_or taking d false ≡ true)
      ↔ ((slice_index_or free d false ≡ true) × MayTake rows heats d)

-- an hour may be made for row d: it has enough children to which load may come, and is warm or large
pub record IsWorthMaking (rows : List ProblemRow) (free : List Bool) (heats : List ℕ) (d : ℕ) : Type 0 where
  pub many : MADE_CHILDREN ≤ free_children rows free d
  pub why : IsWarm rows heats d ⊎ IsLarge rows d

-- the numbers of such children, where a row is warm or large, and 0 where it is neither
pub record AreWorth (rows : List ProblemRow) (free : List Bool) (heats worth : List ℕ) : Type 0 where
  pub size : length worth ≡ length rows
  pub each : (d : ℕ) → d < length rows → ((IsWarm rows heats d ⊎ IsLarge rows d)
      × (slice_index worth d ≡ free_children rows free d))
      ⊎ (¬ (IsWarm rows heats d ⊎ IsLarge rows d) × (slice_index worth d ≡ 0))

-- the places of the greatest of these numbers, at most `count`: each is large enough, none comes twice, a greater one
-- comes first, and what is left out is too small, or no greater than each that is there
pub record AreLargest (numbers : List ℕ) (count : ℕ) (found : List ℕ) : Type 0 where
  pub few : length found ≤ count
  pub inside : (k : ℕ) → k < length found → slice_index found k < length numbers
  pub many : (k : ℕ) → k < length found → MADE_CHILDREN ≤ slice_index numbers (slice_index found k)
  pub once : (j k : ℕ) → j < k → k < length found → slice_index found j ≢ slice_index found k
  pub falls : (j k : ℕ) → j < k → k < length found
      → slice_index numbers (slice_index found k) ≤ slice_index numbers (slice_index found j)
  pub rest : (d : ℕ) → d < length numbers → MADE_CHILDREN ≤ slice_index numbers d
      → ((k : ℕ) → k < length found → slice_index found k ≢ d)
      → (length found ≡ count) × ((k : ℕ) → k < length found
      → slice_index numbers d ≤ slice_index numbers (slice_index found k))

-- all load of an hour: of its rows, and what is pinned
abbrev pub hour_load : List ℕ → List ℕ → ℕ
hour_load heats pinned = sum_below (length heats) (slice_index heats) + sum_below 64 (slice_index pinned)

-- half of it, as far as it is counted
abbrev pub half_load : List ℕ → List ℕ → ℕ
half_load heats pinned = min (hour_load heats pinned) (2 ^ 56) / 2

-- in this hour half of the load of now is alike on those children of row d, and the rest is half of what it is now
pub record IsMadeFrom (rows : List ProblemRow) (free : List Bool) (now : Hour) (d : ℕ) (hour : Hour) : Type 0 where
  pub size : length hour.heats.items ≡ length rows
  pub heats : (i : ℕ) → i < length rows → slice_index hour.heats.items i ≡ slice_index now.heats.items i / 2
      + (if is_free_child rows free d i
      then half_load now.heats.items now.pinned.items / free_children rows free d else 0)
  pub pinned_size : length hour.pinned.items ≡ 64
  pub pinned : (r : ℕ) → r < 64 → slice_index hour.pinned.items r ≡ slice_index now.pinned.items r / 2

-- an hour that may be made, for its directory
pub record IsMadeHour (rows : List ProblemRow) (free : List Bool) (now : Hour) (one : MadeHour) : Type 0 where
  pub inside : one.parent < length rows
  pub worth : IsWorthMaking rows free now.heats.items one.parent
  pub made : IsMadeFrom rows free now one.parent one.hour

-- the directory of made hour k
abbrev pub made_parent : List MadeHour → ℕ → ℕ
made_parent found k = option_map_or (λ (one : MadeHour). one.parent) (slice_get found k) 0

-- at most `count` made hours, each for another directory, those with the most children first, and what is left out has
-- no more than each that is there
pub record AreMadeOver (rows : List ProblemRow) (free : List Bool) (now : Hour) (count : ℕ) (found : List MadeHour)
    : Type 0 where
  pub few : length found ≤ count
  pub each : (k : ℕ) (one : MadeHour) → slice_get found k ≡ Some one → IsMadeHour rows free now one
  pub once : (j k : ℕ) → j < k → k < length found → made_parent found j ≢ made_parent found k
  pub falls : (j k : ℕ) → j < k → k < length found
      → free_children rows free (made_parent found k) ≤ free_children rows free (made_parent found j)
  pub rest : (d : ℕ) → d < length rows → IsWorthMaking rows free now.heats.items d
      → ((k : ℕ) → k < length found → made_parent found k ≢ d)
      → (length found ≡ count) × ((k : ℕ) → k < length found
      → free_children rows free d ≤ free_children rows free (made_parent found k))

-- at most `count` made hours, for the children that are to be planned and to which load may come
pub record AreMadeHours (rows : List ProblemRow) (free : List Bool) (now : Hour) (count : ℕ) (found : List MadeHour)
    : Type 0 where
  pub few : length found ≤ count
  pub are : (count ≡ 0) ⊎ ((taking : List Bool) × AreTaking rows free now.heats.items taking
      × AreMadeOver rows taking now count found)

-- why no hour is made: the one of now can't be counted, the directories can't be planned, or out of memory
abbrev pub IsMadeRefusal : List ProblemRow → Hour → PlanError → Type 0
IsMadeRefusal rows now error =
    ((error ≡ cause.Hours hours_cause.NotCounted) × ¬ (IsCountedHour now.heats.items now.pinned.items (length rows)))
    ⊎ (IsCountedHour now.heats.items now.pinned.items (length rows) × ((error ≡ cause.Memory)
    ⊎ ((fault : ProblemError) × (error ≡ cause.Problem fault) × IsFirstFault rows 1 fault)))
