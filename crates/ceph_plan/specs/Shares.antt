-- What hours count: each as much of what a rank has in it at least.
use Rattle.std.specs.Prelude.{◌≡◌, ◌==◌, ◌<◌, ◌+◌, ◌*◌, ◌/◌, ◌%◌, ◌^◌, ℕ, List, length, max, min}
use Rattle.std.specs.Prelude.{slice_index, if◌then◌else◌}
use Rattle.mds_types.specs.declared.problem.ProblemRow.{ProblemRow}
use Rattle.mds_types.specs.Problem.{row_at}
use Rattle.mds_types.specs.Sums.{sum_below}
use Rattle.ceph_plan.specs.declared.hours.Hour.{Hour}
use Rattle.ceph_plan.specs.declared.shares.Shares.{Shares}
use Rattle.ceph_plan.specs.declared.shares.TheConstants.{SCALE}
use Rattle.ceph_plan.specs.Packing.{HaveHeats, IsAsGreat, IsBoundOf, heat_in, heats_in, pinned_in}

-- how many parts of the bound a heat is, where the whole bound is `scale` parts; rounded up
abbrev pub scaled : ℕ → ℕ → ℕ → ℕ
scaled scale bound heat = heat * scale / bound + min 1 (heat * scale % bound)

-- that, as far as it is counted: to 2^57, or to the heat itself
abbrev pub share_of : ℕ → ℕ → ℕ → ℕ
share_of scale bound heat = min (scaled scale bound heat) (max heat (2 ^ 57))

-- how many parts the bound of an hour is: of the only hour as many as it is; of one of several alike, by the percent
-- that it counts
abbrev pub scale_of : ℕ → ℕ → ℕ → ℕ
scale_of hours bound weight = if hours == 1 then bound else SCALE * weight / 100

-- the bound of an hour: no assignment of rows of these heats to ranks of the set has a cooler hottest rank in it
pub record IsBoundOfHour (ranks : ℕ) (pinned heats : List ℕ) (bound : ℕ) : Type 0 where
  pub lower : IsBoundOf ranks pinned (length heats) (slice_index heats) bound
  pub great : IsAsGreat ranks pinned (length heats) (slice_index heats) bound

-- what these heats count in one of so many hours, with this bound and by this percent
pub record CountFor (hours bound weight : ℕ) (heats shares : List ℕ) : Type 0 where
  pub size : length shares ≡ length heats
  pub each : (i : ℕ) → i < length heats → slice_index shares i
      ≡ share_of (scale_of hours (max bound 1) weight) (max bound 1) (slice_index heats i)

-- each hour counts by its own bound, and a row what it counts in all hours
pub record AreShares (ranks : ℕ) (rows : List ProblemRow) (hours : List Hour) (weights : List ℕ) (found : Shares)
    : Type 0 where
  pub bounds_size : length found.bounds.items ≡ length hours
  pub bounds : (h : ℕ) → h < length hours → IsBoundOfHour ranks (pinned_in hours h) (heats_in hours h)
      (slice_index found.bounds.items h)
  pub size : length found.hours.items ≡ length hours
  pub heats : (h : ℕ) → h < length hours → CountFor (length hours) (slice_index found.bounds.items h)
      (slice_index weights h) (heats_in hours h) (heats_in found.hours.items h)
  pub pinned : (h : ℕ) → h < length hours → CountFor (length hours) (slice_index found.bounds.items h)
      (slice_index weights h) (pinned_in hours h) (pinned_in found.hours.items h)
  pub rows_size : length found.rows.items ≡ length rows
  pub rows_are : (i : ℕ) → i < length rows → row_at found.rows.items i
      ≡ record (row_at rows i) { heat = sum_below (length hours) (λ h. heat_in found.hours.items h i) }
  pub have : HaveHeats found.rows.items found.hours.items
