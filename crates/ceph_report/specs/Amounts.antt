-- Where directories are to be, and what each rank has now.
use Rattle.std.specs.Prelude.{◌≡◌, ◌==◌, ◌&&◌, ◌<◌, ℕ, not, List, length, min, slice_index, if◌then◌else◌}
use Rattle.mds_types.specs.Sums.{sum_below}
use Rattle.ceph_plan.specs.declared.row.PinRow.{PinRow}
use Rattle.ceph_plan.specs.Rule.{target_at}
use Rattle.ceph_snapshot.specs.declared.directory.Directory.{Directory}
use Rattle.ceph_snapshot.specs.declared.held.Held.{Held}
use Rattle.ceph_snapshot.specs.declared.held.Held.TheVariants.{Free, Pinned, Spread}
use Rattle.ceph_snapshot.specs.Rows.{is_free}
use Rattle.ceph_snapshot.specs.Holding.{heat_at, held_at, inodes_at, is_spread_at, most_heat, now_at}

-- the rank that a directory is to be at: where it is held, or else its target
abbrev pub goal_of : Held → ℕ → ℕ
goal_of Free target = target
goal_of (Pinned rank) target = rank
goal_of (Spread rank) target = rank

abbrev pub goal_at : List Held → List PinRow → ℕ → ℕ
goal_at holds rows i = goal_of (held_at holds i) (target_at rows i)

-- of the first n directories, the heat of those that are at rank r and aren't spread
abbrev pub heat_now : List Directory → ℕ → ℕ → ℕ
heat_now directories r n =
    sum_below n (λ i. if (now_at directories i == r) && not (is_spread_at directories i) then heat_at directories i
    else 0)

-- the inodes of what goes to another rank than it is at, which only what nothing holds does
abbrev pub going_of : ℕ → Held → ℕ → ℕ → ℕ
going_of now hold goal inodes = if is_free hold && not (now == goal) then inodes else 0

abbrev pub going_at : List Directory → List Held → List ℕ → ℕ → ℕ
going_at directories holds goals i =
    going_of (now_at directories i) (held_at holds i) (slice_index goals i) (inodes_at directories i)

-- of the first n directories, the inodes that go to rank r, and those that go from rank r
abbrev pub inodes_to : List Directory → List Held → List ℕ → ℕ → ℕ → ℕ
inodes_to directories holds goals r n =
    sum_below n (λ i. if slice_index goals i == r then going_at directories holds goals i else 0)

abbrev pub inodes_from : List Directory → List Held → List ℕ → ℕ → ℕ → ℕ
inodes_from directories holds goals r n =
    sum_below n (λ i. if now_at directories i == r then going_at directories holds goals i else 0)

-- of the first n directories, the inodes that go to another rank in directories without heat of their own
abbrev pub cold_inodes : List Directory → List Held → List ℕ → ℕ → ℕ
cold_inodes directories holds goals n =
    sum_below n (λ i. if heat_at directories i == 0 then going_at directories holds goals i else 0)

-- and the heat that goes to another rank
abbrev pub going_heat_at : List Directory → List Held → List ℕ → ℕ → ℕ
going_heat_at directories holds goals i =
    going_of (now_at directories i) (held_at holds i) (slice_index goals i) (heat_at directories i)

abbrev pub heat_going : List Directory → List Held → List ℕ → ℕ → ℕ
heat_going directories holds goals n = sum_below n (going_heat_at directories holds goals)

-- a number for each of 64 ranks, as far as 64 bits can count
pub record AreAmounts (amounts : List ℕ) (of : ℕ → ℕ) : Type 0 where
  pub size : length amounts ≡ 64
  pub at : (r : ℕ) → r < 64 → slice_index amounts r ≡ min most_heat (of r)
