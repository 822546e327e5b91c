-- What holds a directory, and what is held at each rank.
use Rattle.std.specs.Prelude.{◌≡◌, ◌==◌, ◌&&◌, ◌||◌, ◌<◌, ◌-◌, ◌^◌, ℕ, zero, suc, Bool, true, false, not, is_some}
use Rattle.std.specs.Prelude.{List, length, slice_get, slice_index_or, Option, Some, None, if◌then◌else◌}
use Rattle.std.specs.Option.{option_map_or}
use Rattle.mds_types.specs.Sums.{sum_below}
use Rattle.ceph_snapshot.specs.declared.directory.Directory.{Directory}
use Rattle.ceph_snapshot.specs.declared.held.Held.{Held}
use Rattle.ceph_snapshot.specs.declared.held.Held.TheVariants.{Free, Pinned, Spread}

-- what the dumps say of directory i; past the last one, that it is plain and cold
abbrev pub parent_at : List Directory → ℕ → ℕ
parent_at directories i = option_map_or (λ (d : Directory). d.parent) (slice_get directories i) 0

abbrev pub heat_at : List Directory → ℕ → ℕ
heat_at directories i = option_map_or (λ (d : Directory). d.heat) (slice_get directories i) 0

abbrev pub writes_at : List Directory → ℕ → ℕ
writes_at directories i = option_map_or (λ (d : Directory). d.writes) (slice_get directories i) 0

abbrev pub inodes_at : List Directory → ℕ → ℕ
inodes_at directories i = option_map_or (λ (d : Directory). d.inodes) (slice_get directories i) 0

abbrev pub now_at : List Directory → ℕ → ℕ
now_at directories i = option_map_or (λ (d : Directory). d.now) (slice_get directories i) 0

abbrev pub pin_at : List Directory → ℕ → Option ℕ
pin_at directories i = option_map_or (λ (d : Directory). d.pin) (slice_get directories i) None

abbrev pub earlier_at : List Directory → ℕ → Option ℕ
earlier_at directories i = option_map_or (λ (d : Directory). d.earlier) (slice_get directories i) None

abbrev pub is_spread_at : List Directory → ℕ → Bool
is_spread_at directories i = option_map_or (λ (d : Directory). d.is_spread) (slice_get directories i) false

abbrev pub is_kept_at : List Directory → ℕ → Bool
is_kept_at directories i = option_map_or (λ (d : Directory). d.is_kept) (slice_get directories i) false

-- it stays where it lies: it is spread, or may not be pinned
abbrev pub is_fixed_at : List Directory → ℕ → Bool
is_fixed_at directories i = is_spread_at directories i || is_kept_at directories i

-- the root names itself, and each other directory comes after its parent
pub record AreParentsFirst (directories : List Directory) : Type 0 where
  pub root : parent_at directories 0 ≡ 0
  pub above : (i : ℕ) → 0 < i → i < length directories → parent_at directories i < i

-- the directory this many steps above directory i
abbrev pub climb : List Directory → ℕ → ℕ → ℕ
climb directories zero i = i
climb directories (suc steps) i = climb directories steps (parent_at directories i)

-- a directory that has a pin, or stays where it lies
abbrev pub is_holding : List Directory → ℕ → Bool
is_holding directories i = is_some (pin_at directories i) || is_fixed_at directories i

-- of the directories at and above i, the nearest that has a pin or stays where it lies; the root itself can't be pinned
pub record IsHolder (directories : List Directory) (i holder : ℕ) : Type 0 where
  pub steps : ℕ
  pub there : climb directories steps i ≡ holder
  pub below : 0 < holder
  pub holding : is_holding directories holder ≡ true
  pub nearer : (n : ℕ) → n < steps → is_holding directories (climb directories n i) ≡ false

-- a pin there holds directory i at the pin's rank, and what stays is held where it lies
abbrev pub held_by : List Directory → ℕ → ℕ → Held
held_by directories i holder =
    option_map_or (λ (rank : ℕ). Pinned rank) (pin_at directories holder) (Spread (now_at directories i))

pub record IsHeld (directories : List Directory) (i : ℕ) (hold : Held) : Type 0 where
  pub by : (holder : ℕ) → IsHolder directories i holder → hold ≡ held_by directories i holder
  pub free : ((holder : ℕ) → ¬ IsHolder directories i holder) → hold ≡ Free

-- how it is found: from what holds the parent
abbrev pub hold_above : Held → ℕ → Held
hold_above Free now = Free
hold_above (Pinned rank) now = Pinned rank
hold_above (Spread rank) now = Spread now

abbrev pub hold_below : Option ℕ → Bool → ℕ → Held → Held
hold_below (Some rank) spread now above = Pinned rank
hold_below None true now above = Spread now
hold_below None false now above = hold_above above now

abbrev pub held_at : List Held → ℕ → Held
held_at holds i = slice_index_or holds i Free

abbrev pub is_at : Held → ℕ → Bool
is_at Free r = false
is_at (Pinned rank) r = rank == r
is_at (Spread rank) r = rank == r

-- where directory i has this heat, that of the first n directories that are held at rank r, but for those that are
-- spread themselves
abbrev pub held_below_then : List Directory → List Held → (ℕ → ℕ) → ℕ → ℕ → ℕ
held_below_then directories holds heat r n =
    sum_below n
    (λ i. if is_at (held_at holds i) r && not (is_spread_at directories i) then heat i else 0)

-- and where each has its own
abbrev pub held_below : List Directory → List Held → ℕ → ℕ → ℕ
held_below directories holds r n = held_below_then directories holds (heat_at directories) r n

-- the greatest number of 64 bits
abbrev pub most_heat : ℕ
most_heat = 2 ^ 64 - 1

-- whether directory i is marked in a list
abbrev pub is_marked : List Bool → ℕ → Bool
is_marked marks i = slice_index_or marks i false
