-- Why directories can't be folded.
use Rattle.std.specs.Prelude.{◌≡◌, ◌<◌, ◌^◌, ◌⊎◌, ℕ, Bool, List, Vec, false, length, slice_index, true}
use Rattle.std.specs.Global.{Global}
use Rattle.std.specs.List.{IsAmong}
use Rattle.mds_types.specs.Sums.{count_below}
use Rattle.ceph_snapshot.specs.declared.directory.Directory.{Directory}
use Rattle.ceph_snapshot.specs.Holding.{heat_at, inodes_at, most_heat, writes_at}
use Rattle.ceph_folding.specs.Folding.{AreGone, HasToStay, IsHome, IsPlain, brought}

-- of what each of n has, more comes together at one than 64 bits can count
pub record IsPastCount (amount home : ℕ → ℕ) (n : ℕ) : Type 0 where
  pub there : ℕ
  pub inside : there < n
  pub much : most_heat < brought amount home n there

-- where each goes to the home of its place, that is so of heat, writes or inodes, or of the heat of an earlier hour
abbrev pub IsTooMuchAt : List Directory → List (Vec ℕ Global) → (ℕ → ℕ) → Type 0
IsTooMuchAt directories hours home =
    IsPastCount (heat_at directories) home (length directories)
    ⊎ (IsPastCount (writes_at directories) home (length directories)
    ⊎ (IsPastCount (inodes_at directories) home (length directories)
    ⊎ ((hour : Vec ℕ Global) × IsAmong hours hour × IsPastCount (slice_index hour.items) home (length directories))))

-- and where these are gone, each goes to the nearest directory that is kept, at or above it
pub record IsTooMuch (directories : List Directory) (hours : List (Vec ℕ Global)) (gone : ℕ → Bool) : Type 0 where
  pub home : ℕ → ℕ
  pub nearest : (i : ℕ) → i < length directories → IsHome directories gone i (home i)
  pub much : IsTooMuchAt directories hours home

-- more directories have to stay than are to be left
pub record HaveToStay (directories : List Directory) (limit : ℕ) : Type 0 where
  pub stays : ℕ → Bool
  pub needed : (i : ℕ) → stays i ≡ true → HasToStay directories i
  pub many : limit < count_below (length directories) stays

-- they can't be folded until this many are left: there are more than 32 bits can number, more have to stay, or too much
-- comes together where the coldest are gone
abbrev pub AreTooMany : List Directory → ℕ → List (Vec ℕ Global) → Type 0
AreTooMany directories limit hours =
    (2 ^ 32 < length directories)
    ⊎ (HaveToStay directories limit
    ⊎ ((gone : ℕ → Bool) × AreGone directories gone × IsTooMuch directories hours gone))

-- the plain directories are gone that are no units, and no others
pub record AreOthersGone (directories : List Directory) (is_unit gone : ℕ → Bool) : Type 0 where
  pub plain : (i : ℕ) → i < length directories → gone i ≡ true → IsPlain directories i
  pub other : (i : ℕ) → i < length directories → gone i ≡ true → is_unit i ≡ false
  pub all : (i : ℕ) → i < length directories → IsPlain directories i → is_unit i ≡ false → gone i ≡ true

-- they can't be folded until the units are left
abbrev pub AreTooManyToUnits : List Directory → (ℕ → Bool) → List (Vec ℕ Global) → Type 0
AreTooManyToUnits directories is_unit hours =
    (2 ^ 32 < length directories)
    ⊎ ((gone : ℕ → Bool) × AreOthersGone directories is_unit gone × IsTooMuch directories hours gone)
