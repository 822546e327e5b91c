-- What folding leaves: the directories that are kept, each with what the folded ones below it had.
use Rattle.std.specs.Prelude.{◌≡◌, ◌==◌, ◌<◌, ◌≤◌, ◌+◌, ◌&&◌, ◌⊎◌, ℕ, Bool, true, false, not, nat_le, List}
use Rattle.std.specs.Prelude.{All, Vec, length, slice_get, slice_index, Option, None, if◌then◌else◌}
use Rattle.std.specs.Global.{Global}
use Rattle.std.specs.List.{sum_by}
use Rattle.std.specs.Option.{option_map}
use Rattle.mds_types.specs.Sums.{count_below, sum_below}
use Rattle.ceph_dumps.specs.OneForOne.{AreOneForOne}
use Rattle.ceph_snapshot.specs.declared.directory.Directory.{Directory}
use Rattle.ceph_snapshot.specs.Holding.{climb, earlier_at, heat_at, inodes_at, is_holding, is_kept_at}
use Rattle.ceph_snapshot.specs.Holding.{is_spread_at, most_heat, now_at, parent_at, writes_at}
use Rattle.ceph_snapshot.specs.Policies.{IsLeftKept}

abbrev pub all_heat : List Directory → ℕ
all_heat directories = sum_by (λ d. d.heat) directories

abbrev pub all_writes : List Directory → ℕ
all_writes directories = sum_by (λ d. d.writes) directories

abbrev pub all_inodes : List Directory → ℕ
all_inodes directories = sum_by (λ d. d.inodes) directories

-- a directory that may be folded: it isn't the root, has no pin of its own, isn't spread, and is where its parent is,
-- which isn't spread either
pub record IsPlain (directories : List Directory) (i : ℕ) : Type 0 where
  pub below : 0 < i
  pub free : is_holding directories i ≡ false
  pub unset : earlier_at directories i ≡ None
  pub here : now_at directories i ≡ now_at directories (parent_at directories i)
  pub whole : is_spread_at directories (parent_at directories i) ≡ false

-- a sum, as far as 64 bits can count it
abbrev pub IsCappedSum : ℕ → ℕ → Type 0
IsCappedSum capped whole = (capped ≡ whole) ⊎ ((capped ≡ most_heat) × (most_heat ≤ whole))

-- what is below i in one step, among those from the first one on
abbrev pub of_children : List Directory → (ℕ → ℕ) → ℕ → ℕ → ℕ
of_children directories heat first i =
    sum_below (length directories) (λ c. if nat_le first c && (parent_at directories c == i) then heat c else 0)

-- the heat at and below each directory: its own, and that at and below its children
abbrev pub IsHeatBelow : List Directory → (ℕ → ℕ) → Type 0
IsHeatBelow directories heat =
    (i : ℕ) → i < length directories
    → IsCappedSum (heat i) (heat_at directories i + of_children directories heat 1 i)

-- directory i, or one below it, isn't plain
pub record HasToStay (directories : List Directory) (i : ℕ) : Type 0 where
  pub below : ℕ
  pub inside : below < length directories
  pub steps : ℕ
  pub there : climb directories steps below ≡ i
  pub stays : ¬ IsPlain directories below

-- the coldest are gone: of one that is gone and one that is kept though it need not stay, the first has no more heat
-- at and below it
pub record AreColdest (directories : List Directory) (gone : ℕ → Bool) : Type 0 where
  pub heat : ℕ → ℕ
  pub is : IsHeatBelow directories heat
  pub first : (i j : ℕ) → i < length directories → j < length directories → gone i ≡ true → gone j ≡ false
      → ¬ HasToStay directories j → heat i ≤ heat j

-- how many of the first n directories are kept; of one that is kept that is its new place
abbrev pub kept_below : (ℕ → Bool) → ℕ → ℕ
kept_below gone n = count_below n (λ i. not (gone i))

-- of the directories at and above i, the nearest that is kept
pub record IsHome (directories : List Directory) (gone : ℕ → Bool) (i home : ℕ) : Type 0 where
  pub steps : ℕ
  pub there : climb directories steps i ≡ home
  pub kept : gone home ≡ false
  pub nearer : (n : ℕ) → n < steps → gone (climb directories n i) ≡ true

-- what the first n directories have whose home is there
abbrev pub brought : (ℕ → ℕ) → (ℕ → ℕ) → ℕ → ℕ → ℕ
brought amount home n there = sum_below n (λ i. if home i == there then amount i else 0)

-- a kept directory with the heat, the writes and the inodes of all whose home it is; its parent is the home of the one
-- that it had, by its new place
abbrev pub with_amounts : ℕ → ℕ → ℕ → ℕ → Directory → Directory
with_amounts parent heat writes inodes d =
    record d { parent = parent; heat = heat; writes = writes; inodes = inodes }

abbrev pub folded : List Directory → (ℕ → Bool) → (ℕ → ℕ) → ℕ → Option Directory
folded directories gone home i =
    option_map (with_amounts
    (kept_below gone (home (parent_at directories i)))
    (brought (heat_at directories) home (length directories) i)
    (brought (writes_at directories) home (length directories) i)
    (brought (inodes_at directories) home (length directories) i))
    (slice_get directories i)

-- what is left where these are gone: each kept directory is at its new place, and what the others had is at the
-- nearest above them that is kept
pub record HasLeft (directories left : List Directory) (gone : ℕ → Bool) (home : ℕ → ℕ) : Type 0 where
  pub nearest : (i : ℕ) → i < length directories → IsHome directories gone i (home i)
  pub inside : (i : ℕ) → i < length directories → home i < length directories
  pub size : length left ≡ kept_below gone (length directories)
  pub kept : (i : ℕ) → i < length directories → gone i ≡ false
      → slice_get left (kept_below gone i) ≡ folded directories gone home i

-- the heats of an earlier hour where these are gone: each kept directory has, at its new place, what all had then whose
-- home it is
pub record AreHeatsLeft (gone : ℕ → Bool) (home : ℕ → ℕ) (heats left : List ℕ) : Type 0 where
  pub size : length left ≡ kept_below gone (length heats)
  pub kept : (i : ℕ) → i < length heats → gone i ≡ false
      → slice_index left (kept_below gone i) ≡ brought (slice_index heats) home (length heats) i

-- each earlier hour follows the directories to the same homes
abbrev pub AreHoursLeft : (ℕ → Bool) → (ℕ → ℕ) → List (Vec ℕ Global) → List (Vec ℕ Global) → Type 0
AreHoursLeft gone home hours left =
    AreOneForOne (λ (hour one : Vec ℕ Global). AreHeatsLeft gone home hour.items one.items) hours left

abbrev pub AreHoursFolded :
    List Directory → List Directory → List (Vec ℕ Global) → List (Vec ℕ Global) → Type 0
AreHoursFolded directories left hours hours_left =
    (gone : ℕ → Bool) × (home : ℕ → ℕ) × HasLeft directories left gone home
    × AreHoursLeft gone home hours hours_left

-- each earlier hour has a heat for each of n directories
abbrev pub AreHoursOf : ℕ → List (Vec ℕ Global) → Type 0
AreHoursOf n hours = All (λ (hour : Vec ℕ Global). length hour.items ≡ n) hours

-- only plain directories are gone, each with all below it; where one is gone, the coldest are
pub record AreGone (directories : List Directory) (gone : ℕ → Bool) : Type 0 where
  pub plain : (i : ℕ) → i < length directories → gone i ≡ true → IsPlain directories i
  pub below : (i : ℕ) → 0 < i → i < length directories → gone (parent_at directories i) ≡ true → gone i ≡ true
  pub coldest : (i : ℕ) → gone i ≡ true → AreColdest directories gone

abbrev pub IsFolded : List Directory → List Directory → Type 0
IsFolded directories left =
    (gone : ℕ → Bool) × (home : ℕ → ℕ) × AreGone directories gone × HasLeft directories left gone home

-- the plain directories are gone that are no units, and no others; what they had is at the nearest above them that is
-- kept
pub record AreUnitsLeft (directories left : List Directory) (is_unit : ℕ → Bool) : Type 0 where
  pub gone : ℕ → Bool
  pub home : ℕ → ℕ
  pub plain : (i : ℕ) → i < length directories → gone i ≡ true → IsPlain directories i
  pub other : (i : ℕ) → i < length directories → gone i ≡ true → is_unit i ≡ false
  pub all : (i : ℕ) → i < length directories → IsPlain directories i → is_unit i ≡ false → gone i ≡ true
  pub has : HasLeft directories left gone home

-- each directory below the root that may not be pinned is among those that are left, still marked
abbrev pub StillKept : List Directory → List Directory → Type 0
StillKept directories left =
    (i : ℕ) → 0 < i → i < length directories → is_kept_at directories i ≡ true → IsLeftKept directories left i

-- directory i with another parent and these amounts
abbrev pub put_together : List Directory → List ℕ → List ℕ → List ℕ → List ℕ → ℕ → Option Directory
put_together directories parents heats writes inodes i =
    option_map (with_amounts
    (slice_index parents i)
    (slice_index heats i)
    (slice_index writes i)
    (slice_index inodes i))
    (slice_get directories i)
