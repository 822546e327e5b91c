-- Which directories may not be pinned, by Ceph's rule. (The CephFS documentation, "Configuring multiple active MDS
-- daemons", sections on pinning directory trees and on dynamic subtree partitioning with ephemeral pins.)
use Rattle.std.specs.Prelude.{◌≡◌, ◌<◌, ◌⊎◌, ◌↔◌, ◌≤◌, ◌||◌, ℕ, zero, suc}
use Rattle.std.specs.Prelude.{Bool, true, false, is_some, List, [], length, slice_get, Option, Some, None}
use Rattle.std.specs.Option.{option_map_or}
pub use Rattle.ceph_dumps.specs.declared.listing.EphemeralPin.{EphemeralPin}
pub use Rattle.ceph_dumps.specs.declared.listing.EphemeralPin.TheVariants.{Distributed, Random, Unknown}
use Rattle.ceph_snapshot.specs.declared.directory.Directory.{Directory}
use Rattle.ceph_snapshot.specs.Holding.{is_kept_at, parent_at, pin_at}

abbrev pub policy_at : List Directory → ℕ → Option EphemeralPin
policy_at directories i = option_map_or (λ (d : Directory). d.policy) (slice_get directories i) None

abbrev pub dir_path_at : List Directory → ℕ → List ℕ
dir_path_at directories i = option_map_or (λ (d : Directory). d.path.items) (slice_get directories i) []

abbrev pub idle_at : List Directory → ℕ → Option ℕ
idle_at directories i = option_map_or (λ (d : Directory). d.idle) (slice_get directories i) None

-- a directory this many steps below directory i has a random policy, and there is no pin from there up to the child of
-- i. An export pin on i would beat the random pins below, as no other pin is nearer
abbrev pub LeadsToRandom : List Directory → ℕ → ℕ → Type 0
LeadsToRandom directories zero i = policy_at directories i ≡ Some Random
LeadsToRandom directories (suc steps) i =
    (child : ℕ) × (parent_at directories child ≡ i) × (pin_at directories child ≡ None)
    × LeadsToRandom directories steps child

pub record IsAboveRandom (directories : List Directory) (i : ℕ) : Type 0 where
  pub steps : ℕ
  pub policy : LeadsToRandom directories steps i

abbrev pub is_doubtful_at : List Directory → ℕ → Bool
is_doubtful_at directories i = option_map_or (λ (d : Directory). d.is_doubtful) (slice_get directories i) false

-- a directory with a policy of its own, whose children Ceph spreads or whose descendants it pins, whether or not they
-- are cached now; one with somebody's pin to a rank that isn't there; a doubtful one; and one above a random policy
abbrev pub IsUnpinnable : List Directory → ℕ → Type 0
IsUnpinnable directories i =
    (is_some (policy_at directories i) ≡ true)
    ⊎ ((is_some (idle_at directories i) ≡ true)
    ⊎ ((is_doubtful_at directories i ≡ true) ⊎ IsAboveRandom directories i))

-- those below the root are kept that may not be pinned, and no others
abbrev pub KeepUnpinnable : List Directory → Type 0
KeepUnpinnable directories =
    (i : ℕ) → 0 < i → i < length directories → (is_kept_at directories i ≡ true) ↔ IsUnpinnable directories i

-- where a directory that may not be pinned is among those that are left, marked as one: it has its path and its policy,
-- and is doubtful if it was
pub record IsLeftKept (directories left : List Directory) (i : ℕ) : Type 0 where
  pub place : ℕ
  pub below : 0 < place
  pub inside : place < length left
  pub path : dir_path_at left place ≡ dir_path_at directories i
  pub policy : policy_at left place ≡ policy_at directories i
  pub doubtful : is_doubtful_at left place ≡ is_doubtful_at directories i
  pub kept : is_kept_at left place ≡ true

-- each that may not be pinned is still there
abbrev pub StillKeepUnpinnable : List Directory → List Directory → Type 0
StillKeepUnpinnable directories left =
    (i : ℕ) → 0 < i → i < length directories → IsUnpinnable directories i → IsLeftKept directories left i

-- how it is found: from the children of directory i, of those from place n on
pub record HasBeaten (directories : List Directory) (n i : ℕ) : Type 0 where
  pub child : ℕ
  pub from : n ≤ child
  pub inside : child < length directories
  pub parent : parent_at directories child ≡ i
  pub unpinned : pin_at directories child ≡ None
  pub above : IsAboveRandom directories child

-- and for one that has a random policy below it, or not
abbrev pub kept_where : Bool → Directory → Directory
kept_where above d = record d { is_kept = above || (is_some d.policy || (is_some d.idle || d.is_doubtful)) }
