-- What the dumps say of a directory, but for heat: its root, its pin, its entries, its policy, its listed number and
-- whether it is spread.
use Rattle.std.specs.Prelude.{◌≡◌, ◌≢◌, ◌==◌, ◌&&◌, ◌||◌, ◌⊎◌, ◌↔◌, ℕ, ℤ, pos, negsuc, All, Bool, true, false, max, not}
use Rattle.std.specs.Prelude.{List, map, filter, Option, Some, None, if◌then◌else◌}
use Rattle.std.specs.List.{fold, list_any}
use Rattle.std.specs.Option.{option_map, option_or, unwrap_or}
use Rattle.std.specs.Str.{bytes_eq}
use Rattle.ceph_dumps.specs.declared.listing.EphemeralPin.{EphemeralPin}
use Rattle.ceph_dumps.specs.declared.listing.ListedDir.{ListedDir}
use Rattle.ceph_dumps.specs.declared.listing.ListedValue.{ListedValue}
use Rattle.ceph_dumps.specs.declared.listing.ListedValue.TheVariants.{Entries, Inode, Pin, Policy}
use Rattle.ceph_dumps.specs.declared.subtrees.SubtreeRoot.{SubtreeRoot}
use Rattle.ceph_snapshot.specs.declared.tree.Node.{Node}
use Rattle.ceph_snapshot.specs.Authority.{is_user_path}
use Rattle.ceph_snapshot.specs.Sightings.{IsNumberOf}

-- a rank's dump lists this root, or the listing has this value of a directory
pub data Fact : Type 0 where
  Root : ℕ → SubtreeRoot → Fact
  Value : ListedDir → Fact

abbrev pub fact_path : Fact → List ℕ
fact_path (Root rank root) = root.path.items
fact_path (Value dir) = dir.path.items

-- what a rank's dump and a listing say of the directories of users
abbrev pub roots_in : ℕ → List SubtreeRoot → List Fact
roots_in rank roots = map (Root rank) (filter (λ root. is_user_path root.path.items) roots)

abbrev pub values_in : List ListedDir → List Fact
values_in listing = map Value (filter (λ dir. is_user_path dir.path.items) listing)

-- the last that facts with this path say
abbrev pub last_of : {X : Type 0} → (Fact → Option X) → List ℕ → List Fact → Option X
last_of of path facts =
    fold (λ found f. if bytes_eq (fact_path f) path then option_or (of f) found else found) None facts

-- the rank that a root says has the directory
abbrev pub rank_told : Fact → Option ℕ
rank_told (Root rank root) = if root.is_here then Some rank else None
rank_told (Value dir) = None

-- a pin, where one is named. A negative one says that there is none
abbrev pub pin_number : ℤ → Option ℕ
pin_number (pos n) = Some n
pin_number (negsuc n) = None

abbrev pub listed_pin : ListedValue → Option (Option ℕ)
listed_pin (Entries count) = None
listed_pin (Pin pin) = option_map (λ (n : ℕ). Some n) pin
listed_pin (Policy policy) = None
listed_pin (Inode number) = None

abbrev pub pin_told : Fact → Option (Option ℕ)
pin_told (Root rank root) = option_map pin_number root.pin
pin_told (Value dir) = listed_pin dir.value

-- the entries, at least 1
abbrev pub listed_entries : ListedValue → Option ℕ
listed_entries (Entries count) = Some (max count 1)
listed_entries (Pin pin) = None
listed_entries (Policy policy) = None
listed_entries (Inode number) = None

abbrev pub entries_told : Fact → Option ℕ
entries_told (Root rank root) = None
entries_told (Value dir) = listed_entries dir.value

abbrev pub listed_policy : ListedValue → Option EphemeralPin
listed_policy (Entries count) = None
listed_policy (Pin pin) = None
listed_policy (Policy policy) = policy
listed_policy (Inode number) = None

abbrev pub policy_told : Fact → Option EphemeralPin
policy_told (Root rank root) = None
policy_told (Value dir) = listed_policy dir.value

-- the inode number
abbrev pub listed_number : ListedValue → Option ℕ
listed_number (Entries count) = None
listed_number (Pin pin) = None
listed_number (Policy policy) = None
listed_number (Inode number) = Some number

abbrev pub number_listed : Fact → Option ℕ
number_listed (Root rank root) = None
number_listed (Value dir) = listed_number dir.value

-- whether it is a root at this rank; one that Ceph itself spreads
abbrev pub is_rank : ℕ → Option ℕ → Bool
is_rank at None = false
is_rank at (Some rank) = rank == at

abbrev pub is_root_at : ℕ → Fact → Bool
is_root_at at f = is_rank at (rank_told f)

abbrev pub is_marked_spread : Fact → Bool
is_marked_spread (Root rank root) = root.is_here && root.is_spread
is_marked_spread (Value dir) = false

-- whether a fact with this path is such a one
abbrev pub any_of : (Fact → Bool) → List ℕ → List Fact → Bool
any_of is path facts = list_any (λ f. bytes_eq (fact_path f) path && is f) facts

-- a directory is spread that Ceph itself spreads, or that has roots at two ranks
abbrev pub IsToldSpread : List ℕ → List Fact → Type 0
IsToldSpread path facts =
    (any_of is_marked_spread path facts ≡ true)
    ⊎ ((one : ℕ) × (two : ℕ) × (any_of (is_root_at one) path facts ≡ true)
    × (any_of (is_root_at two) path facts ≡ true) × (one ≢ two))

-- a directory is as the facts say
pub record IsAsTold (facts : List Fact) (n : Node) : Type 0 where
  pub root : n.root ≡ last_of rank_told n.directory.path.items facts
  pub pinned : n.pinned ≡ unwrap_or (last_of pin_told n.directory.path.items facts) None
  pub inodes : n.directory.inodes ≡ unwrap_or (last_of entries_told n.directory.path.items facts) 1
  pub policy : n.directory.policy ≡ last_of policy_told n.directory.path.items facts
  pub number : n.listed ≡ last_of number_listed n.directory.path.items facts
  pub spread : (n.directory.is_spread ≡ true) ↔ IsToldSpread n.directory.path.items facts

-- each directory is as the facts say, and each fact is of a directory that is there
pub record AreAsTold (nodes : List Node) (facts : List Fact) : Type 0 where
  pub told : All (IsAsTold facts) nodes
  pub there : All (λ f. (i : ℕ) × IsNumberOf nodes (fact_path f) i) facts

-- the directories keep their numbers
abbrev pub KeepNumbers : List Node → List Node → Type 0
KeepNumbers old new = (path : List ℕ) (i : ℕ) → IsNumberOf old path i → IsNumberOf new path i

-- and what was told of them still is
pub record StillTold (old new : List Node) : Type 0 where
  pub told : (facts : List Fact) → AreAsTold old facts → AreAsTold new facts
  pub numbers : KeepNumbers old new

-- whether a directory with this root is spread by one more fact
abbrev pub is_other : Option ℕ → Option ℕ → Bool
is_other None rank = false
is_other (Some root) None = false
is_other (Some root) (Some rank) = not (root == rank)

-- a directory with one more fact
pub record IsWith (f : Fact) (old new : Node) : Type 0 where
  pub root : new.root ≡ option_or (rank_told f) old.root
  pub pinned : new.pinned ≡ unwrap_or (pin_told f) old.pinned
  pub inodes : new.directory.inodes ≡ unwrap_or (entries_told f) old.directory.inodes
  pub policy : new.directory.policy ≡ option_or (policy_told f) old.directory.policy
  pub number : new.listed ≡ option_or (number_listed f) old.listed
  pub spread : new.directory.is_spread
      ≡ (old.directory.is_spread || (is_other old.root (rank_told f) || is_marked_spread f))
