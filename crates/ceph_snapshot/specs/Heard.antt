-- What follows from the dumps, beside what is told of each directory: whom ranks take for the authority of what they
-- don't have, where Ceph's own pins may be, which rank claims which fragment, and the heat of what is spread.
use Rattle.std.specs.Prelude.{◌≡◌, ◌≢◌, ◌==◌, ◌&&◌, ◌||◌, ◌/◌, ◌<◌, ℕ, ℤ, pos, negsuc, All, Bool, true, not}
use Rattle.std.specs.Prelude.{List, [], ◌∷◌, Some, length, map, min, slice_get, slice_index, string_bytes, sum_by}
use Rattle.std.specs.Prelude.{if◌then◌else◌}
use Rattle.std.specs.List.{IsAmong, flat_map, list_any, take_while}
use Rattle.std.specs.Option.{option_map}
use Rattle.std.specs.Str.{bytes_eq}
use Rattle.ceph_dumps.specs.declared.subtrees.SubtreeRoot.{SubtreeRoot}
use Rattle.ceph_snapshot.specs.declared.directory.Directory.{Directory}
use Rattle.ceph_snapshot.specs.declared.gathering.Gathering.{Gathering}
use Rattle.ceph_snapshot.specs.declared.gathering.Hearsay.{Hearsay}
use Rattle.ceph_snapshot.specs.declared.names.Names.{Names}
use Rattle.ceph_snapshot.specs.declared.snapshot.Snapshot.{Snapshot}
use Rattle.ceph_snapshot.specs.declared.tree.Node.{Node}
use Rattle.ceph_snapshot.specs.Authority.{PathText, fragment_of, node_path_at}
use Rattle.ceph_snapshot.specs.Facts.{AreAsTold, Fact, Root, Value}
use Rattle.ceph_snapshot.specs.Gathered.{listed_at, listed_of, with_unknown}
use Rattle.ceph_snapshot.specs.Holding.{most_heat}
use Rattle.ceph_snapshot.specs.Names.{IsAtOrAbove, IsPathBelow, path_number}
use Rattle.ceph_snapshot.specs.Named.{ArePathsNamed}
use Rattle.ceph_snapshot.specs.Policies.{dir_path_at}
use Rattle.ceph_snapshot.specs.Shown.{shown_path}
use Rattle.ceph_snapshot.specs.Sightings.{PathHeat}

-- whom a rank takes for the authority of a directory
pub record HeardRank : Type 0 where
  pub path : List ℕ
  pub by : ℕ
  pub authority : ℕ

-- a negative number says that the rank doesn't know it
abbrev pub authority_heard : List ℕ → ℕ → ℤ → List HeardRank
authority_heard path by (pos authority) = record { path = path; by = by; authority = authority } ∷ []
authority_heard path by (negsuc n) = []

-- a rank says so of each root that it lists and doesn't have
abbrev pub heard_in_root : ℕ → SubtreeRoot → List HeardRank
heard_in_root rank root = if root.is_here then [] else authority_heard root.path.items rank root.authority

abbrev pub heard_in_fact : Fact → List HeardRank
heard_in_fact (Root rank root) = heard_in_root rank root
heard_in_fact (Value dir) = []

abbrev pub heard_in : List Fact → List HeardRank
heard_in facts = flat_map heard_in_fact facts

-- the directory just below the root that a path is or lies in: its first name. The root's own path gives the root
abbrev pub top_of_path : List ℕ → List ℕ
top_of_path [] = []
top_of_path (slash ∷ names) = slash ∷ take_while (λ c. not (c == 47)) names

-- so a path but the root's is a directory in the root, or lies in one
pub record LiesInTop (path top : List ℕ) : Type 0 where
  pub in_root : IsPathBelow [] top
  pub in_top : IsAtOrAbove top path

-- Ceph's own pins are at or below it where a root is that Ceph itself spreads
abbrev pub tops_in_root : SubtreeRoot → List (List ℕ)
tops_in_root root = if root.is_spread then top_of_path root.path.items ∷ [] else []

abbrev pub tops_in_fact : Fact → List (List ℕ)
tops_in_fact (Root rank root) = tops_in_root root
tops_in_fact (Value dir) = []

abbrev pub tops_in : List Fact → List (List ℕ)
tops_in facts = flat_map tops_in_fact facts

-- by these facts a rank claims a fragment
abbrev pub ClaimsByFact : ℕ → List ℕ → Fact → Type 0
ClaimsByFact rank fragment (Root by root) =
    (by ≡ rank) × (root.is_here ≡ true) × (fragment_of root ≡ Some fragment)
ClaimsByFact rank fragment (Value dir) = ⊥

abbrev pub ClaimsFragment : List Fact → ℕ → List ℕ → Type 0
ClaimsFragment facts rank fragment = (f : Fact) × IsAmong facts f × ClaimsByFact rank fragment f

-- these numbers are those of directories with these paths
pub record AreNumbersOf (nodes : List Node) (numbers : List ℕ) (paths : List (List ℕ)) : Type 0 where
  pub inside : All (λ i. i < length nodes) numbers
  pub are : map (node_path_at nodes) numbers ≡ paths

abbrev pub heard_at : List Node → Hearsay → HeardRank
heard_at nodes said = record {
  path = node_path_at nodes said.directory;
  by = said.by;
  authority = said.authority;
}

pub record AreHeardAt (nodes : List Node) (hearsay : List Hearsay) (heard : List HeardRank) : Type 0 where
  pub inside : All (λ (said : Hearsay). said.directory < length nodes) hearsay
  pub are : map (heard_at nodes) hearsay ≡ heard

-- a claim has its rank
abbrev pub IsNotedIn : Names → Fact → Type 0
IsNotedIn claims f =
    (rank : ℕ) (fragment : List ℕ) → ClaimsByFact rank fragment f → path_number claims fragment ≡ Some rank

-- and what has a rank is a claim
abbrev pub AreClaimsIn : Names → List Fact → Type 0
AreClaimsIn claims facts =
    (rank : ℕ) (fragment : List ℕ) → path_number claims fragment ≡ Some rank → ClaimsFragment facts rank fragment

-- by this root the rank claims a fragment that another rank claims by these facts
pub record IsToldTwice (facts : List Fact) (root : SubtreeRoot) (rank : ℕ) (path : PathText) (first second : ℕ)
    : Type 0 where
  pub here : root.is_here ≡ true
  pub fragment : List ℕ
  pub named : fragment_of root ≡ Some fragment
  pub first_of : ClaimsFragment facts first fragment
  pub other : first ≢ rank
  pub second_of : second ≡ rank
  pub path_of : string_bytes path ≡ shown_path root.path.items

-- what was gathered is what these facts say, and the directories are those that are named
pub record HasTold (g : Gathering) (facts : List Fact) : Type 0 where
  pub told : AreAsTold g.tree.nodes facts
  pub heard : AreHeardAt g.tree.nodes g.hearsay.items (heard_in facts)
  pub tops : AreNumbersOf g.tree.nodes g.tops.items (tops_in facts)
  pub claims : All (IsNotedIn g.fragments) facts
  pub only : AreClaimsIn g.fragments facts
  pub named : ArePathsNamed g.tree.seen facts g.tree.nodes

abbrev pub StillHasTold : Gathering → Gathering → Type 0
StillHasTold old new = (facts : List Fact) → HasTold old facts → HasTold new facts

-- the directory with this path is spread, or is at the rank that is taken for its authority
abbrev pub is_borne_out : List Directory → HeardRank → Bool
is_borne_out directories h =
    list_any (λ d. bytes_eq d.path.items h.path && (d.is_spread || (d.now == h.authority))) directories

-- where no listing was read, no policy is known of the directories with these paths
abbrev pub is_unknown_path : Bool → List (List ℕ) → List ℕ → Bool
is_unknown_path listed tops path = not listed && list_any (λ top. bytes_eq top path) tops

-- a snapshot bears out whom ranks take for authorities. It has the entries and policies that were told, but for the
-- directories that Ceph's own pins may be below. And no two ranks claim one fragment
pub record BearsOut (facts : List Fact) (listed : Bool) (nodes : List Node) (snapshot : Snapshot) : Type 0 where
  pub heard : All (λ h. is_borne_out snapshot.directories.items h ≡ true) (heard_in facts)
  pub entries : (i : ℕ) → option_map listed_of (slice_get snapshot.directories.items i)
      ≡ option_map
      (with_unknown (is_unknown_path listed (tops_in facts) (dir_path_at snapshot.directories.items i)))
      (listed_at nodes i)
  pub once : (one two : ℕ) (fragment : List ℕ) → ClaimsFragment facts one fragment
      → ClaimsFragment facts two fragment → one ≡ two

-- the directory with this path is spread
abbrev pub is_spread_path : List Directory → List ℕ → Bool
is_spread_path directories path = list_any (λ d. bytes_eq d.path.items path && d.is_spread) directories

-- what of a sighting counts as spread at a rank: the heat in the mean of `samples` samples, if the rank saw it at such
-- a directory
abbrev pub spread_seen : List Directory → ℕ → ℕ → PathHeat → ℕ
spread_seen directories samples rank s =
    if (s.rank == rank) && is_spread_path directories s.path then s.heat / samples else 0

-- each rank has that of all that was seen, as far as 64 bits can count it
abbrev pub HasSpreadHeat : List PathHeat → ℕ → Snapshot → Type 0
HasSpreadHeat seen samples snapshot =
    (rank : ℕ) → rank < 64 → slice_index snapshot.spread.items rank
    ≡ min most_heat (sum_by (spread_seen snapshot.directories.items samples rank) seen)

-- a directory has this path
pub record HasDirectory (directories : List Directory) (path : List ℕ) : Type 0 where
  pub at : ℕ
  pub there : option_map (λ (d : Directory). d.path.items) (slice_get directories at) ≡ Some path
