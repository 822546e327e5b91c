-- Which rank has which directory, by what the ranks claim, and where they disagree.
--
-- A rank has authority over a subtree from its root down to the roots of other subtrees. (The CephFS documentation,
-- "Configuring multiple active MDS daemons".) Each rank lists the roots that it has, and of others which rank it takes
-- for the authority.
use Rattle.std.specs.Prelude.{◌≡◌, ◌≢◌, ◌==◌, ◌&&◌, ◌||◌, ◌<◌, ℕ, All, Bool, true, false, not, is_some}
use Rattle.std.specs.Prelude.{List, [], length, slice_get, slice_index_or, string_bytes, Option, Some}
use Rattle.std.specs.Prelude.{String, if◌then◌else◌}
use Rattle.std.specs.Global.{Global}
use Rattle.std.specs.List.{list_any}
use Rattle.std.specs.Option.{option_map, option_map_or, unwrap_or}
use Rattle.ceph_dumps.specs.declared.subtrees.SubtreeRoot.{SubtreeRoot}
use Rattle.ceph_snapshot.specs.declared.gathering.Hearsay.{Hearsay}
use Rattle.ceph_snapshot.specs.declared.tree.Node.{Node}
use Rattle.ceph_snapshot.specs.declared.names.Names.{Names}
use Rattle.ceph_snapshot.specs.Names.{path_number}
use Rattle.ceph_snapshot.specs.Shown.{shown_path}

-- the text of a path
abbrev pub PathText : Type 0
PathText = String Global

-- of directory i: its parent, its rank and whether it is spread over several ranks
abbrev pub above_at : List Node → ℕ → ℕ
above_at nodes i = option_map_or (λ (n : Node). n.directory.parent) (slice_get nodes i) 0

abbrev pub lies_at : List Node → ℕ → ℕ
lies_at nodes i = option_map_or (λ (n : Node). n.directory.now) (slice_get nodes i) 0

abbrev pub is_torn_at : List Node → ℕ → Bool
is_torn_at nodes i = option_map_or (λ (n : Node). n.directory.is_spread) (slice_get nodes i) false

abbrev pub node_path_at : List Node → ℕ → List ℕ
node_path_at nodes i = option_map_or (λ (n : Node). n.directory.path.items) (slice_get nodes i) []

-- a directory with its rank: the one that claims it, or else that of its parent, with which it is spread
abbrev pub placed_node : ℕ → Bool → Node → Node
placed_node now spread n = record n {
  directory = record (n.directory) {
    now = unwrap_or n.root now;
    is_spread = n.directory.is_spread || (spread && not (is_some n.root));
  };
}

-- where the parent of directory i lies. Above the root of the tree is none: it is at rank 0 if no rank claims it
abbrev pub rank_above : List Node → List Node → ℕ → ℕ
rank_above nodes placed i = if i == 0 then 0 else lies_at placed (above_at nodes i)

abbrev pub is_torn_above : List Node → List Node → ℕ → Bool
is_torn_above nodes placed i = if i == 0 then false else is_torn_at placed (above_at nodes i)

-- each directory with its rank, where each but the root of the tree comes after its parent
pub record LieAsClaimed (nodes placed : List Node) : Type 0 where
  pub size : length placed ≡ length nodes
  pub above : (i : ℕ) → 0 < i → i < length nodes → above_at nodes i < i
  pub at : (i : ℕ) → i < length nodes → slice_get placed i
      ≡ option_map (placed_node (rank_above nodes placed i) (is_torn_above nodes placed i)) (slice_get nodes i)

-- what a rank says of another's authority holds where the directory lies at that rank, or is spread
abbrev pub is_true_of : List Node → Hearsay → Bool
is_true_of placed said =
    option_map_or (λ (n : Node). n.directory.is_spread || (n.directory.now == said.authority))
    (slice_get placed said.directory) true

-- a rank says of a directory that another rank has it, which that rank does not claim
pub record IsUnclaimed (placed : List Node) (hearsay : List Hearsay) (path : PathText) (by authority : ℕ) : Type 0 where
  pub at : ℕ
  pub said : Hearsay
  pub there : slice_get hearsay at ≡ Some said
  pub untrue : is_true_of placed said ≡ false
  pub path_of : string_bytes path ≡ shown_path (node_path_at placed said.directory)
  pub by_of : by ≡ said.by
  pub authority_of : authority ≡ said.authority

-- a path in the tree of users: the root's, or one that begins with a slash, with no NUL
abbrev pub is_user_path : List ℕ → Bool
is_user_path path = (length path == 0) || ((slice_index_or path 0 0 == 47) && not (list_any (λ c. c == 0) path))

abbrev pub fragment_of : SubtreeRoot → Option (List ℕ)
fragment_of root = option_map string_bytes root.fragment

-- the rank that lists this root claims the fragment of a directory
abbrev pub IsClaim : SubtreeRoot → List ℕ → Type 0
IsClaim root fragment =
    (root.is_here ≡ true) × (is_user_path root.path.items ≡ true) × (fragment_of root ≡ Some fragment)

-- each fragment that the rank claims by these roots is noted as its own
abbrev pub AreClaimed : Names → List SubtreeRoot → ℕ → Type 0
AreClaimed claims roots rank =
    All (λ root. (fragment : List ℕ) → IsClaim root fragment → path_number claims fragment ≡ Some rank) roots

-- and no claim of before is another rank's now: so no fragment is claimed by two
abbrev pub StillClaimed : Names → Names → Type 0
StillClaimed before after =
    (fragment : List ℕ) (rank : ℕ) → path_number before fragment ≡ Some rank → path_number after fragment ≡ Some rank

-- by this root the rank claims a fragment that another rank claimed before
pub record IsClaimedTwice (claims : Names) (root : SubtreeRoot) (rank : ℕ) (path : PathText) (first second : ℕ)
    : Type 0 where
  pub here : root.is_here ≡ true
  pub fragment : List ℕ
  pub named : fragment_of root ≡ Some fragment
  pub first_of : path_number claims fragment ≡ Some first
  pub other : first ≢ rank
  pub second_of : second ≡ rank
  pub path_of : string_bytes path ≡ shown_path root.path.items
