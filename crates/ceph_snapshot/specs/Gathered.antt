-- What is made of what the dumps say of a directory.
use Rattle.std.specs.Prelude.{◌==◌, ◌&&◌, ◌+◌, ℕ, Bool, false, true, List, Option, Some, None, min, not, nat_lt}
use Rattle.std.specs.Prelude.{if◌then◌else◌, slice_get}
use Rattle.std.specs.List.{fold, list_any}
use Rattle.std.specs.Option.{option_map, option_or}
use Rattle.std.specs.Str.{bytes_eq}
use Rattle.mds_types.specs.RankSet.{has_rank}
use Rattle.ceph_dumps.specs.declared.listing.EphemeralPin.{EphemeralPin}
use Rattle.ceph_dumps.specs.declared.listing.EphemeralPin.TheVariants.{Unknown}
use Rattle.ceph_dumps.specs.declared.own_list.OwnPin.{OwnPin}
use Rattle.ceph_snapshot.specs.declared.directory.Directory.{Directory}
use Rattle.ceph_snapshot.specs.declared.tree.Node.{Node}
use Rattle.ceph_snapshot.specs.Holding.{most_heat}

-- a pin is this program's own where the program set it to the same rank before
abbrev pub is_ours : ℕ → Option ℕ → Bool
is_ours rank None = false
is_ours rank (Some other) = rank == other

-- this program's own pin, whether or not its rank is there
abbrev pub our_pin : Option ℕ → Option ℕ → Option ℕ
our_pin None own = None
our_pin (Some rank) own = if is_ours rank own && nat_lt rank 64 then Some rank else None

-- somebody else's pin to a rank that is there
abbrev pub foreign_pin : Option ℕ → Option ℕ → ℕ → Option ℕ
foreign_pin None own ranks = None
foreign_pin (Some rank) own ranks = if not (is_ours rank own) && has_rank ranks rank then Some rank else None

-- somebody else's pin to a rank that isn't there
abbrev pub idle_pin : Option ℕ → Option ℕ → ℕ → Option ℕ
idle_pin None own ranks = None
idle_pin (Some rank) own ranks = if not (is_ours rank own) && not (has_rank ranks rank) then Some rank else None

-- a directory with the inode number that a dump names, if it does
abbrev pub with_inode : Option ℕ → Directory → Directory
with_inode inode d = record d { inode = option_or inode d.inode }

-- the heat with what a rank has seen: only the rank with authority counts, and for what is spread each rank
abbrev pub seen_heat : ℕ → ℕ → Bool → ℕ
seen_heat heat more counts = if counts then min most_heat (heat + more) else heat

-- the rank that a list of this program's pins names for a path: that of the last line with it
abbrev pub rank_named : List ℕ → Option ℕ → OwnPin → Option ℕ
rank_named path before pin = if bytes_eq pin.path.items path then Some pin.rank else before

abbrev pub listed_rank : List OwnPin → List ℕ → Option ℕ
listed_rank own path = fold (rank_named path) None own

-- the path of a directory, its pin, whoever set it, and its listed number
abbrev pub PathPin : Type 0
PathPin = List ℕ × (Option ℕ × Option ℕ)

abbrev pub path_pin : Node → PathPin
path_pin n = (n.directory.path.items, (n.pinned, n.listed))

abbrev pub path_pin_at : List Node → ℕ → Option PathPin
path_pin_at nodes i = option_map path_pin (slice_get nodes i)

-- the path of a directory, and whose its pin is: somebody else's, whose rank is there or not, or this program's
abbrev pub WhosePin : Type 0
WhosePin = List ℕ × (Option ℕ × (Option ℕ × Option ℕ))

abbrev pub whose_pin : Directory → WhosePin
whose_pin d = (d.path.items, (d.pin, (d.idle, d.earlier)))

abbrev pub whose_pin_at : List Directory → ℕ → Option WhosePin
whose_pin_at directories i = option_map whose_pin (slice_get directories i)

-- by the list of this program's pins
abbrev pub with_owner : List OwnPin → ℕ → PathPin → WhosePin
with_owner own ranks at = (
  at.0,
  (
    foreign_pin at.1.0 (listed_rank own at.0) ranks,
    (
      idle_pin at.1.0 (listed_rank own at.0) ranks,
      our_pin at.1.0 (listed_rank own at.0),
    ),
  ),
)

-- the path of a directory, its inode number, and whether it is doubtful
abbrev pub PathNumber : Type 0
PathNumber = List ℕ × (Option ℕ × Bool)

abbrev pub numbers_of : Directory → PathNumber
numbers_of d = (d.path.items, (d.inode, d.is_doubtful))

abbrev pub numbers_at : List Directory → ℕ → Option PathNumber
numbers_at directories i = option_map numbers_of (slice_get directories i)

-- how many entries a directory has, and its policy
abbrev pub Listed : Type 0
Listed = ℕ × Option EphemeralPin

abbrev pub listed_of : Directory → Listed
listed_of d = (d.inodes, d.policy)

abbrev pub listed_at : List Node → ℕ → Option Listed
listed_at nodes i = option_map (λ (n : Node). listed_of n.directory) (slice_get nodes i)

-- one that Ceph's own pins may be below has a policy that isn't known, if none is known
abbrev pub with_unknown : Bool → Listed → Listed
with_unknown false at = at
with_unknown true at = (at.0, option_or at.1 (Some Unknown))

-- where no listing was read, that is so of each of these directories
abbrev pub is_unknown_at : Bool → List ℕ → ℕ → Bool
is_unknown_at listed tops i = not listed && list_any (λ top. top == i) tops
