-- Directories that aren't for sure the same one in the dumps and over the mount.
use Rattle.std.specs.Prelude.{◌==◌, ◌&&◌, ◌*◌, ℕ, Bool, true, false, not, is_some, List, Option, Some, None, count_by}
use Rattle.std.specs.Prelude.{nat_lt}
use Rattle.std.specs.Option.{option_or}
use Rattle.ceph_snapshot.specs.declared.tree.Node.{Node}
use Rattle.ceph_snapshot.specs.Gathered.{PathNumber, PathPin}
use Rattle.ceph_snapshot.specs.Sightings.{Account, PathHeat, inode_seen}

-- no number is listed of a path, or dumps name another one for it
abbrev pub is_doubt : Option ℕ → Option ℕ → Bool
is_doubt seen None = true
is_doubt None (Some listed) = false
is_doubt (Some number) (Some listed) = not (number == listed)

-- a path with the number that dumps named last for it, or else the listed one, and whether it is doubtful
abbrev pub with_numbers : Bool → List PathHeat → PathPin → PathNumber
with_numbers numbered seen at = (
  at.0,
  (
    option_or (inode_seen at.0 seen) at.1.1,
    numbered && is_doubt (inode_seen at.0 seen) at.1.1,
  ),
)

-- more than half of the directories for which dumps name a number are doubtful
abbrev pub is_seen_doubtful : List PathHeat → Node → Bool
is_seen_doubtful seen n =
    is_some (inode_seen n.directory.path.items seen) && is_doubt (inode_seen n.directory.path.items seen) n.listed

abbrev pub have_left : Bool → List PathHeat → List Node → Bool
have_left numbered seen nodes =
    numbered && nat_lt (count_by (λ n. is_some (inode_seen n.directory.path.items seen)) nodes)
    (2 * count_by (is_seen_doubtful seen) nodes)

-- how it is found: by the number that a directory has once all that was seen is counted
abbrev pub is_named : Node → Bool
is_named n = is_some n.directory.inode

abbrev pub is_named_doubtful : Node → Bool
is_named_doubtful n = is_some n.directory.inode && is_doubt n.directory.inode n.listed

abbrev pub numbers_with : Bool → Node → PathNumber
numbers_with numbered n = (
  n.directory.path.items,
  (
    option_or n.directory.inode n.listed,
    numbered && is_doubt n.directory.inode n.listed,
  ),
)

abbrev pub with_listed : Option ℕ → Account → Account
with_listed listed t = (t.0, (t.1.0, (t.1.1.0, option_or t.1.1.1 listed)))
