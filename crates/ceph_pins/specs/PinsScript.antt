-- The script that sets pins, byte by byte.
use Rattle.std.specs.Prelude.{◌<◌, ◌++◌, All, ℕ, Bool, not, List, [], ◌∷◌, codes, decimal, length, slice_get}
use Rattle.std.specs.Prelude.{Option, Some, None, is_some, if◌then◌else◌}
use Rattle.std.specs.List.{flat_map, list_any}
use Rattle.std.specs.Option.{option_map_or, unwrap_or}
use Rattle.ceph_plan.specs.Words.{quoted_word}
use Rattle.ceph_plan.specs.declared.row.PinChange.{PinChange}
use Rattle.ceph_snapshot.specs.declared.directory.Directory.{Directory}
use Rattle.ceph_pins.specs.declared.pins_script.TheConstants.{HEAD, CHECKS, CEPH, FOOT, NO_CHANGE}
use Rattle.ceph_pins.specs.Volumes.{ceph_line, pin_text}

-- the path of directory i; nothing past the last one
abbrev pub path_at : List Directory → ℕ → List ℕ
path_at directories i = option_map_or (λ (d : Directory). d.path.items) (slice_get directories i) []

-- the inode number of directory i, where it is known
abbrev pub inode_of_row : List Directory → ℕ → Option ℕ
inode_of_row directories i = option_map_or (λ (d : Directory). d.inode) (slice_get directories i) None

-- the inode number that the script compares; a hyphen where none is known
abbrev pub number_text : Option ℕ → List ℕ
number_text None = codes "-"
number_text (Some inode) = decimal inode

-- the begin of a line: the number that is compared, and the call of setfattr
unfoldable pub call_text : Option ℕ → List ℕ
call_text inode = codes "run " ++ number_text inode ++ codes " setfattr -h -n ceph.dir.pin -v "

-- the line that gives the directory at this place this pin, if it has this inode number
abbrev pub pin_line : Option ℕ → Option ℕ → List ℕ → List ℕ
pin_line inode pin place =
    call_text inode ++ pin_text pin ++ codes " -- " ++ quoted_word place ++ 10 ∷ []

-- the line of Ceph's own command for a change, if that is wanted and the command names the directory
abbrev pub change_command : Bool → List Directory → PinChange → Option (List ℕ)
change_command by_ceph directories change = ceph_line by_ceph change.pin (path_at directories change.row)

-- the line of a change, where the file system is mounted at `mount`
abbrev pub change_line : List ℕ → Bool → List Directory → PinChange → List ℕ
change_line mount by_ceph directories change =
    unwrap_or (change_command by_ceph directories change)
    (pin_line (inode_of_row directories change.row) change.pin (mount ++ path_at directories change.row))

-- some change is made by Ceph's own command
abbrev pub needs_ceph : Bool → List Directory → List PinChange → Bool
needs_ceph by_ceph directories changes =
    list_any (λ change. is_some (change_command by_ceph directories change)) changes

-- some change is made over the mount
abbrev pub needs_mount : Bool → List Directory → List PinChange → Bool
needs_mount by_ceph directories changes =
    list_any (λ change. not (is_some (change_command by_ceph directories change))) changes

-- the lines that say which file system is meant
abbrev pub variable_lines : List ℕ → List ℕ → List ℕ → List ℕ
variable_lines mount name fsid =
    codes "mount=" ++ quoted_word mount ++ codes "\nname=" ++ quoted_word name ++ codes "\nfsid="
    ++ quoted_word fsid ++ codes "\n"

-- the script of these changes: it looks at the mount and at the cluster that `ceph` asks where it needs them
abbrev pub pins_script : List ℕ → List ℕ → List ℕ → Bool → List Directory → List PinChange → List ℕ
pins_script mount name fsid by_ceph directories [] = NO_CHANGE.now
pins_script mount name fsid by_ceph directories (change ∷ changes) =
    HEAD.now ++ variable_lines mount name fsid
    ++ (if needs_mount by_ceph directories (change ∷ changes) then CHECKS.now else [])
    ++ (if needs_ceph by_ceph directories (change ∷ changes) then CEPH.now else [])
    ++ flat_map (change_line mount by_ceph directories) (change ∷ changes) ++ FOOT.now

abbrev pub HasNoNul : List ℕ → Type 0
HasNoNul bytes = All (λ byte. 0 < byte) bytes

-- the change is one of a directory, and its path has no NUL
abbrev pub IsChangeWritable : List Directory → PinChange → Type 0
IsChangeWritable directories change = (change.row < length directories) × HasNoNul (path_at directories change.row)

-- no word of the script has a NUL, and each change is one of a directory
pub record AreWritable
    (mount name fsid : List ℕ) (directories : List Directory) (changes : List PinChange) : Type 0 where
  pub mounted : HasNoNul mount
  pub named : HasNoNul name
  pub identified : HasNoNul fsid
  pub paths : All (IsChangeWritable directories) changes
