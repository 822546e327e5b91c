-- Ceph's own commands for the pins of subvolumes and of their groups.
use Rattle.std.specs.Prelude.{◌==◌, ◌&&◌, ◌++◌, ℕ, Bool, not, true, List, [], ◌∷◌, codes, decimal, drop, take, length}
use Rattle.std.specs.Prelude.{is_some, slice_index, Option, Some, None, if◌then◌else◌}
use Rattle.std.specs.List.{list_all, slice_split}
use Rattle.std.specs.Str.{bytes_eq}
use Rattle.ceph_dumps.specs.Complete.{is_word_byte}

-- the value of a pin: -1 removes it
abbrev pub pin_text : Option ℕ → List ℕ
pin_text None = codes "-1"
pin_text (Some rank) = decimal rank

-- what these commands take as a name and sh as a word: letters, digits, `_`, `.` and `-`, which isn't the first one
abbrev pub is_volume_name : List ℕ → Bool
is_volume_name name = not (length name == 0) && (not (slice_index name 0 == 45) && list_all is_word_byte name)

-- a group that is Ceph's own begins with `_`
abbrev pub is_group : List ℕ → Bool
is_group group = is_volume_name group && not (slice_index group 0 == 95)

-- what comes after /volumes/ in a path
abbrev pub below_volumes : List ℕ → Option (List ℕ)
below_volumes path = if bytes_eq (take 9 path) (codes "/volumes/") then Some (drop 9 path) else None

abbrev pub slash_parts : Option (List ℕ) → List (List ℕ)
slash_parts None = []
slash_parts (Some names) = slice_split (λ byte. byte == 47) names

-- the names on the way from /volumes, if a path leads there
abbrev pub volume_names : List ℕ → List (List ℕ)
volume_names path = slash_parts (below_volumes path)

abbrev pub group_line : Option ℕ → List ℕ → List ℕ
group_line pin group =
    codes "run_ceph fs subvolumegroup pin \"$name\" " ++ group ++ codes " export " ++ pin_text pin ++ codes "\n"

-- the group of a subvolume, if it has one
abbrev pub group_option : List ℕ → List ℕ
group_option group = if length group == 0 then [] else codes " --group_name " ++ group

abbrev pub subvolume_line : Option ℕ → List ℕ → List ℕ → List ℕ
subvolume_line pin group name =
    codes "run_ceph fs subvolume pin \"$name\" " ++ name ++ codes " export " ++ pin_text pin ++ group_option group
    ++ codes "\n"

-- the line that pins a subvolume, if Ceph's commands name it; Ceph keeps those without a group in `_nogroup`
abbrev pub subvolume_command : Option ℕ → List ℕ → List ℕ → Option (List ℕ)
subvolume_command pin group name =
    if not (is_volume_name name) then None
    else if is_group group then Some (subvolume_line pin group name)
    else if bytes_eq group (codes "_nogroup") then Some (subvolume_line pin [] name)
    else None

-- the line that pins what these names lead to from /volumes: a group, or a subvolume
abbrev pub named_line : Option ℕ → List (List ℕ) → Option (List ℕ)
named_line pin (group ∷ []) = if is_group group then Some (group_line pin group) else None
named_line pin (group ∷ name ∷ []) = subvolume_command pin group name
named_line pin _ = None

-- the line that pins the directory of a path by Ceph's own command, if that is wanted and the command names it
abbrev pub ceph_line : Bool → Option ℕ → List ℕ → Option (List ℕ)
ceph_line by_ceph pin path = if by_ceph then named_line pin (volume_names path) else None

-- the directory of a path is a subvolume, or a group of them, that Ceph's own commands pin
abbrev pub is_unit : List ℕ → Bool
is_unit path = is_some (ceph_line true None path)
