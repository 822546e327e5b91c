-- Paths of directories.
use Rattle.std.specs.Prelude.{◌==◌, not, filter, map, ℕ, Bool, true, false, if◌then◌else◌, List, []}
use Rattle.std.specs.Prelude.{◌∷◌, length, reverse, codes, Option, Some, None, Result, Ok, Err}
use Prim.Native.Nat.{zero, suc}
use Rattle.std.specs.List.{slice_split, flat_map}
use Rattle.dirtree.specs.declared.tree_error.TreeError.{TreeError}
use Rattle.dirtree.specs.declared.tree_error.TreeError.TheVariants.{NoDir, BadName}
use Rattle.dirtree.specs.Name.{is_name}
use Rattle.dirtree.specs.Tree.{Entry, child_of, name_of, walk_up}

-- on from the child, where there is one
abbrev pub onward : Option ℕ → (ℕ → Result ℕ TreeError) → Result ℕ TreeError
onward None next = Err NoDir
onward (Some child) next = next child

-- where the names lead from a directory
abbrev pub walk : List (Option Entry) → ℕ → List (List ℕ) → Result ℕ TreeError
walk entries at [] = Ok at
walk entries at (name ∷ names) =
    if is_name name then onward (child_of entries at name) (λ child. walk entries child names) else Err BadName

-- a path is only a slash, or names that each follow a slash
abbrev pub find : List (Option Entry) → List ℕ → Result ℕ TreeError
find entries [] = Err BadName
find entries (b ∷ path) =
    if b == 47 then (if length path == 0 then Ok 0 else walk entries 0 (slice_split (λ c. c == 47) path))
    else Err BadName

abbrev pub is_root : ℕ → Bool
is_root zero = true
is_root (suc d) = false

-- the names from d up to the root, whose own name is left out
abbrev pub names_up : List (Option Entry) → ℕ → List (List ℕ)
names_up entries d = map (name_of entries) (filter (λ a. not (is_root a)) (walk_up entries d))

-- the path of d: the names from the root down to it, each after a slash, and for the root a slash
abbrev pub path_of : List (Option Entry) → ℕ → List ℕ
path_of entries zero = codes "/"
path_of entries (suc d) = flat_map (λ name. 47 ∷ name) (reverse (names_up entries (suc d)))
