-- A tree of named directories.
use Rattle.std.specs.Prelude.{◌≡◌, ℕ, ◌<◌, Bool, true, false, not, ◌&&◌, if◌then◌else◌, ◌==◌, nat_lt, List, [], ◌∷◌}
use Rattle.std.specs.Prelude.{◌++◌, length, drop, slice_index_or, slice_set, is_some, Option, Some, None}
use Prim.Native.Nat.{zero, suc}
use Rattle.std.specs.List.{list_any}
use Rattle.std.specs.Option.{option_map, option_map_or}
use Rattle.std.specs.Str.{bytes_eq}
use Rattle.dirtree.specs.declared.tree_error.TreeError.{TreeError}
use Rattle.dirtree.specs.declared.tree_error.TreeError.TheVariants.{NoDir, Exists, BadName, NotEmpty, IsRoot, TreeFull}
use Rattle.dirtree.specs.declared.tree.TreeRow.{TreeRow}
use Rattle.dirtree.specs.Name.{is_name}

pub record Entry : Type 0 where
  pub parent : ℕ
  pub name : List ℕ
  pub inodes : ℕ

-- The directory with number d is the entry at place d. The root has number 0. A place whose directory was removed is
-- empty, and stays so: its number is not given again.
pub record Directories : Type 0 where
  pub limit : ℕ
  pub entries : List (Option Entry)

abbrev pub root : Entry
root = record { parent = 0; name = []; inodes = 1 }

-- the directory of this number, if it is there
abbrev pub entry_at : List (Option Entry) → ℕ → Option Entry
entry_at entries d = slice_index_or entries d None

abbrev pub is_there : List (Option Entry) → ℕ → Bool
is_there entries d = is_some (entry_at entries d)

abbrev pub parent_of : List (Option Entry) → ℕ → ℕ
parent_of entries d = option_map_or (λ e. e.parent) (entry_at entries d) 0

abbrev pub name_of : List (Option Entry) → ℕ → List ℕ
name_of entries d = option_map_or (λ e. e.name) (entry_at entries d) []

abbrev pub inodes_of : List (Option Entry) → ℕ → ℕ
inodes_of entries d = option_map_or (λ e. e.inodes) (entry_at entries d) 0

-- directory 0 is the root; each other one has a name and a parent with a smaller number, and differs in name from its
-- parent's other children
pub record IsTree (entries : List (Option Entry)) : Type 0 where
  pub rooted : entry_at entries 0 ≡ Some root
  pub above : (d : ℕ) → 0 < d → is_there entries d ≡ true → parent_of entries d < d
  pub parents : (d : ℕ) → is_there entries d ≡ true → is_there entries (parent_of entries d) ≡ true
  pub named : (d : ℕ) → 0 < d → is_there entries d ≡ true → is_name (name_of entries d) ≡ true
  pub unique : (c d : ℕ) → 0 < c → 0 < d → is_there entries c ≡ true → is_there entries d ≡ true
      → parent_of entries c ≡ parent_of entries d → name_of entries c ≡ name_of entries d → c ≡ d

-- the entry is a child of this directory with this name
abbrev pub is_named_child : ℕ → List ℕ → Option Entry → Bool
is_named_child parent name None = false
is_named_child parent name (Some e) = (e.parent == parent) && bytes_eq e.name name

-- the number of the child with this name, among entries that are numbered from first
abbrev pub child_from : ℕ → List (Option Entry) → ℕ → List ℕ → Option ℕ
child_from first [] parent name = None
child_from first (e ∷ entries) parent name =
    if is_named_child parent name e then Some first else child_from (suc first) entries parent name

-- the root is no directory's child
abbrev pub child_of : List (Option Entry) → ℕ → List ℕ → Option ℕ
child_of entries parent name = child_from 1 (drop 1 entries) parent name

-- c is the child of this directory with this name
pub record IsChild (entries : List (Option Entry)) (parent : ℕ) (name : List ℕ) (c : ℕ) : Type 0 where
  pub some : 0 < c
  pub there : is_there entries c ≡ true
  pub parent_is : parent_of entries c ≡ parent
  pub name_is : name_of entries c ≡ name

abbrev pub has_child : List (Option Entry) → ℕ → Bool
has_child entries d = list_any (λ e. option_map_or (λ child. child.parent == d) e false) (drop 1 entries)

-- why a directory can't be made, if it can't
abbrev pub make_refusal : Directories → ℕ → List ℕ → Option TreeError
make_refusal t parent name =
    if not (is_there t.entries parent) then Some NoDir
    else if not (is_name name) then Some BadName
    else if is_some (child_of t.entries parent name) then Some Exists
    else if not (nat_lt (length t.entries) t.limit) then Some TreeFull
    else None

-- the new directory has the next number
abbrev pub with_child : Directories → ℕ → List ℕ → ℕ → Directories
with_child t parent name inodes =
    record t { entries = t.entries ++ Some (record { parent = parent; name = name; inodes = inodes }) ∷ [] }

-- why a directory can't be removed, if it can't
abbrev pub remove_refusal : Directories → ℕ → Option TreeError
remove_refusal t d =
    if d == 0 then Some IsRoot
    else if not (is_there t.entries d) then Some NoDir
    else if has_child t.entries d then Some NotEmpty
    else None

abbrev pub without : Directories → ℕ → Directories
without t d = record t { entries = slice_set t.entries d None }

-- the directory of this number as a row, if it is there
abbrev pub row_at : List (Option Entry) → ℕ → Option TreeRow
row_at entries d = option_map (λ e. record { dir = d; parent = e.parent; inodes = e.inodes }) (entry_at entries d)

-- the directories, by rising numbers from first
abbrev pub rows_from : ℕ → List (Option Entry) → List TreeRow
rows_from first [] = []
rows_from first (None ∷ entries) = rows_from (suc first) entries
rows_from first (Some e ∷ entries) =
    record { dir = first; parent = e.parent; inodes = e.inodes } ∷ rows_from (suc first) entries

-- the directories from d up to the root, at most steps of them above d
abbrev pub up : List (Option Entry) → ℕ → ℕ → List ℕ
up entries zero d = d ∷ []
up entries (suc steps) zero = 0 ∷ []
up entries (suc steps) (suc d) = suc d ∷ up entries steps (parent_of entries (suc d))

-- parents have smaller numbers, so d steps lead to the root
abbrev pub walk_up : List (Option Entry) → ℕ → List ℕ
walk_up entries d = up entries d d
