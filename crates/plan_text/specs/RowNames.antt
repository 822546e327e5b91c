-- The names of the directories of a problem's rows.
use Rattle.std.specs.Prelude.{◌≡◌, ℕ, Bool, true, ◌||◌, List, codes}
use Rattle.std.specs.Str.{bytes_eq}
use Rattle.dirtree.specs.Name.{is_name}

-- the name of a directory, or the slash of the root
unfoldable pub is_row_name : List ℕ → Bool
is_row_name name = bytes_eq name (codes "/") || is_name name

abbrev pub IsRowName : List ℕ → Type 0
IsRowName name = is_row_name name ≡ true
