-- Paths that name a directory in one way only.
use Rattle.std.specs.Prelude.{◌==◌, ◌||◌, ℕ, Bool, not, List, [], ◌∷◌, drop, length}
use Rattle.std.specs.List.{list_all, slice_split}
use Rattle.std.specs.Str.{bytes_eq}

-- an empty name, `.` and `..`
abbrev pub is_odd_name : List ℕ → Bool
is_odd_name name = (length name == 0) || (bytes_eq name (46 ∷ []) || bytes_eq name (46 ∷ 46 ∷ []))

-- the components of a path, each of which comes after a slash
abbrev pub components : List ℕ → List (List ℕ)
components path = drop 1 (slice_split (λ byte. byte == 47) path)

abbrev pub is_clean_path : List ℕ → Bool
is_clean_path path = list_all (λ name. not (is_odd_name name)) (components path)
