-- A list of directories, as it is read: the path of one a line, with names as getfattr writes them.
use Rattle.std.specs.Prelude.{◌≡◌, ◌≢◌, ◌==◌, ⊤, ℕ, List, [], ◌∷◌, All, Vec, drop, length, map, slice_index, true}
use Rattle.std.specs.Prelude.{if◌then◌else◌}
use Rattle.std.specs.Global.{Global}
use Rattle.std.specs.List.{flat_map}
use Rattle.ceph_dumps.specs.OwnList.{list_lines, named_bytes}
use Rattle.ceph_dumps.specs.FirstBroken.{IsFirstBroken}
use Rattle.ceph_dumps.specs.Paths.{is_clean_path}
use Rattle.ceph_dumps.specs.declared.dump_error.DumpError.{DumpError}
use Rattle.ceph_dumps.specs.declared.dump_error.DumpError.TheVariants.{Memory, Path}

-- the path of a line, which begins with a slash
abbrev pub line_path : List ℕ → List ℕ
line_path line = 47 ∷ named_bytes 0 (drop 1 line)

-- the path of a line, unless it is empty
abbrev pub line_paths : List ℕ → List (List ℕ)
line_paths line = if length line == 0 then [] else line_path line ∷ []

-- a line that isn't empty begins with a slash, and no component of its path is empty, `.` or `..`
abbrev pub IsPathLine : List ℕ → Type 0
IsPathLine line = length line ≢ 0 → (slice_index line 0 ≡ 47) × (is_clean_path (line_path line) ≡ true)

-- the bytes of each path
abbrev pub path_bytes : List (Vec ℕ Global) → List (List ℕ)
path_bytes paths = map (λ (path : Vec ℕ Global). path.items) paths

-- the paths are those of the lines of the list, in their order
pub record ArePathsOfList (bytes : List ℕ) (paths : List (Vec ℕ Global)) : Type 0 where
  pub lines : All IsPathLine (list_lines bytes)
  pub each : path_bytes paths ≡ flat_map line_paths (list_lines bytes)

-- why a list of directories can't be read: for want of memory, or for the first line that is no path
abbrev pub IsPathListError : List ℕ → DumpError → Type 0
IsPathListError bytes Memory = ⊤
IsPathListError bytes (Path number) = IsFirstBroken IsPathLine (list_lines bytes) number
IsPathListError bytes _ = ⊥
