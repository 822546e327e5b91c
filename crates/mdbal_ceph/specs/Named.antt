-- The paths that `--paths0` prints.
use Rattle.std.specs.Prelude.{◌++◌, ℕ, List, [], ◌∷◌, codes}
use Rattle.std.specs.List.{flat_map}
use Rattle.ceph_dumps.specs.declared.own_list.OwnPin.{OwnPin}
use Rattle.ceph_snapshot.specs.declared.directory.Directory.{Directory}

-- a path relative to the root, and a NUL, as `xargs -0` reads it
abbrev pub path0 : List ℕ → List ℕ
path0 path = codes "." ++ path ++ 0 ∷ []

abbrev pub directory_paths0 : List Directory → List ℕ
directory_paths0 directories = flat_map (λ (d : Directory). path0 d.path.items) directories

-- those of directories, and then those of pins
abbrev pub paths0 : List Directory → List OwnPin → List ℕ
paths0 directories own = directory_paths0 directories ++ flat_map (λ (pin : OwnPin). path0 pin.path.items) own
