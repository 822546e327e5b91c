-- The heat of an earlier hour, by the paths of directories.
use Rattle.std.specs.Prelude.{◌≡◌, ◌==◌, ◌<◌, ℕ, List, [], ◌∷◌, length, map, slice_index, if◌then◌else◌}
use Rattle.std.specs.List.{flat_map}
use Rattle.std.specs.Str.{bytes_eq}
use Rattle.ceph_dumps.specs.HourRecord.{HeatPath, heat_path}
use Rattle.ceph_dumps.specs.declared.file_system.FileSystem.{FileSystem}
use Rattle.ceph_dumps.specs.declared.hour_record.HourRecord.{HourRecord}
use Rattle.ceph_dumps.specs.declared.hour_record.PastHeat.{PastHeat}
use Rattle.ceph_snapshot.specs.declared.directory.Directory.{Directory}
use Rattle.ceph_snapshot.specs.declared.snapshot.Snapshot.{Snapshot}
use Rattle.ceph_snapshot.specs.Policies.{dir_path_at}

-- the heat of the first entry with this path; none where there is none
abbrev pub heat_then : List PastHeat → List ℕ → ℕ
heat_then [] path = 0
heat_then (entry ∷ others) path = if bytes_eq entry.path.items path then entry.heat else heat_then others path

-- each directory has the heat that its path had then. So one that is gone counts for nothing, and one that is new has
-- none
pub record AreHeatsThen (directories : List Directory) (past : List PastHeat) (heats : List ℕ) : Type 0 where
  pub size : length heats ≡ length directories
  pub each : (i : ℕ) → i < length directories
      → slice_index heats i ≡ heat_then past (dir_path_at directories i)

-- the heat and the path of a directory, if it has heat
abbrev pub heat_paths : Directory → List HeatPath
heat_paths d = if d.heat == 0 then [] else (d.heat, d.path.items) ∷ []

-- an hour has the heat of the directories of a snapshot that have some, in their order
pub record IsHourOfSnapshot (file_system : FileSystem) (snapshot : Snapshot) (hour : HourRecord) : Type 0 where
  pub of : hour.file_system ≡ file_system
  pub spread : hour.spread.items ≡ snapshot.spread.items
  pub heats : map heat_path hour.heats.items ≡ flat_map heat_paths snapshot.directories.items
