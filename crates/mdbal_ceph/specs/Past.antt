-- Earlier hours: what is read of each.
use Rattle.std.specs.Prelude.{◌≡◌, ◌⊎◌, ◌&&◌, ℕ, All, Bool, List, map, string_bytes, true}
use Rattle.std.specs.Str.{bytes_eq}
use Rattle.ceph_dumps.specs.HourRecord.{IsHourOf}
use Rattle.ceph_dumps.specs.declared.file_system.FileSystem.{FileSystem}
use Rattle.ceph_dumps.specs.declared.hour_record.HourRecord.{HourRecord}
use Rattle.ceph_snapshot.specs.Hours.{IsHourOfSnapshot}
use Rattle.ceph_snapshot.specs.declared.snapshot.Snapshot.{Snapshot}
use Rattle.mdbal_ceph.specs.Collections.{IsFileSystemOf, IsOfRanks}
use Rattle.mdbal_ceph.specs.Dumps.{DumpValue}
use Rattle.mdbal_ceph.specs.Folder.{FileContent, IsInFile}
use Rattle.mdbal_ceph.specs.declared.past.EarlierHour.{EarlierHour}

-- the record of a folder: which file system it is of, and the heat of its directories, by the dumps of the ranks
pub record IsRecordOfFolder (reads : List ℕ → FileContent → Type 0) (says : List ℕ → DumpValue → Type 0)
    (folder : List ℕ) (kept : HourRecord) : Type 0 where
  pub file_system : FileSystem
  pub snapshot : Snapshot
  pub of : IsFileSystemOf reads folder file_system
  pub ranks : IsOfRanks reads says folder snapshot
  pub hour : IsHourOfSnapshot file_system snapshot kept

-- the record in the file of this name, or that of the folder of this name
abbrev pub IsRecordOf : (List ℕ → FileContent → Type 0) → (List ℕ → DumpValue → Type 0) → List ℕ → HourRecord → Type 0
IsRecordOf reads says name kept = IsInFile reads IsHourOf name kept ⊎ IsRecordOfFolder reads says name kept

-- earlier hours: each of these names once, in their order, with its record
pub record AreEarlier (reads : List ℕ → FileContent → Type 0) (says : List ℕ → DumpValue → Type 0)
    (names : List (List ℕ)) (earlier : List EarlierHour) : Type 0 where
  pub these : map (λ (hour : EarlierHour). hour.name.now) earlier ≡ names
  pub each : All (λ (hour : EarlierHour). IsRecordOf reads says hour.name.now hour.kept) earlier

-- the same name in the same cluster
abbrev pub is_same_file_system : FileSystem → FileSystem → Bool
is_same_file_system one other =
    bytes_eq (string_bytes one.name) (string_bytes other.name)
    && bytes_eq (string_bytes one.fsid) (string_bytes other.fsid)

-- each earlier hour is of this file system
abbrev pub AreOfFileSystem : FileSystem → List EarlierHour → Type 0
AreOfFileSystem now earlier =
    All (λ (hour : EarlierHour). is_same_file_system hour.kept.file_system now ≡ true) earlier
