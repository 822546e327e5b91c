-- What was collected: of the files of a folder, and of the list of pins of an earlier plan.
use Rattle.std.specs.Prelude.{◌≡◌, ◌⊎◌, ◌++◌, All, Bool, ℕ, List, [], Option, Some, None, Vec, codes, false, is_some}
use Rattle.std.specs.Prelude.{string_bytes, true}
use Rattle.std.specs.Global.{Global}
use Rattle.std.specs.Option.{option_map, option_map_or}
use Rattle.ceph_dumps.specs.Balancer.{IsBalancer}
use Rattle.ceph_dumps.specs.Complete.{IsWord, line_of}
use Rattle.ceph_dumps.specs.OwnList.{ArePinsOfList}
use Rattle.ceph_dumps.specs.PathList.{ArePathsOfList}
use Rattle.ceph_dumps.specs.declared.file_system.FileSystem.{FileSystem}
use Rattle.ceph_dumps.specs.declared.own_list.OwnPin.{OwnPin}
use Rattle.ceph_snapshot.specs.Authority.{LieAsClaimed}
use Rattle.ceph_snapshot.specs.Doubts.{have_left, with_numbers}
use Rattle.ceph_snapshot.specs.Facts.{AreAsTold, Fact}
use Rattle.ceph_snapshot.specs.Gathered.{foreign_pin, idle_pin, listed_rank, numbers_at, our_pin, path_pin_at}
use Rattle.ceph_snapshot.specs.Gathered.{whose_pin_at, with_owner}
use Rattle.ceph_snapshot.specs.Heard.{BearsOut, HasDirectory, HasSpreadHeat, HasTold}
use Rattle.ceph_snapshot.specs.Named.{IsPathNamed}
use Rattle.ceph_snapshot.specs.Sightings.{HasSeen, LieAt, PathHeat}
use Rattle.ceph_snapshot.specs.Snapshots.{IsSnapshot}
use Rattle.ceph_snapshot.specs.declared.directory.Directory.{Directory}
use Rattle.ceph_snapshot.specs.declared.gathering.Gathering.{Gathering}
use Rattle.ceph_snapshot.specs.declared.snapshot.Snapshot.{Snapshot}
use Rattle.ceph_snapshot.specs.declared.tree.Node.{Node}
use Rattle.mdbal_ceph.specs.Dumps.{AreDumpsOf, AreRanksOf, DumpValue, Dumps, all_facts, all_seen, file_in}
use Rattle.mdbal_ceph.specs.Dumps.{root_facts}
use Rattle.mdbal_ceph.specs.Folder.{FileContent, IsInFile, Missing}
use Rattle.mdbal_ceph.specs.declared.collected.Collected.{Collected}

-- whose the pin of a directory is: this program's own where the last line of the list with the directory's path has the
-- rank of the pin. It is somebody else's otherwise, to one of these ranks or to none of them
pub record HasOwner (own : List OwnPin) (ranks : ℕ) (d : Directory) : Type 0 where
  pub pinned : Option ℕ
  pub ours : d.earlier ≡ our_pin pinned (listed_rank own d.path.items)
  pub others : d.pin ≡ foreign_pin pinned (listed_rank own d.path.items) ranks
  pub idle : d.idle ≡ idle_pin pinned (listed_rank own d.path.items) ranks

abbrev pub pins_listed : Option (Vec OwnPin Global) → List OwnPin
pins_listed own = option_map_or (λ pins. pins.items) own []

abbrev pub listed_pins : Collected → List OwnPin
listed_pins collected = pins_listed collected.own

-- each pin by the list that was read, and by the ranks of the file system
abbrev pub HasOurPins : Collected → Type 0
HasOurPins collected =
    All (HasOwner (listed_pins collected) collected.cluster.ranks) collected.snapshot.directories.items

-- the file `complete` has this file system
pub record IsComplete (bytes : List ℕ) (found : FileSystem) : Type 0 where
  pub line : bytes ≡ line_of (string_bytes found.name) (string_bytes found.fsid)
  pub name : IsWord (string_bytes found.name)
  pub fsid : IsWord (string_bytes found.fsid)

abbrev pub IsFileSystemOf : (List ℕ → FileContent → Type 0) → List ℕ → FileSystem → Type 0
IsFileSystemOf reads folder found = IsInFile reads IsComplete (file_in folder (codes "complete")) found

-- Ceph's balancer is as the file `balancer` says, and counts as on where there is no such file
abbrev pub IsBalancerOf : (List ℕ → FileContent → Type 0) → List ℕ → Bool → Type 0
IsBalancerOf reads folder is_on =
    IsInFile reads IsBalancer (file_in folder (codes "balancer")) is_on
    ⊎ (reads (file_in folder (codes "balancer")) Missing × (is_on ≡ true))

-- the pins of the list of this name, where one is named
abbrev pub IsOwnOf : (List ℕ → FileContent → Type 0) → Option (List ℕ) → Option (Vec OwnPin Global) → Type 0
IsOwnOf reads None own = own ≡ None
IsOwnOf reads (Some name) own =
    (pins : Vec OwnPin Global) × (own ≡ Some pins) × IsInFile reads ArePinsOfList name pins.items

-- the directories of the list of this name, where one is named
abbrev pub AreLeftOf : (List ℕ → FileContent → Type 0) → Option (List ℕ) → List (Vec ℕ Global) → Type 0
AreLeftOf reads None leave = leave ≡ []
AreLeftOf reads (Some name) leave = IsInFile reads ArePathsOfList name leave

-- the heat that ranks have seen, and what the dumps say of directories, is gathered, and no more: with or without a
-- listing, and with or without inode numbers
pub record HasGathered (seen : List PathHeat) (facts : List Fact) (listed numbered : Bool) (g : Gathering)
    : Type 0 where
  pub seen_is : g.tree.seen ≡ seen
  pub told : HasTold g facts
  pub listed_is : g.is_listed ≡ listed
  pub numbered_is : g.is_numbered ≡ numbered

-- to what is gathered comes this heat, and then what is said of roots
pub record Adds (old new : Gathering) (seen : List PathHeat) (facts : List Fact) : Type 0 where
  pub seen_more : new.tree.seen ≡ old.tree.seen ++ seen
  pub told : (before : List Fact) → HasTold old before → HasTold new (before ++ facts)
  pub listed : new.is_listed ≡ old.is_listed
  pub numbered : new.is_numbered ≡ old.is_numbered

-- the directories are those that were seen and told of, and each of them is named. Each lies where the ranks claim, and
-- has the mean of the heat that the ranks saw that have it; its pin, entries, policy and inode number are those that
-- were told last. What each rank saw of those that are spread counts as spread at that rank. Each lies where ranks take
-- it to be, and no fragment is claimed by two
pub record IsSnapshotOf (seen : List PathHeat) (facts : List Fact) (listed numbered : Bool) (count : ℕ)
    (own : List OwnPin) (ranks : ℕ) (snapshot : Snapshot) : Type 0 where
  pub nodes : List Node
  pub placed : List Node
  pub told : AreAsTold nodes facts
  pub claimed : LieAsClaimed nodes placed
  pub lie : LieAt placed snapshot.directories.items
  pub heat : All (HasSeen seen count) snapshot.directories.items
  pub there : All (λ s. HasDirectory snapshot.directories.items s.path) seen
  pub named : All (λ d. IsPathNamed seen facts d.path.items) snapshot.directories.items
  pub spread : HasSpreadHeat seen count snapshot
  pub here : have_left numbered seen nodes ≡ false
  pub numbers : (i : ℕ) → numbers_at snapshot.directories.items i
      ≡ option_map (with_numbers numbered seen) (path_pin_at nodes i)
  pub owner : (i : ℕ) → whose_pin_at snapshot.directories.items i
      ≡ option_map (with_owner own ranks) (path_pin_at nodes i)
  pub borne_out : BearsOut facts listed nodes snapshot

-- the directories are those of the dumps of the ranks alone, of the files of a folder
pub record IsOfRanks (reads : List ℕ → FileContent → Type 0) (says : List ℕ → DumpValue → Type 0) (folder : List ℕ)
    (snapshot : Snapshot) : Type 0 where
  pub dumps : Dumps
  pub dumps_of : AreRanksOf reads says folder dumps
  pub is : IsSnapshot snapshot
  pub directories : IsSnapshotOf (all_seen dumps.ranks) (root_facts dumps.ranks) false false dumps.count []
      dumps.cluster.ranks snapshot

-- what was collected is read of the files of a folder, and of the list of pins of this name where one is named: which
-- file system it is, its ranks, whether Ceph's balancer is on, the samples, and the directories by all of its dumps
pub record IsCollected (reads : List ℕ → FileContent → Type 0) (says : List ℕ → DumpValue → Type 0) (folder : List ℕ)
    (own : Option (List ℕ)) (collected : Collected) : Type 0 where
  pub dumps : Dumps
  pub dumps_of : AreDumpsOf reads says folder dumps
  pub file_system : IsFileSystemOf reads folder collected.file_system
  pub cluster : collected.cluster ≡ dumps.cluster
  pub balancer : IsBalancerOf reads folder collected.balances
  pub samples : collected.samples ≡ dumps.count
  pub own_of : IsOwnOf reads own collected.own
  pub is : IsSnapshot collected.snapshot
  pub directories : IsSnapshotOf (all_seen dumps.ranks) (all_facts dumps) (is_some dumps.listing)
      (is_some dumps.numbers) dumps.count (listed_pins collected) dumps.cluster.ranks collected.snapshot
