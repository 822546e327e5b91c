-- Why a run has no result.
use Rattle.std.specs.Prelude.{◌≡◌, ◌≢◌, ◌⊎◌, ◌<◌, ◌≤◌, ◌^◌, ⊤, ℕ, All, Bool, true, List, Option, Some, None}
use Rattle.std.specs.Prelude.{codes, is_some, length, string_bytes}
use Rattle.std.specs.List.{IsAmong}
use Rattle.mds_types.specs.RankSet.{has_rank}
use Rattle.ceph_dumps.specs.Balancer.{IsBalancer}
use Rattle.ceph_dumps.specs.Complete.{IsCompleteError}
use Rattle.ceph_dumps.specs.HourRecord.{IsBrokenHour, IsHourError}
use Rattle.ceph_dumps.specs.Inodes.{IsBrokenRecord}
use Rattle.ceph_dumps.specs.Listing.{AreValuesListed, IsListingError}
use Rattle.ceph_dumps.specs.OwnList.{IsPinListError}
use Rattle.ceph_dumps.specs.declared.cluster.FileSystemRanks.{FileSystemRanks}
use Rattle.ceph_dumps.specs.declared.dump_error.DumpError.{DumpError}
use Rattle.ceph_dumps.specs.declared.dump_error.DumpError.TheVariants as dump
use Rattle.ceph_dumps.specs.declared.listing.ListedDir.{ListedDir}
use Rattle.ceph_dumps.specs.declared.loads.FragmentHeat.{FragmentHeat}
use Rattle.ceph_dumps.specs.declared.subtrees.SubtreeRoot.{SubtreeRoot}
use Rattle.ceph_snapshot.specs.Authority.{IsUnclaimed, LieAsClaimed, PathText, fragment_of}
use Rattle.ceph_snapshot.specs.Doubts.{have_left}
use Rattle.ceph_snapshot.specs.Facts.{AreAsTold, Fact, Root, Value}
use Rattle.ceph_snapshot.specs.Heard.{AreHeardAt, HasTold, heard_in}
use Rattle.ceph_snapshot.specs.Named.{AreTooManyNamed}
use Rattle.ceph_snapshot.specs.Shown.{shown_path}
use Rattle.ceph_snapshot.specs.Sightings.{PathHeat, seen_in}
use Rattle.ceph_snapshot.specs.declared.gathering.Gathering.{Gathering}
use Rattle.ceph_snapshot.specs.declared.gathering.Hearsay.{Hearsay}
use Rattle.ceph_snapshot.specs.declared.snapshot_error.SnapshotError.{SnapshotError}
use Rattle.ceph_snapshot.specs.declared.snapshot_error.SnapshotError.TheVariants as doubt
use Rattle.ceph_snapshot.specs.declared.tree.Node.{Node}
use Rattle.pin_driver.specs.Driven.{IsMark}
use Rattle.pin_driver.specs.PinPlan.{PlanParts}
use Rattle.pin_driver.specs.StoredReading.{IsOutOfMemory}
use Rattle.pin_driver.specs.StoredText.{FitsText, stored_text}
use Rattle.pin_driver.specs.declared.question.Mark.{Mark}
use Rattle.pin_driver.specs.declared.text_error.TextError.{TextError}
use Rattle.mdbal_ceph.specs.Dumps.{AreDumpsOf, AreInodes, AreRanksOf, DumpKind, DumpValue, Dumps, IsRootsFile}
use Rattle.mdbal_ceph.specs.Dumps.{IsLoadsFile, IsSampleCount}
use Rattle.mdbal_ceph.specs.Dumps.{OfLoads, OfRanks, OfRoots, Ranks, all_facts, all_seen, file_in, loads_file}
use Rattle.mdbal_ceph.specs.Dumps.{root_facts}
use Rattle.mdbal_ceph.specs.Dumps.{subtrees_file}
use Rattle.mdbal_ceph.specs.Folder.{Failed, FileContent, IsInFile, IsInFileIfAny, Missing}
use Rattle.mdbal_ceph.specs.declared.no_result.FileFault.{FileFault}
use Rattle.mdbal_ceph.specs.declared.no_result.FileFault.TheVariants as fault
use Rattle.mdbal_ceph.specs.declared.no_result.NoResult.{NoResult}
use Rattle.mdbal_ceph.specs.declared.no_result.NoResult.TheVariants as why
use Rattle.mdbal_ceph.specs.declared.source.TheConstants.{SAMPLE_LIMIT}

-- memory was refused; or this is wrong with the file of this name
abbrev pub IsNamedBy : List ℕ → (FileFault → Type 0) → NoResult → Type 0
IsNamedBy name Is why.Memory = ⊤
IsNamedBy name Is (why.File told one) = (string_bytes told ≡ name) × Is one
IsNamedBy name Is other = ⊥

-- memory was refused
abbrev pub IsNoMemory : NoResult → Type 0
IsNoMemory why.Memory = ⊤
IsNoMemory other = ⊥

-- or there are too many directories, for this cause
abbrev pub IsGrowth : Type 0 → NoResult → Type 0
IsGrowth Cause why.Memory = ⊤
IsGrowth Cause why.TooMany = Cause
IsGrowth Cause other = ⊥

-- a file can't be read: its device failed
abbrev pub IsUnread : (List ℕ → FileContent → Type 0) → List ℕ → FileFault → Type 0
IsUnread reads name (fault.Device error) = reads name Failed
IsUnread reads name other = ⊥

-- or there is none
abbrev pub IsNoBytes : (List ℕ → FileContent → Type 0) → List ℕ → FileFault → Type 0
IsNoBytes reads name (fault.Device error) = reads name Failed
IsNoBytes reads name fault.Missing = reads name Missing
IsNoBytes reads name other = ⊥

-- or its bytes are refused
abbrev pub IsListFault : (List ℕ → FileContent → Type 0) → (List ℕ → DumpError → Type 0) → List ℕ → FileFault
    → Type 0
IsListFault reads Refuses name (fault.Device error) = reads name Failed
IsListFault reads Refuses name fault.Missing = reads name Missing
IsListFault reads Refuses name (fault.Refused error) = IsInFile reads Refuses name error
IsListFault reads Refuses name other = ⊥

-- what is wrong with the list of this name, where one is named, and its kind says what it is refused for
abbrev pub IsListedFault : (List ℕ → FileContent → Type 0) → (List ℕ → DumpError → Type 0) → Option (List ℕ)
    → NoResult → Type 0
IsListedFault reads Refuses None error = ⊥
IsListedFault reads Refuses (Some name) error = IsNamedBy name (IsListFault reads Refuses name) error

-- a folder, and its files
pub data DumpFile : Type 0 where
  Itself : DumpFile
  Complete : DumpFile
  Map : DumpFile
  Balancer : DumpFile
  Numbers : DumpFile
  Listing : DumpFile
  Counted : ℕ → DumpFile
  OfRank : ℕ → DumpFile
  Sample : ℕ → ℕ → DumpFile

abbrev pub dump_name : List ℕ → DumpFile → List ℕ
dump_name folder Itself = folder
dump_name folder Complete = file_in folder (codes "complete")
dump_name folder Map = file_in folder (codes "fs.json")
dump_name folder Balancer = file_in folder (codes "balancer")
dump_name folder Numbers = file_in folder (codes "inodes")
dump_name folder Listing = file_in folder (codes "dirs")
dump_name folder (Counted sample) = loads_file folder 0 sample
dump_name folder (OfRank rank) = subtrees_file folder rank
dump_name folder (Sample rank sample) = loads_file folder rank sample

-- what has to be there
abbrev pub IsNeeded : DumpFile → Type 0
IsNeeded Map = ⊤
IsNeeded (OfRank rank) = ⊤
IsNeeded (Sample rank sample) = ⊤
IsNeeded other = ⊥

abbrev pub IsFolder : DumpFile → Type 0
IsFolder Itself = ⊤
IsFolder other = ⊥

abbrev pub IsEnd : DumpFile → Type 0
IsEnd Complete = ⊤
IsEnd other = ⊥

-- what the reader of a file refuses, as far as it says so
abbrev pub IsNoNumbers : List ℕ → DumpError → Type 0
IsNoNumbers bytes error = (number : ℕ) → error ≡ dump.Record number → IsBrokenRecord bytes number

abbrev pub IsNoBalancer : List ℕ → DumpError → Type 0
IsNoBalancer bytes error = (is_on : Bool) → IsBalancer bytes is_on → ⊥

abbrev pub IsNoHour : List ℕ → DumpError → Type 0
IsNoHour bytes error =
    IsHourError error × ((number : ℕ) → error ≡ dump.Hour number → IsBrokenHour bytes number)

abbrev pub IsNoStored : List ℕ → TextError → Type 0
IsNoStored bytes error =
    (plan : PlanParts) (mark : Mark) → FitsText plan mark → IsMark mark (length plan.changes)
    → bytes ≡ stored_text plan mark → IsOutOfMemory error

abbrev pub IsRefusedFile : (DumpKind → List ℕ → DumpError → Type 0) → DumpFile → List ℕ → DumpError → Type 0
IsRefusedFile refuses Map = refuses OfRanks
IsRefusedFile refuses (OfRank rank) = refuses OfRoots
IsRefusedFile refuses (Sample rank sample) = refuses OfLoads
IsRefusedFile refuses Balancer = IsNoBalancer
IsRefusedFile refuses Numbers = IsNoNumbers
IsRefusedFile refuses Complete = IsCompleteError
IsRefusedFile refuses Listing = IsListingError
IsRefusedFile refuses Itself = λ bytes error. ⊥
IsRefusedFile refuses (Counted sample) = λ bytes error. ⊥

module _ (reads : List ℕ → FileContent → Type 0) (says : List ℕ → DumpValue → Type 0)
    (refuses : DumpKind → List ℕ → DumpError → Type 0) where
  -- what may be wrong with a file of a folder, where this is its name
  abbrev pub IsFileCause : List ℕ → DumpFile → FileFault → Type 0
  IsFileCause name file (fault.Device error) = reads name Failed
  IsFileCause name file fault.Missing = IsNeeded file × reads name Missing
  IsFileCause name file fault.NoFolder = IsFolder file × reads name Missing
  IsFileCause name file fault.Unfinished = IsEnd file × reads name Missing
  IsFileCause name file (fault.Refused error) = IsInFile reads (IsRefusedFile refuses file) name error
  IsFileCause name file (fault.Stored error) = ⊥

  -- a rank of the file system, and the number of a sample
  abbrev pub IsRankIn : List ℕ → ℕ → Type 0
  IsRankIn folder rank =
      (cluster : FileSystemRanks) × IsInFile reads says (file_in folder (codes "fs.json")) (Ranks cluster)
      × (has_rank cluster.ranks rank ≡ true)

  abbrev pub IsSampleIn : List ℕ → ℕ → Type 0
  IsSampleIn folder sample =
      (count : ℕ) × IsSampleCount reads folder count × (1 ≤ sample) × (sample ≤ count)

  -- the files that are read: of each rank of the file system the roots, and as many samples as rank 0 gave
  abbrev pub IsToRead : List ℕ → DumpFile → Type 0
  IsToRead folder (Counted sample) = (1 < sample) × (sample ≤ SAMPLE_LIMIT)
  IsToRead folder (OfRank rank) = IsRankIn folder rank
  IsToRead folder (Sample rank sample) = IsRankIn folder rank × IsSampleIn folder sample
  IsToRead folder other = ⊤

  -- how a folder is read: with these inode numbers, where they were listed, and with so many samples of each rank
  pub record IsReadWith (folder : List ℕ) (numbers : Option (List ListedDir)) (count : ℕ) : Type 0 where
    pub numbers_are : IsInFileIfAny reads AreInodes (file_in folder (codes "inodes")) numbers
    pub count_is : IsSampleCount reads folder count

  -- these are ranks of the file system
  abbrev pub AreRanksIn : List ℕ → ℕ → Type 0
  AreRanksIn folder ranks = (rank : ℕ) → has_rank ranks rank ≡ true → IsRankIn folder rank

  -- a rank of the file system lists this root in its dump; or this value was listed over the mount, as an inode number
  -- or as another one
  abbrev pub IsFactIn : List ℕ → Option (List ListedDir) → Fact → Type 0
  IsFactIn folder numbers (Root rank root) =
      IsRankIn folder rank × (roots : List SubtreeRoot)
      × IsRootsFile reads says numbers (subtrees_file folder rank) roots × IsAmong roots root
  IsFactIn folder numbers (Value dir) =
      ((those : List ListedDir) × (numbers ≡ Some those) × IsAmong those dir)
      ⊎ ((listing : List ListedDir)
      × IsInFile reads AreValuesListed (file_in folder (codes "dirs")) listing × IsAmong listing dir)

  -- a rank of the file system has seen this heat, by one of its samples
  pub record IsHeatIn (folder : List ℕ) (numbers : Option (List ListedDir)) (heat : PathHeat) : Type 0 where
    pub rank : ℕ
    pub rank_in : IsRankIn folder rank
    pub sample : ℕ
    pub sample_in : IsSampleIn folder sample
    pub loads : List FragmentHeat
    pub loads_are : IsLoadsFile reads says numbers (loads_file folder rank sample) loads
    pub among : IsAmong (seen_in rank loads) heat

  -- a folder is read so, and what was gathered so far is what its files say
  pub record IsReadInto (folder : List ℕ) (numbers : Option (List ListedDir)) (count : ℕ) (gathering : Gathering)
      : Type 0 where
    pub read : IsReadWith folder numbers count
    pub seen_in_files : All (IsHeatIn folder numbers) gathering.tree.seen
    pub facts : List Fact
    pub told : HasTold gathering facts
    pub listed : All (IsFactIn folder numbers) facts

  -- by this root in its dump a rank claims a fragment of a directory
  pub record IsClaimOf (folder : List ℕ) (numbers : Option (List ListedDir)) (rank : ℕ) (fragment : List ℕ)
      (root : SubtreeRoot) : Type 0 where
    pub rank_in : IsRankIn folder rank
    pub roots : List SubtreeRoot
    pub roots_are : IsRootsFile reads says numbers (subtrees_file folder rank) roots
    pub among : IsAmong roots root
    pub here : root.is_here ≡ true
    pub named : fragment_of root ≡ Some fragment

  -- two ranks claim one fragment of a directory, each in its own dump; in that of the second it has this path
  pub record IsTwiceClaimed (folder path : List ℕ) (first second : ℕ) : Type 0 where
    pub numbers : Option (List ListedDir)
    pub numbers_are : IsInFileIfAny reads AreInodes (file_in folder (codes "inodes")) numbers
    pub fragment : List ℕ
    pub one : SubtreeRoot
    pub first_claims : IsClaimOf folder numbers first fragment one
    pub two : SubtreeRoot
    pub second_claims : IsClaimOf folder numbers second fragment two
    pub path_is : path ≡ shown_path two.path.items
    pub other : first ≢ second

  -- what the dumps say of directories: those of the ranks, or all of them
  pub record AreToldIn (folder : List ℕ) (facts : List Fact) : Type 0 where
    pub dumps : Dumps
    pub ranks : AreRanksOf reads says folder dumps
    pub are : (facts ≡ root_facts dumps.ranks)
        ⊎ (AreDumpsOf reads says folder dumps × (facts ≡ all_facts dumps))

  -- by all claims the directory of this path isn't at the rank that another one takes for its authority
  pub record IsUnclaimedIn (folder : List ℕ) (path : PathText) (by authority : ℕ) : Type 0 where
    pub facts : List Fact
    pub facts_are : AreToldIn folder facts
    pub nodes : List Node
    pub told : AreAsTold nodes facts
    pub placed : List Node
    pub claimed : LieAsClaimed nodes placed
    pub hearsay : List Hearsay
    pub heard : AreHeardAt nodes hearsay (heard_in facts)
    pub is : IsUnclaimed placed hearsay path by authority

  -- most of the directories for which the dumps name an inode number are doubtful
  pub record IsElsewhere (folder : List ℕ) : Type 0 where
    pub dumps : Dumps
    pub dumps_of : AreDumpsOf reads says folder dumps
    pub nodes : List Node
    pub told : AreAsTold nodes (all_facts dumps)
    pub left : have_left (is_some dumps.numbers) (all_seen dumps.ranks) nodes ≡ true

  -- the files of a folder name more directories than 32 bits can number: each is at or above one where a rank has seen
  -- heat, or one of a root or a listed value
  pub record AreTooManyIn (folder : List ℕ) : Type 0 where
    pub numbers : Option (List ListedDir)
    pub numbers_are : IsInFileIfAny reads AreInodes (file_in folder (codes "inodes")) numbers
    pub seen : List PathHeat
    pub seen_in_files : All (IsHeatIn folder numbers) seen
    pub facts : List Fact
    pub listed : All (IsFactIn folder numbers) facts
    pub many : AreTooManyNamed seen facts

  -- more inode numbers were listed than that
  pub record AreTooManyNumbers (folder : List ℕ) : Type 0 where
    pub numbers : List ListedDir
    pub numbers_are : IsInFile reads AreInodes (file_in folder (codes "inodes")) numbers
    pub many : 2 ^ 32 < length numbers

  -- what the files say that can't be so
  abbrev pub IsDoubtful : List ℕ → SnapshotError → Type 0
  IsDoubtful folder doubt.Memory = ⊥
  IsDoubtful folder doubt.TooMany = ⊥
  IsDoubtful folder doubt.Elsewhere = IsElsewhere folder
  IsDoubtful folder (doubt.TwoClaims path first second) = IsTwiceClaimed folder (string_bytes path) first second
  IsDoubtful folder (doubt.Unclaimed path by authority) = IsUnclaimedIn folder path by authority

  -- why the files of a folder give no directories: memory was refused; a file is not there or not what it has to be;
  -- what the files say can't be so; or they name more directories, or list more inode numbers, than can be numbered
  abbrev pub IsFolderFault : List ℕ → NoResult → Type 0
  IsFolderFault folder why.Memory = ⊤
  IsFolderFault folder (why.File told one) =
      (file : DumpFile) × IsToRead folder file × (string_bytes told ≡ dump_name folder file)
      × IsFileCause (dump_name folder file) file one
  IsFolderFault folder (why.Gathered error) = IsDoubtful folder error
  IsFolderFault folder why.TooMany = AreTooManyIn folder ⊎ AreTooManyNumbers folder
  IsFolderFault folder other = ⊥

  -- or what is wrong is in the list of pins of this name, where one is named
  abbrev pub IsCollectFault : List ℕ → Option (List ℕ) → NoResult → Type 0
  IsCollectFault folder list error = IsFolderFault folder error ⊎ IsListedFault reads IsPinListError list error
