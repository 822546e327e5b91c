-- The dumps of a folder: which file says what of which rank, and what they say in all.
use Rattle.std.specs.Prelude.{◌≡◌, ◌≢◌, ◌<◌, ◌≤◌, ◌⊎◌, ◌+◌, ◌++◌, ◌∷◌, ℕ, All, List, [], Option, Some, None, codes}
use Rattle.std.specs.Prelude.{decimal, filter, length, map, slice_get, slice_index_or, if◌then◌else◌}
use Rattle.std.specs.List.{flat_map, range_with_len}
use Rattle.std.specs.Option.{option_map}
use Rattle.mds_types.specs.RankSet.{has_rank}
use Rattle.mds_types.specs.declared.limits.TheConstants.{RANK_LIMIT}
use Rattle.ceph_dumps.specs.Cluster.{IsBadMap, IsClusterOf, MapData, said_map}
use Rattle.ceph_dumps.specs.Inodes.{AreInodesBefore}
use Rattle.ceph_dumps.specs.Listing.{AreValuesListed}
use Rattle.ceph_dumps.specs.Loads.{fragment_data, said_loads}
use Rattle.ceph_dumps.specs.Subtrees.{root_data, said_roots}
use Rattle.ceph_dumps.specs.declared.cluster.FileSystemRanks.{FileSystemRanks}
use Rattle.ceph_dumps.specs.declared.dump_error.DumpError.{DumpError}
use Rattle.ceph_dumps.specs.declared.dump_error.DumpError.TheVariants.{Memory}
use Rattle.ceph_dumps.specs.declared.listing.ListedDir.{ListedDir}
use Rattle.ceph_dumps.specs.declared.loads.FragmentHeat.{FragmentHeat}
use Rattle.ceph_dumps.specs.declared.subtrees.SubtreeRoot.{SubtreeRoot}
use Rattle.ceph_snapshot.specs.Facts.{Fact, roots_in, values_in}
use Rattle.ceph_snapshot.specs.Mounts.{mounted_heat, mounted_root}
use Rattle.ceph_snapshot.specs.Sightings.{PathHeat, of_fragment, seen_in}
use Rattle.mdbal_ceph.specs.declared.source.TheConstants.{SAMPLE_LIMIT}
use Rattle.mdbal_ceph.specs.Folder.{FileContent, IsInFile, IsInFileIfAny, Missing}

-- what a dump says: the ranks of a file system, the roots that a rank knows, or the heat that it has seen
pub data DumpValue : Type 0 where
  Ranks : FileSystemRanks → DumpValue
  Roots : List SubtreeRoot → DumpValue
  Loads : List FragmentHeat → DumpValue

-- which dump it is
pub data DumpKind : Type 0 where
  OfRanks : DumpKind
  OfRoots : DumpKind
  OfLoads : DumpKind

-- the files of a folder
abbrev pub file_in : List ℕ → List ℕ → List ℕ
file_in folder name = folder ++ (codes "/" ++ name)

abbrev pub subtrees_file : List ℕ → ℕ → List ℕ
subtrees_file folder rank = folder ++ (codes "/subtrees." ++ (decimal rank ++ codes ".json"))

abbrev pub loads_file : List ℕ → ℕ → ℕ → List ℕ
loads_file folder rank sample =
    folder ++ (codes "/loads." ++ (decimal rank ++ (codes "." ++ (decimal sample ++ codes ".json"))))

-- the records of a list of inode numbers, all of them
abbrev pub AreInodes : List ℕ → List ListedDir → Type 0
AreInodes bytes found = AreInodesBefore bytes [] found

-- roots and heat as they were read, with the names of the mount where inode numbers were listed over it
abbrev pub AreNamedRoots : Option (List ListedDir) → List SubtreeRoot → List SubtreeRoot → Type 0
AreNamedRoots None read named = named ≡ read
AreNamedRoots (Some numbers) read named =
    (i : ℕ) → option_map root_data (slice_get named i)
    ≡ option_map (λ root. mounted_root numbers (root_data root)) (slice_get read i)

abbrev pub AreNamedLoads : Option (List ListedDir) → List FragmentHeat → List FragmentHeat → Type 0
AreNamedLoads None read named = named ≡ read
AreNamedLoads (Some numbers) read named =
    (rank i : ℕ) → option_map (of_fragment rank) (slice_get named i)
    ≡ option_map (λ f. mounted_heat numbers (of_fragment rank f)) (slice_get read i)

-- what a rank gave: its roots, and its samples of heat, with the names of the mount
pub record RankDump : Type 0 where
  pub rank : ℕ
  pub roots : List SubtreeRoot
  pub samples : List (List FragmentHeat)

-- what was collected of the ranks of a file system, and over a mount
pub record Dumps : Type 0 where
  pub cluster : FileSystemRanks
  pub count : ℕ
  pub ranks : List RankDump
  pub numbers : Option (List ListedDir)
  pub listing : Option (List ListedDir)

-- the roots of a rank, and a sample of its heat, each read of the file of this name
abbrev pub IsRootsFile : (List ℕ → FileContent → Type 0) → (List ℕ → DumpValue → Type 0) → Option (List ListedDir)
    → List ℕ → List SubtreeRoot → Type 0
IsRootsFile reads says numbers name named =
    (read : List SubtreeRoot) × IsInFile reads says name (Roots read) × AreNamedRoots numbers read named

abbrev pub IsLoadsFile : (List ℕ → FileContent → Type 0) → (List ℕ → DumpValue → Type 0) → Option (List ListedDir)
    → List ℕ → List FragmentHeat → Type 0
IsLoadsFile reads says numbers name named =
    (read : List FragmentHeat) × IsInFile reads says name (Loads read) × AreNamedLoads numbers read named

-- the first samples of a rank, in their order: sample k is the file of number k, from 1 on
pub record AreSamples (reads : List ℕ → FileContent → Type 0) (says : List ℕ → DumpValue → Type 0)
    (numbers : Option (List ListedDir)) (folder : List ℕ) (rank count : ℕ) (samples : List (List FragmentHeat))
    : Type 0 where
  pub size : length samples ≡ count
  pub each : (k : ℕ) → k < count
      → IsLoadsFile reads says numbers (loads_file folder rank (k + 1)) (slice_index_or samples k [])

-- the dumps of a rank are those of its own files: one list of roots, and this many samples
pub record IsRankDump (reads : List ℕ → FileContent → Type 0) (says : List ℕ → DumpValue → Type 0)
    (numbers : Option (List ListedDir)) (folder : List ℕ) (count : ℕ) (dump : RankDump) : Type 0 where
  pub roots : IsRootsFile reads says numbers (subtrees_file folder dump.rank) dump.roots
  pub samples : AreSamples reads says numbers folder dump.rank count dump.samples

-- the first ranks of a set, in rising order
abbrev pub ranks_below : ℕ → ℕ → List ℕ
ranks_below ranks n = filter (has_rank ranks) (range_with_len 0 n)

-- the rank of a number, if the set has it
abbrev pub ranks_if : ℕ → ℕ → List ℕ
ranks_if ranks n = if has_rank ranks n then n ∷ [] else []

-- there are the dumps of each of these ranks, once and in rising order, and of no other
pub record AreRankDumps (reads : List ℕ → FileContent → Type 0) (says : List ℕ → DumpValue → Type 0)
    (numbers : Option (List ListedDir)) (folder : List ℕ) (count : ℕ) (ranks : List ℕ) (dumps : List RankDump)
    : Type 0 where
  pub these : map (λ (d : RankDump). d.rank) dumps ≡ ranks
  pub each : All (IsRankDump reads says numbers folder count) dumps

-- how many samples each rank gave: as many as rank 0, up to the most that are read
pub record IsSampleCount (reads : List ℕ → FileContent → Type 0) (folder : List ℕ) (count : ℕ) : Type 0 where
  pub some : 0 < count
  pub few : count ≤ SAMPLE_LIMIT
  pub last : (count ≡ SAMPLE_LIMIT) ⊎ reads (loads_file folder 0 (count + 1)) Missing

-- the dumps of the ranks are those of the files of a folder
pub record AreRanksOf (reads : List ℕ → FileContent → Type 0) (says : List ℕ → DumpValue → Type 0) (folder : List ℕ)
    (dumps : Dumps) : Type 0 where
  pub cluster : IsInFile reads says (file_in folder (codes "fs.json")) (Ranks dumps.cluster)
  pub count : IsSampleCount reads folder dumps.count
  pub numbers : IsInFileIfAny reads AreInodes (file_in folder (codes "inodes")) dumps.numbers
  pub ranks : AreRankDumps reads says dumps.numbers folder dumps.count (ranks_below dumps.cluster.ranks RANK_LIMIT)
      dumps.ranks

-- and so is the listing, where there is one
pub record AreDumpsOf (reads : List ℕ → FileContent → Type 0) (says : List ℕ → DumpValue → Type 0) (folder : List ℕ)
    (dumps : Dumps) : Type 0 where
  pub ranks : AreRanksOf reads says folder dumps
  pub listing : IsInFileIfAny reads AreValuesListed (file_in folder (codes "dirs")) dumps.listing

-- the heat that ranks have seen in all, and what they say of roots
abbrev pub rank_seen : RankDump → List PathHeat
rank_seen dump = flat_map (seen_in dump.rank) dump.samples

abbrev pub rank_facts : RankDump → List Fact
rank_facts dump = roots_in dump.rank dump.roots

abbrev pub all_seen : List RankDump → List PathHeat
all_seen ranks = flat_map rank_seen ranks

abbrev pub root_facts : List RankDump → List Fact
root_facts ranks = flat_map rank_facts ranks

-- what was listed, if it was
abbrev pub listed_facts : Option (List ListedDir) → List Fact
listed_facts None = []
listed_facts (Some listing) = values_in listing

-- all that the dumps say of directories, but for heat: first the ranks, then the mount
abbrev pub all_facts : Dumps → List Fact
all_facts dumps = root_facts dumps.ranks ++ listed_facts dumps.numbers ++ listed_facts dumps.listing

-- what the bytes of a dump say
abbrev pub IsReadAs : List ℕ → DumpValue → Type 0
IsReadAs bytes (Ranks cluster) = (found : MapData) × (said_map bytes ≡ Some found) × IsClusterOf found cluster
IsReadAs bytes (Roots roots) = said_roots bytes ≡ Some (map root_data roots)
IsReadAs bytes (Loads loads) = said_loads bytes ≡ Some (map fragment_data loads)

-- why they are refused: there is no memory, or they say no such thing, or the ranks of a map can't be planned for
abbrev pub IsNoDump : DumpKind → List ℕ → DumpError → Type 0
IsNoDump OfRanks bytes error =
    error ≢ Memory → (found : MapData) → said_map bytes ≡ Some found → IsBadMap found error
IsNoDump OfRoots bytes error = error ≢ Memory → said_roots bytes ≡ None
IsNoDump OfLoads bytes error = error ≢ Memory → said_loads bytes ≡ None
