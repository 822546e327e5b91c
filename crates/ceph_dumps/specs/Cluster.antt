-- What the dump of a file system's map says of its ranks.
use Rattle.std.specs.Prelude.{◌≡◌, ◌↔◌, ◌<◌, ◌≤◌, true, List, [], ◌∷◌, ℕ, ℤ, Option, Some, None}
use Rattle.std.specs.Prelude.{codes, length, option_and_then, option_map, slice_index, string_bytes, if◌then◌else◌}
use Rattle.std.specs.Str.{bytes_eq}
use Rattle.json.specs.Find.{as_object, as_str, is_null}
use Rattle.json.specs.Json.{Json, Members, member, no_members}
use Rattle.mds_types.specs.RankSet.{has_rank}
use Rattle.mds_types.specs.declared.limits.TheConstants.{RANK_LIMIT}
use Rattle.ceph_dumps.specs.DumpText.{said_in}
use Rattle.ceph_dumps.specs.Members.{list_of, optional, required, text_in}
use Rattle.ceph_dumps.specs.Numbers.{unsigned_from, unsigned_in, whole_in}
use Rattle.ceph_dumps.specs.declared.cluster.FileSystemRanks.{FileSystemRanks}
use Rattle.ceph_dumps.specs.declared.cluster.MdsMap.{MdsMap}
use Rattle.ceph_dumps.specs.declared.dump_error.DumpError.{DumpError}
use Rattle.ceph_dumps.specs.declared.dump_error.DumpError.TheVariants.{BadRank, NoRank, NoRankZero, TooManyRanks}

-- the number is in the list
pub record IsListed (numbers : List ℕ) (number : ℕ) : Type 0 where
  pub at : ℕ
  pub inside : at < length numbers
  pub there : slice_index numbers at ≡ number

-- what the map says: how many ranks there are to be, which there are, which daemons are active, and the balancer's mask
pub record MapData : Type 0 where
  pub size : ℕ
  pub ranks : List ℕ
  pub active : List ℕ
  pub mask : Option (List ℕ)

abbrev pub map_data : MdsMap → MapData
map_data map = record {
  size = map.size;
  ranks = map.ranks.items;
  active = map.active.items;
  mask = option_map string_bytes map.mask;
}

-- the rank of a daemon in the state `up:active`; one in another state has none
abbrev pub rank_if_active : ℤ → List ℕ → Option ℕ
rank_if_active rank state = if bytes_eq state (codes "up:active") then unsigned_from rank else None

abbrev pub active_rank : Json → Option (Option ℕ)
active_rank daemon =
    option_and_then (λ rank. option_map (rank_if_active rank) (text_in (codes "state") daemon))
    (option_and_then whole_in (required (codes "rank") daemon))

abbrev pub with_rank : Option ℕ → List ℕ → List ℕ
with_rank None ranks = ranks
with_rank (Some rank) ranks = rank ∷ ranks

-- those of the daemons that are the values of an object
abbrev pub active_ranks : Members → Option (List ℕ)
active_ranks no_members = Some []
active_ranks (member name daemon rest) =
    option_and_then (λ rank. option_map (with_rank rank) (active_ranks rest)) (active_rank daemon)

abbrev pub active_in : Json → Option (List ℕ)
active_in map =
    option_and_then (λ daemons. option_and_then active_ranks (as_object daemons)) (required (codes "info") map)

-- the mask, where the release has one: null is none
abbrev pub mask_of : Option Json → Option (Option (List ℕ))
mask_of None = Some None
mask_of (Some value) = if is_null value then Some None else option_map Some (as_str value)

abbrev pub mask_said : Json → Option (Option (List ℕ))
mask_said map = option_and_then mask_of (optional (codes "bal_rank_mask") map)

abbrev pub size_in : Json → Option ℕ
size_in map = option_and_then unsigned_in (required (codes "max_mds") map)

abbrev pub ranks_in : Json → Option (List ℕ)
ranks_in map = option_and_then (list_of unsigned_in) (required (codes "in") map)

abbrev pub map_of : Json → Option MapData
map_of map =
    option_and_then (λ size. option_and_then (λ ranks. option_and_then (λ active. option_map (λ mask. record {
      size = size;
      ranks = ranks;
      active = active;
      mask = mask;
    }) (mask_said map)) (active_in map)) (ranks_in map)) (size_in map)

abbrev pub named_map : Json → Option MapData
named_map value = option_and_then map_of (required (codes "mdsmap") value)

-- what the bytes of a dump say
abbrev pub said_map : List ℕ → Option MapData
said_map bytes = said_in named_map bytes

-- the ranks of the file system of a map: 0 is one of them, and those that are active are among them
pub record IsClusterOf (map : MapData) (cluster : FileSystemRanks) : Type 0 where
  pub size : cluster.size ≡ map.size
  pub few : map.size ≤ RANK_LIMIT
  pub ranks : (rank : ℕ) → (has_rank cluster.ranks rank ≡ true) ↔ IsListed map.ranks rank
  pub zero : has_rank cluster.ranks 0 ≡ true
  pub active : (rank : ℕ) → (has_rank cluster.active rank ≡ true)
      ↔ (IsListed map.ranks rank × IsListed map.active rank)
  pub mask : option_map string_bytes cluster.mask ≡ map.mask

-- why there is no plan for such a map
abbrev pub AreBadRanks : List ℕ → DumpError → Type 0
AreBadRanks ranks NoRank = length ranks ≡ 0
AreBadRanks ranks NoRankZero = IsListed ranks 0 → ⊥
AreBadRanks ranks (BadRank number) = IsListed ranks number × (RANK_LIMIT ≤ number)
AreBadRanks ranks other = ⊥

abbrev pub IsBadMap : MapData → DumpError → Type 0
IsBadMap map TooManyRanks = RANK_LIMIT < map.size
IsBadMap map error = AreBadRanks map.ranks error
