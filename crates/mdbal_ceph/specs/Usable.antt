-- Which ranks may have a part.
use Rattle.std.specs.Prelude.{◌≡◌, ◌&&◌, ◌||◌, ◌-◌, ◌^◌, ℕ, Bool, drop, take}
use Rattle.std.specs.Prelude.{List, Option, Some, None, codes, nat_lt, if◌then◌else◌}
use Rattle.std.specs.Str.{bytes_eq}
use Rattle.std.specs.Str.Parse.{digits_value}
use Rattle.mds_types.specs.Mask.{is_hex}
use Rattle.mds_types.specs.RankSet.{has_rank}
use Rattle.ceph_dumps.specs.declared.cluster.FileSystemRanks.{FileSystemRanks}

abbrev pub all_ranks : ℕ
all_ranks = 2 ^ 64 - 1

-- a mask as Ceph spells it: all, -1, or 1 to 16 hexadecimal digits, which may follow 0x
abbrev pub mask_digits : List ℕ → List ℕ
mask_digits text =
    if bytes_eq (take 2 text) (codes "0x") || bytes_eq (take 2 text) (codes "0X") then drop 2 text else text

abbrev pub hex_mask : List ℕ → Option ℕ
hex_mask digits = if is_hex digits then Some (digits_value 16 digits) else None

abbrev pub asked_mask : List ℕ → Option ℕ
asked_mask text =
    if bytes_eq text (codes "all") || bytes_eq text (codes "-1") then Some all_ranks else hex_mask (mask_digits text)

-- the mask of a cluster: an empty one is all ranks
abbrev pub cluster_mask : List ℕ → Option ℕ
cluster_mask text = if bytes_eq text (codes "") then Some all_ranks else asked_mask text

-- a rank may have a part that the mask has, that is below max_mds, that is in the file system, and whose daemon is
-- active
abbrev pub may_have_part : ℕ → FileSystemRanks → ℕ → Bool
may_have_part mask cluster rank =
    (nat_lt rank cluster.size && has_rank mask rank) && (has_rank cluster.ranks rank && has_rank cluster.active rank)

-- the mask that was asked for, or else the cluster's own
abbrev pub IsMask : Option ℕ → Option (List ℕ) → ℕ → Type 0
IsMask (Some asked) own mask = mask ≡ asked
IsMask None None mask = mask ≡ all_ranks
IsMask None (Some text) mask = cluster_mask text ≡ Some mask

-- the ranks that may have a part
pub record AreUsable (asked : Option ℕ) (own : Option (List ℕ)) (cluster : FileSystemRanks) (ranks : ℕ) : Type 0 where
  pub mask : ℕ
  pub wanted : IsMask asked own mask
  pub usable : (rank : ℕ) → has_rank ranks rank ≡ may_have_part mask cluster rank
