-- What the dump of a rank's loads says of directory fragments.
use Rattle.std.specs.Prelude.{◌/◌, ◌||◌, Bool, List, [], ◌∷◌, ℕ, pos, Option, Some, None, codes, map, min}
use Rattle.std.specs.Prelude.{option_and_then, option_map, if◌then◌else◌}
use lib.Ieee as Ieee
use Rattle.std.specs.Float.{Float, binary64, float_to_unsigned, float_zero}
use Rattle.std.specs.Int.{w64}
use Rattle.std.specs.List.{list_all}
use Rattle.std.specs.Str.{bytes_eq}
use Rattle.json.specs.Find.{as_array, as_str}
use Rattle.json.specs.Json.{Items, Json}
use Rattle.mds_types.specs.declared.limits.TheConstants.{HEAT_LIMIT}
use Rattle.ceph_dumps.specs.DumpText.{said_in}
use Rattle.ceph_dumps.specs.Inode.{inode_of}
use Rattle.ceph_dumps.specs.Members.{each, list_in, optional, required, text_in}
use Rattle.ceph_dumps.specs.Numbers.{double_in}
use Rattle.ceph_dumps.specs.Paths.{is_clean_path}
use Rattle.ceph_dumps.specs.WideBytes.{narrow_behind}
use Rattle.ceph_dumps.specs.declared.loads.FragmentHeat.{FragmentHeat}
use Rattle.ceph_dumps.specs.declared.loads.TheConstants.{WEIGHTS, WRITES}

-- the counters of a fragment: reads, writes, readdirs, fetches and stores
abbrev pub counter_in : Json → Option Float
counter_in value = option_and_then double_in (required (codes "value") value)

abbrev pub counter_list : Json → Option Items
counter_list value =
    option_and_then (λ popularity. option_and_then as_array (required (codes "Decay Counters") popularity))
    (required (codes "pop_me") value)

abbrev pub counters_in : Json → Option (List Float)
counters_in value = option_and_then (each counter_in) (counter_list value)

-- the sum of counters times their weights, in doubles and from the first on, as Ceph's balancer adds them
abbrev pub weighed_sum : Float → List Float → List ℕ → Float
weighed_sum sum [] weights = sum
weighed_sum sum (counter ∷ counters) [] = sum
weighed_sum sum (counter ∷ counters) (weight ∷ weights) =
    weighed_sum (Ieee.add binary64 sum (Ieee.mul binary64 counter (Ieee.of_int binary64 (pos weight)))) counters weights

-- 1000 and a half, by their bits
abbrev pub thousand : Float
thousand = Ieee.of_bits binary64 0x408f400000000000

abbrev pub half : Float
half = Ieee.of_bits binary64 0x3fe0000000000000

-- to the nearest thousandth
abbrev pub thousandths : Float → ℕ
thousandths sum =
    float_to_unsigned w64
    (Ieee.add binary64 (Ieee.mul binary64 sum thousand) half)

abbrev pub heat_of : List Float → List ℕ → ℕ
heat_of counters weights = thousandths (weighed_sum float_zero counters weights)

-- the inode number of the directory, where the name of the fragment has it
abbrev pub named_inode : Option Json → Option ℕ
named_inode None = None
named_inode (Some name) = option_and_then inode_of (as_str name)

-- what is said of a fragment, where Ceph prints each byte of a path from 0x80 as a character
pub record FragmentData : Type 0 where
  pub path : List ℕ
  pub inode : Option ℕ
  pub heat : ℕ
  pub writes : ℕ

abbrev pub fragment_data : FragmentHeat → FragmentData
fragment_data fragment = record {
  path = fragment.path.items;
  inode = fragment.inode;
  heat = fragment.heat;
  writes = fragment.writes;
}

abbrev pub fragment_from : List ℕ → Option Json → List Float → FragmentData
fragment_from path name counters = record {
  path = narrow_behind None path;
  inode = named_inode name;
  heat = heat_of counters WEIGHTS.now;
  writes = heat_of counters WRITES.now;
}

-- the members of a fragment that are read
abbrev pub is_read : List ℕ → Bool
is_read name = bytes_eq name (codes "path") || (bytes_eq name (codes "dirfrag") || bytes_eq name (codes "pop_me"))

abbrev pub fragment_in : Json → Option FragmentData
fragment_in value =
    option_and_then (λ path. option_and_then (λ name. option_map (fragment_from path name) (counters_in value))
    (optional (codes "dirfrag") value)) (text_in (codes "path") value)

-- heat that is past the limit is at the limit, and no more of it comes from writes than there is
abbrev pub limited : FragmentData → FragmentData
limited fragment = record fragment {
  heat = min HEAT_LIMIT fragment.heat;
  writes = min (min HEAT_LIMIT fragment.heat / 2) fragment.writes;
}

-- each path names a directory in one way only
abbrev pub if_clean : List FragmentData → Option (List FragmentData)
if_clean fragments = if list_all (λ fragment. is_clean_path fragment.path) fragments then Some fragments else None

-- what the bytes of a dump say
abbrev pub said_loads : List ℕ → Option (List FragmentData)
said_loads bytes =
    option_and_then (λ fragments. if_clean (map limited fragments))
    (said_in (list_in fragment_in (codes "dirfrags")) bytes)
