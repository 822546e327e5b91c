-- What a rank's dump of subtrees says of their roots.
use Rattle.std.specs.Prelude.{◌||◌, Bool, List, ℕ, ℤ, pos, negsuc, false, Option, Some, None, codes}
use Rattle.std.specs.Prelude.{option_and_then, option_map, string_bytes, if◌then◌else◌}
use Rattle.std.specs.List.{list_all}
use Rattle.json.specs.Find.{as_bool, as_str, is_null}
use Rattle.json.specs.Json.{Json}
use Rattle.ceph_dumps.specs.DumpText.{said_in}
use Rattle.ceph_dumps.specs.Members.{list_of, optional, required, text_in, truth_in}
use Rattle.ceph_dumps.specs.Numbers.{whole_in}
use Rattle.ceph_dumps.specs.Paths.{is_clean_path}
use Rattle.ceph_dumps.specs.Reading.{if_any}
use Rattle.ceph_dumps.specs.WideBytes.{narrow_behind}
use Rattle.ceph_dumps.specs.declared.subtrees.SubtreeRoot.{SubtreeRoot}

-- what is said of a root
pub record RootData : Type 0 where
  pub path : List ℕ
  pub is_here : Bool
  pub authority : ℤ
  pub fragment : Option (List ℕ)
  pub pin : Option ℤ
  pub is_spread : Bool

abbrev pub root_data : SubtreeRoot → RootData
root_data root = record {
  path = root.path.items;
  is_here = root.is_here;
  authority = root.authority;
  fragment = option_map string_bytes root.fragment;
  pin = root.pin;
  is_spread = root.is_spread;
}

-- a string, and a truth value, in a member that need not be there
abbrev pub optional_text : List ℕ → Json → Option (Option (List ℕ))
optional_text name value = option_and_then (if_any as_str) (optional name value)

abbrev pub false_if_none : Option Json → Option Bool
false_if_none None = Some false
false_if_none (Some value) = as_bool value

abbrev pub optional_truth : List ℕ → Json → Option Bool
optional_truth name value = option_and_then false_if_none (optional name value)

-- the export pin: a number below 0, and null, is none
abbrev pub pin_from : ℤ → Option ℤ
pin_from (pos rank) = Some (pos rank)
pin_from (negsuc below) = None

abbrev pub pin_of : Option Json → Option (Option ℤ)
pin_of None = Some None
pin_of (Some value) = if is_null value then Some None else option_map pin_from (whole_in value)

abbrev pub pin_in : Json → Option (Option ℤ)
pin_in value = option_and_then pin_of (optional (codes "export_pin") value)

-- whether Ceph itself spreads what is below over the ranks: a policy of one of two kinds
abbrev pub is_spread_in : Json → Option Bool
is_spread_in value =
    option_and_then
    (λ distributed. option_map (λ random. distributed || random) (optional_truth (codes "random_ephemeral_pin") value))
    (optional_truth (codes "distributed_ephemeral_pin") value)

-- path and fragment of the directory
abbrev pub dir_in : Json → Option (List ℕ × Option (List ℕ))
dir_in value =
    option_and_then (λ dir. option_and_then (λ path. option_map (λ fragment. (path, fragment))
    (optional_text (codes "dirfrag") dir)) (text_in (codes "path") dir)) (required (codes "dir") value)

-- the rank that has authority
abbrev pub authority_in : Json → Option ℤ
authority_in value = option_and_then whole_in (required (codes "auth_first") value)

abbrev pub root_in : Json → Option RootData
root_in value =
    option_and_then (λ is_here. option_and_then (λ authority. option_and_then (λ dir. option_and_then (λ pin.
    option_map (λ is_spread. record {
      path = narrow_behind None dir.0;
      is_here = is_here;
      authority = authority;
      fragment = dir.1;
      pin = pin;
      is_spread = is_spread;
    }) (is_spread_in value)) (pin_in value)) (dir_in value)) (authority_in value)) (truth_in (codes "is_auth") value)

-- each path names a directory in one way only
abbrev pub if_clean : List RootData → Option (List RootData)
if_clean roots = if list_all (λ root. is_clean_path root.path) roots then Some roots else None

-- what the bytes of a dump say
abbrev pub said_roots : List ℕ → Option (List RootData)
said_roots bytes = option_and_then if_clean (said_in (list_of root_in) bytes)
