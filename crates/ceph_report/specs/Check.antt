-- Whether the pins of this program are set in a live cluster, and hold.
use Rattle.std.specs.Prelude.{◌==◌, ◌&&◌, ◌||◌, ◌-◌, ◌++◌, ℕ, Bool, List, [], Option, Some, None, codes, is_some}
use Rattle.std.specs.Prelude.{false, true, length, nat_lt, not, slice_get, if◌then◌else◌}
use Rattle.std.specs.List.{flat_map}
use Rattle.std.specs.Option.{option_map_or}
use Rattle.mds_types.specs.Sums.{count_below}
use Rattle.ceph_snapshot.specs.declared.directory.Directory.{Directory}
use Rattle.ceph_snapshot.specs.Holding.{earlier_at}
use Rattle.ceph_snapshot.specs.Shown.{shown_path}
use Rattle.ceph_report.specs.Text.{field}

-- the rank that a pin names, if the directory lies at another one or at several
abbrev pub astray_of : Option ℕ → Directory → Option ℕ
astray_of None one = None
astray_of (Some rank) one = if one.is_spread || not (one.now == rank) then Some rank else None

-- the same of the pin that this program set
abbrev pub astray : Directory → Option ℕ
astray one = astray_of one.earlier one

abbrev pub astray_at : List Directory → ℕ → Bool
astray_at directories i = option_map_or (λ (one : Directory). is_some (astray one)) (slice_get directories i) false

abbrev pub at_rank_text : Bool → ℕ → List ℕ
at_rank_text true now = codes "is at several ranks\n"
at_rank_text false now = field (codes "is at rank ") now ++ codes "\n"

unfoldable pub astray_text : Directory → ℕ → List ℕ
astray_text one rank = shown_path one.path.items ++ field (codes ": pinned to rank ") rank ++ codes ", "
    ++ at_rank_text one.is_spread one.now

-- the line of a directory that its pin doesn't hold
abbrev pub astray_line_of : Directory → Option ℕ → List ℕ
astray_line_of one None = []
astray_line_of one (Some rank) = astray_text one rank

abbrev pub astray_line : Directory → List ℕ
astray_line one = astray_line_of one (astray one)

-- how many directories have a pin that this program set, and how many of them it doesn't hold
unfoldable pub set_count : List Directory → ℕ
set_count directories = count_below (length directories) (λ i. is_some (earlier_at directories i))

unfoldable pub astray_count : List Directory → ℕ
astray_count directories = count_below (length directories) (astray_at directories)

unfoldable pub unset_line : ℕ → List ℕ
unset_line unset = if nat_lt 0 unset then field [] unset ++ codes " pins of the list are not set\n" else []

unfoldable pub hold_line : ℕ → ℕ → List ℕ
hold_line holding listed = field [] holding ++ field (codes " of ") listed ++ codes " pins hold\n"

-- the text for a list of `listed` pins
unfoldable pub check_text : List Directory → ℕ → List ℕ
check_text directories listed =
    flat_map astray_line directories ++ unset_line (listed - set_count directories)
    ++ hold_line (set_count directories - astray_count directories) listed

-- each pin of the list is set, and holds
abbrev pub all_hold : List Directory → ℕ → Bool
all_hold directories listed = not (nat_lt (set_count directories) listed) && (astray_count directories == 0)

-- the status of the program
abbrev pub check_status : Bool → ℕ
check_status holds = if holds then 0 else 4
