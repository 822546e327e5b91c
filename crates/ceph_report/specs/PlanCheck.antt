-- Whether the pins of a plan are set in a live cluster, and hold.
use Rattle.std.specs.Prelude.{◌==◌, ◌++◌, ℕ, Bool, List, [], Option, Some, None, codes, false, true, length, not}
use Rattle.std.specs.Prelude.{if◌then◌else◌}
use Rattle.std.specs.List.{find, flat_map, list_any}
use Rattle.std.specs.Option.{option_or}
use Rattle.std.specs.Str.{bytes_eq}
use Rattle.mds_types.specs.RankSet.{has_rank}
use Rattle.ceph_snapshot.specs.declared.directory.Directory.{Directory}
use Rattle.ceph_snapshot.specs.Shown.{shown_path}
use Rattle.pin_driver.specs.PinPlan.{PlanParts}
use Rattle.pin_driver.specs.declared.plan.EarlierPin.{EarlierPin}
use Rattle.pin_driver.specs.declared.plan.PlannedChange.{PlannedChange}
use Rattle.ceph_report.specs.Check.{astray_line_of, astray_of}
use Rattle.ceph_report.specs.Text.{field}

-- the pin that a directory has, whoever set it
abbrev pub pin_there : Directory → Option ℕ
pin_there one = option_or one.pin (option_or one.idle one.earlier)

-- the directory of a path, if it is there
abbrev pub named : List ℕ → List Directory → Option Directory
named path directories = find (λ (one : Directory). bytes_eq one.path.items path) directories

-- both numbers are known, and are two
abbrev pub are_two : Option ℕ → Option ℕ → Bool
are_two (Some a) (Some b) = not (a == b)
are_two _ _ = false

abbrev pub is_other_pin : Option ℕ → Option ℕ → Bool
is_other_pin None None = false
is_other_pin (Some a) (Some b) = not (a == b)
is_other_pin _ _ = true

-- the rank that a pin brings a directory to: none where that rank is not there
abbrev pub goal_of : ℕ → Option ℕ → Option ℕ
goal_of ranks None = None
goal_of ranks (Some rank) = if has_rank ranks rank then Some rank else None

abbrev pub pin_words : Option ℕ → List ℕ
pin_words None = codes "no pin"
pin_words (Some rank) = field (codes "a pin to rank ") rank

-- the end of the line of a directory that has another pin than this one
unfoldable pub two_pins_text : Option ℕ → Option ℕ → List ℕ
two_pins_text there pin =
    codes ": has " ++ pin_words there ++ codes ", planned is " ++ pin_words pin ++ codes "\n"

-- its line
unfoldable pub other_pin_text : Directory → Option ℕ → List ℕ
other_pin_text one pin = shown_path one.path.items ++ two_pins_text (pin_there one) pin

-- the line of a directory that is another one than that of the plan
unfoldable pub other_directory_text : Directory → List ℕ
other_directory_text one = shown_path one.path.items ++ codes ": is another directory than in the plan\n"

-- the line of a directory that is to have this inode number and this pin, where it differs, or is not where its pin
-- brings it
abbrev pub difference : ℕ → Option ℕ → Option ℕ → Directory → List ℕ
difference ranks inode pin one =
    if are_two inode one.inode then other_directory_text one
    else if is_other_pin (pin_there one) pin then other_pin_text one pin
    else astray_line_of one (astray_of (goal_of ranks pin) one)

-- one that is gone does not differ
abbrev pub difference_of : ℕ → Option ℕ → Option ℕ → Option Directory → List ℕ
difference_of ranks inode pin None = []
difference_of ranks inode pin (Some one) = difference ranks inode pin one

-- what a change is to have come to
abbrev pub change_difference : List Directory → ℕ → PlannedChange → List ℕ
change_difference directories ranks change =
    difference_of ranks change.inode change.after (named change.path directories)

abbrev pub is_changed_path : PlanParts → List ℕ → Bool
is_changed_path plan path = list_any (λ (change : PlannedChange). bytes_eq change.path path) plan.changes

-- what an earlier pin is to be still, unless a change is of its directory
abbrev pub earlier_difference : List Directory → ℕ → PlanParts → EarlierPin → List ℕ
earlier_difference directories ranks plan pin =
    if is_changed_path plan pin.path then []
    else difference_of ranks pin.inode (Some pin.rank) (named pin.path directories)

-- how a cluster with these ranks differs from a plan that is carried out: a line for each directory of a change, or
-- with an earlier pin that no change takes, that is another one, has another pin, or is not at the rank of its pin
unfoldable pub plan_differences : List Directory → ℕ → PlanParts → List ℕ
plan_differences directories ranks plan =
    flat_map (change_difference directories ranks) plan.changes
    ++ flat_map (earlier_difference directories ranks plan) plan.earlier

abbrev pub does_plan_hold : List Directory → ℕ → PlanParts → Bool
does_plan_hold directories ranks plan = length (plan_differences directories ranks plan) == 0

abbrev pub plan_check_text : List Directory → ℕ → PlanParts → List ℕ
plan_check_text directories ranks plan =
    if does_plan_hold directories ranks plan then codes "the plan holds\n" else plan_differences directories ranks plan
