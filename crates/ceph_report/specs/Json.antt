-- The plan as JSON, byte by byte.
use Rattle.std.specs.Prelude.{◌++◌, ℕ, Bool, List, [], codes, length, slice_get, slice_index}
use Rattle.std.specs.Prelude.{Option, Some, None, if◌then◌else◌}
use Rattle.mds_types.specs.Sums.{count_below}
use Rattle.ceph_pins.specs.PinsScript.{inode_of_row, path_at}
use Rattle.ceph_pins.specs.Volumes.{pin_text}
use Rattle.ceph_plan.specs.Changes.{before_pin}
use Rattle.ceph_plan.specs.declared.row.PinChange.{PinChange}
use Rattle.ceph_snapshot.specs.declared.directory.Directory.{Directory}
use Rattle.ceph_snapshot.specs.Holding.{now_at}
use Rattle.ceph_report.specs.Hours.{hours_member}
use Rattle.ceph_report.specs.Left.{left_at}
use Rattle.ceph_report.specs.Spreading.{advice_member}
use Rattle.ceph_report.specs.Text.{comma, field, lines_below, path_value, truth}
use Rattle.ceph_report.specs.Told.{bound_term, hottest_bound, hottest_planned, into_of, is_told}
use Rattle.ceph_report.specs.Told.{now_of, out_of, pinned_of, planned_of, planned_roots_of, roots_of}
use Rattle.ceph_report.specs.declared.facts.BoundTerm.{BoundTerm}
use Rattle.ceph_report.specs.declared.facts.BoundTerm.TheVariants.{Hottest, Mean, Pinned}
use Rattle.ceph_report.specs.declared.facts.Facts.{Facts}
use Rattle.ceph_report.specs.declared.json.ChangeForm.{ChangeForm}
use Rattle.ceph_report.specs.declared.json.ChangeForm.TheVariants.{Back, There}
use Rattle.ceph_report.specs.declared.staying.Stay.{Stay}
use Rattle.ceph_report.specs.declared.staying_text.LeftForm.TheVariants.{Member}

-- whether Ceph's balancer is on, whether there is so little heat that nothing is proposed, and whether the plan keeps
-- within what is asked for
unfoldable pub mode_members : Facts → List ℕ
mode_members facts =
    codes ",\"balancer\":" ++ truth facts.balances ++ codes ",\"idle\":" ++ truth facts.is_idle
    ++ codes ",\"within\":" ++ truth facts.is_within

unfoldable pub plan_head : Facts → Bool → List ℕ
plan_head facts is_proposed =
    codes "{\"format\":2,\"proposed\":" ++ truth is_proposed
    ++ field (codes ",\n\"directories\":") (length facts.directories.now) ++ field (codes ",\"folded\":") facts.folded
    ++ field (codes ",\"samples\":") facts.samples ++ mode_members facts

-- the term that makes the bound, and the hottest directory
abbrev pub term_name : BoundTerm → List ℕ
term_name Mean = codes "mean"
term_name Hottest = codes "directory"
term_name Pinned = codes "pinned"

-- the inodes that move, those of them in directories without heat, and the heat that moves
unfoldable pub move_members : Facts → List ℕ
move_members facts =
    field (codes ",\"inodes_moved\":") facts.plan.now.moved
    ++ field (codes ",\"inodes_without_heat\":") facts.sums.now.cold
    ++ field (codes ",\"heat_moved\":") facts.sums.now.heat

unfoldable pub plan_totals : Facts → List ℕ
plan_totals facts =
    field (codes ",\n\"greatest\":") (hottest_planned facts) ++ field (codes ",\"bound\":") (hottest_bound facts)
    ++ move_members facts ++ field (codes ",\"pins_standing\":") facts.standing

unfoldable pub bound_members : Facts → List ℕ
bound_members facts =
    codes ",\n\"bound_by\":\"" ++ term_name (bound_term facts) ++ codes "\",\"hottest_directory"
    ++ path_value facts.hottest.now.path.items

unfoldable pub plan_numbers : Facts → List ℕ
plan_numbers facts =
    plan_totals facts ++ bound_members facts ++ advice_member facts.size facts.advice ++ hours_member facts

unfoldable pub rank_numbers : Facts → ℕ → List ℕ
rank_numbers facts r =
    field (codes "\n  {\"rank\":") r ++ field (codes ",\"now\":") (now_of facts r)
    ++ field (codes ",\"planned\":") (planned_of facts r) ++ field (codes ",\"pinned\":") (pinned_of facts r)

unfoldable pub inode_numbers : Facts → ℕ → List ℕ
inode_numbers facts r =
    field (codes ",\"inodes_in\":") (into_of facts r) ++ field (codes ",\"inodes_out\":") (out_of facts r)

unfoldable pub root_numbers : Facts → ℕ → List ℕ
root_numbers facts r =
    field (codes ",\"roots\":") (roots_of facts r) ++ field (codes ",\"roots_planned\":") (planned_roots_of facts r)
    ++ codes "}"

unfoldable pub rank_object : Facts → ℕ → List ℕ
rank_object facts r = rank_numbers facts r ++ inode_numbers facts r ++ root_numbers facts r

-- a rank that is reported, after `before` others
unfoldable pub rank_entry : Facts → ℕ → ℕ → List ℕ
rank_entry facts r before = if is_told facts r then comma before ++ rank_object facts r else []

abbrev pub rank_member : Facts → ℕ → List ℕ
rank_member facts r = rank_entry facts r (count_below r (is_told facts))

unfoldable pub rank_list : Facts → List ℕ
rank_list facts = codes ",\n\"ranks\":[" ++ lines_below (rank_member facts) 64

-- the rank of a part
unfoldable pub part_member : List ℕ → ℕ → List ℕ
part_member ranks p = field (comma p) (slice_index ranks p)

unfoldable pub part_list : List ℕ → List ℕ
part_list ranks = codes "],\n\"rank_of_part\":[" ++ lines_below (part_member ranks) (length ranks)

-- the directories that are left where they are
unfoldable pub stay_list : List Directory → List (Option Stay) → List ℕ
stay_list directories stays =
    codes "],\n\"left\":[" ++ lines_below (left_at Member directories stays) (length stays)

-- the inode number of a directory, null where it is not known
unfoldable pub inode_text : Option ℕ → List ℕ
inode_text None = codes ",\"inode\":null"
inode_text (Some inode) = field (codes ",\"inode\":") inode

-- the directory of a row: its path and its inode number
unfoldable pub directory_members : List Directory → ℕ → List ℕ
directory_members directories i =
    codes "\n  {\"path" ++ path_value (path_at directories i) ++ inode_text (inode_of_row directories i)

-- the rank at which it is now, and the one at which it is to be
unfoldable pub rank_members : Facts → ℕ → List ℕ
rank_members facts i =
    field (codes ",\"rank_now\":") (now_at facts.directories.now i)
    ++ field (codes ",\"rank_planned\":") (slice_index facts.goals.now i)

-- its pin before and after a change, -1 where there is none
unfoldable pub pin_members : Facts → PinChange → List ℕ
pin_members facts change =
    codes ",\"pin_before\":" ++ pin_text (before_pin facts.rows.now change.row) ++ codes ",\"pin_after\":"
    ++ pin_text change.pin ++ codes "}"

unfoldable pub change_object : Facts → PinChange → List ℕ
change_object facts change =
    directory_members facts.directories.now change.row ++ rank_members facts change.row ++ pin_members facts change

-- a change that undoes one
unfoldable pub back_object : Facts → PinChange → List ℕ
back_object facts change =
    directory_members facts.directories.now change.row ++ codes ",\"pin\":" ++ pin_text change.pin ++ codes "}"

-- a change of either list, -1 where a pin is taken away
abbrev pub one_object : ChangeForm → Facts → PinChange → List ℕ
one_object There facts change = change_object facts change
one_object Back facts change = back_object facts change

unfoldable pub one_member : ChangeForm → Facts → ℕ → Option PinChange → List ℕ
one_member form facts i None = []
one_member form facts i (Some change) = comma i ++ one_object form facts change

-- the members of these changes, in their order
unfoldable pub change_members : ChangeForm → Facts → List PinChange → List ℕ
change_members form facts changes =
    lines_below (λ i. one_member form facts i (slice_get changes i)) (length changes)

-- the changes, in the order in which they are to be made, and those that undo them, in theirs
unfoldable pub change_lists : Facts → List PinChange → List PinChange → List ℕ
change_lists facts changes back =
    codes "],\n\"changes\":[" ++ change_members There facts changes ++ codes "],\n\"back\":["
    ++ change_members Back facts back ++ codes "]}\n"

unfoldable pub json : Facts → List PinChange → List PinChange → Bool → List ℕ
json facts changes back is_proposed =
    plan_head facts is_proposed ++ plan_numbers facts ++ rank_list facts
    ++ part_list facts.plan.now.packing.rank.items ++ stay_list facts.directories.now facts.stays.now
    ++ change_lists facts changes back
