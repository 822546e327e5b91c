-- The hours that a plan is for, as the report and the JSON tell of them.
use Rattle.std.specs.Prelude.{◌+◌, ◌-◌, ◌*◌, ◌/◌, ◌%◌, ◌==◌, ◌++◌, ℕ, Bool, List, [], Vec, codes, length, min, nat_lt}
use Rattle.std.specs.Prelude.{slice_get, slice_index, Option, Some, None, if◌then◌else◌}
use Rattle.std.specs.Global.{Global}
use Rattle.mds_types.specs.RankSet.{rank_count}
use Rattle.mds_types.specs.Sums.{max_below, sum_below}
use Rattle.ceph_snapshot.specs.Holding.{most_heat}
use Rattle.ceph_snapshot.specs.Shown.{shown_path}
use Rattle.ceph_report.specs.Text.{columns, comma, field, lines_below, path_value, truth}
use Rattle.ceph_report.specs.Told.{hottest}
use Rattle.ceph_report.specs.declared.hours.HourColumn.{HourColumn}
use Rattle.ceph_report.specs.declared.hours.HourColumn.TheVariants.{Now, Planned, Bound}
use Rattle.ceph_report.specs.declared.hours.TheConstants.{NOT_PLANNED}
use Rattle.ceph_report.specs.declared.hours.PlannedHour.{PlannedHour}
use Rattle.ceph_report.specs.declared.facts.Facts.{Facts}

-- how often a whole goes into a part, in hundredths, rounded up, as far as 64 bits count
unfoldable pub hundredths_above : ℕ → ℕ → ℕ
hundredths_above part whole = if whole == 0 then 0 else min most_heat ((part * 100 + (whole - 1)) / whole)

-- the heat at the ranks
abbrev pub heat_at_ranks : List ℕ → ℕ
heat_at_ranks heats = sum_below 64 (slice_index heats)

-- the hottest rank to the mean of the ranks that may have a part
abbrev pub to_mean : ℕ → List ℕ → ℕ
to_mean ranks heats = hundredths_above (hottest heats * rank_count ranks) (heat_at_ranks heats)

-- of an hour: the hottest rank to the mean, where each directory is now and as planned; and as planned to the bound
abbrev pub hour_ratio : HourColumn → ℕ → PlannedHour → ℕ
hour_ratio Now ranks hour = to_mean ranks hour.now.items
hour_ratio Planned ranks hour = to_mean ranks hour.planned.items
hour_ratio Bound ranks hour = hundredths_above (hottest hour.planned.items) hour.bound

-- that of the hour at a place
abbrev pub ratio_of : HourColumn → ℕ → Option PlannedHour → ℕ
ratio_of column ranks None = 0
ratio_of column ranks (Some hour) = hour_ratio column ranks hour

-- and the greatest of these hours
abbrev pub worst_ratio : HourColumn → ℕ → List PlannedHour → ℕ
worst_ratio column ranks hours = max_below (length hours) (λ h. ratio_of column ranks (slice_get hours h))

-- a ratio with two digits behind the point
unfoldable pub ratio_columns : ℕ → List ℕ
ratio_columns ratio =
    columns 9 (ratio / 100) ++ field (codes ".") (ratio / 10 % 10) ++ field [] (ratio % 10)

unfoldable pub hour_ratios : ℕ → ℕ → ℕ → List ℕ
hour_ratios now planned bound = ratio_columns now ++ ratio_columns planned ++ ratio_columns bound ++ codes "  "

-- what an hour is called: by the words of the command line where it was seen, and by the directory below which half of
-- its load lies where it was made
unfoldable pub hour_name : PlannedHour → List ℕ
hour_name hour =
    (if hour.is_seen then [] else codes "made: half of the load below ") ++ shown_path hour.name.items ++ codes "\n"

unfoldable pub hour_line : ℕ → PlannedHour → List ℕ
hour_line ranks hour =
    hour_ratios (hour_ratio Now ranks hour) (hour_ratio Planned ranks hour) (hour_ratio Bound ranks hour)
    ++ hour_name hour

unfoldable pub hour_line_at : ℕ → Option PlannedHour → List ℕ
hour_line_at ranks None = []
hour_line_at ranks (Some hour) = hour_line ranks hour

-- the worst of each column
unfoldable pub worst_line : ℕ → List PlannedHour → List ℕ
worst_line ranks hours =
    hour_ratios (worst_ratio Now ranks hours) (worst_ratio Planned ranks hours) (worst_ratio Bound ranks hours)
    ++ codes "the worst of these\n"

unfoldable pub hour_lines : ℕ → List PlannedHour → List ℕ
hour_lines ranks hours = lines_below (λ h. hour_line_at ranks (slice_get hours h)) (length hours)

-- an hour of this name that was given and is not planned for
unfoldable pub left_hour_line : List ℕ → List ℕ
left_hour_line name = NOT_PLANNED.now ++ shown_path name ++ codes "\n"

unfoldable pub left_hour_at : Option (Vec ℕ Global) → List ℕ
left_hour_at None = []
left_hour_at (Some name) = left_hour_line name.items

unfoldable pub left_hour_lines : List (Vec ℕ Global) → List ℕ
left_hour_lines names = lines_below (λ h. left_hour_at (slice_get names h)) (length names)

-- there are other hours than that of now
abbrev pub has_more_hours : Facts → Bool
has_more_hours facts = nat_lt 1 (length facts.hours.now + length facts.left_hours.now)

unfoldable pub hours_table : Facts → List ℕ
hours_table facts =
    codes "\nhottest rank to the mean\n         now     planned    to bound  hour\n"
    ++ hour_lines facts.ranks facts.hours.now ++ worst_line facts.ranks facts.hours.now
    ++ left_hour_lines facts.left_hours.now

-- nothing where there is only one hour
unfoldable pub hours_text : Facts → List ℕ
hours_text facts = if has_more_hours facts then hours_table facts else []

-- in the JSON: the name of an hour, or the path of the directory below which half of the load of a made one lies;
-- whether it was seen; its bound; and its hottest rank where each directory is now, and as planned
unfoldable pub hour_head : PlannedHour → List ℕ
hour_head hour =
    codes "\n  {\"name" ++ path_value hour.name.items ++ codes ",\"seen\":" ++ truth hour.is_seen

unfoldable pub hour_object : PlannedHour → List ℕ
hour_object hour =
    hour_head hour ++ field (codes ",\"bound\":") hour.bound
    ++ field (codes ",\"now\":") (hottest hour.now.items) ++ field (codes ",\"planned\":") (hottest hour.planned.items)
    ++ codes "}"

unfoldable pub hour_member : ℕ → Option PlannedHour → List ℕ
hour_member h None = []
hour_member h (Some hour) = comma h ++ hour_object hour

unfoldable pub hour_list : List PlannedHour → List ℕ
hour_list hours =
    codes ",\n\"hours\":[" ++ lines_below (λ h. hour_member h (slice_get hours h)) (length hours) ++ codes "]"

unfoldable pub hours_member : Facts → List ℕ
hours_member facts = if has_more_hours facts then hour_list facts.hours.now else []
