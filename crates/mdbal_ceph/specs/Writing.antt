-- What is written of a plan.
use Rattle.std.specs.Prelude.{◌≡◌, ◌↔◌, ◌==◌, ◌&&◌, ◌+◌, ◌-◌, ◌*◌, ◌/◌, ◌++◌, ◌∷◌, ℕ, Bool, List, [], length, max, min}
use Rattle.std.specs.Prelude.{nat_lt, slice_get, string_bytes}
use Rattle.std.specs.Prelude.{IfSome, IsTrue, is_some, option_copied, if◌then◌else◌}
use Rattle.std.specs.Option.{option_map_or, unwrap_or}
use Rattle.mds_types.specs.RankSet.{rank_count}
use Rattle.mds_types.specs.Sums.{count_below, max_below}
use Rattle.ceph_plan.specs.declared.row.PinChange.{PinChange}
use Rattle.ceph_plan.specs.Worth.{IsWorthMoving}
use Rattle.ceph_plan.specs.declared.worth.Gain.{Gain}
use Rattle.ceph_plan.specs.declared.worth.LeastGain.{LeastGain}
use Rattle.ceph_dumps.specs.declared.file_system.FileSystem.{FileSystem}
use Rattle.ceph_pins.specs.Back.{inverted}
use Rattle.ceph_pins.specs.OwnList.{own_list}
use Rattle.ceph_pins.specs.PinsScript.{pins_script}
use Rattle.ceph_pins.specs.Standing.{is_standing}
use Rattle.ceph_report.specs.Json.{json}
use Rattle.ceph_report.specs.Moves.{AreBrought, AreMoves}
use Rattle.ceph_report.specs.Report.{report}
use Rattle.ceph_report.specs.Roots.{AreRoots}
use Rattle.ceph_report.specs.Staying.{AreStays}
use Rattle.ceph_report.specs.Told.{hottest}
use Rattle.ceph_report.specs.declared.facts.Facts.{Facts}
use Rattle.ceph_report.specs.declared.hours.PlannedHour.{PlannedHour}
use Rattle.ceph_snapshot.specs.Holding.{most_heat}
use Rattle.mdbal_ceph.specs.Hours.{load_now}
use Rattle.mdbal_ceph.specs.declared.outcome.Outcome.{Outcome}
use Rattle.mdbal_ceph.specs.declared.settings.Least.{Least}
use Rattle.mdbal_ceph.specs.declared.settings.PlanSettings.{PlanSettings}
use Rattle.mdbal_ceph.specs.declared.writing.TheConstants.{IDLE_HEAT}
use Rattle.pin_driver.specs.StoredText.{stored_text}
use Rattle.pin_driver.specs.Restoring.{no_mark}
use Rattle.mdbal_ceph.specs.DriverPlan.{driver_plan}
use Rattle.mdbal_ceph.specs.declared.writing.PinFiles.{PinFiles}
use Rattle.mdbal_ceph.specs.declared.writing.PlanOutput.{PlanOutput}

-- a heat in an hour with this bound, as it counts beside one of now: as much of the bound of now as it is of its own,
-- rounded up
abbrev pub as_now : ℕ → ℕ → ℕ → ℕ
as_now heat bound now = if bound == 0 then heat else min most_heat ((heat * now + (bound - 1)) / bound)

abbrev pub bound_now : List PlannedHour → ℕ
bound_now hours = option_map_or (λ (hour : PlannedHour). hour.bound) (slice_get hours 0) 0

-- the heat of the hottest rank in an earlier hour that was seen, where each directory is now, and as planned
abbrev pub earlier_heat : (PlannedHour → List ℕ) → ℕ → ℕ → PlannedHour → ℕ
earlier_heat loads now h hour =
    if nat_lt 0 h && hour.is_seen then as_now (hottest (loads hour)) hour.bound now else 0

abbrev pub other_now : List PlannedHour → ℕ → ℕ
other_now hours h =
    option_map_or (earlier_heat (λ (hour : PlannedHour). hour.now.items) (bound_now hours) h) (slice_get hours h) 0

abbrev pub other_planned : List PlannedHour → ℕ → ℕ
other_planned hours h =
    option_map_or (earlier_heat (λ (hour : PlannedHour). hour.planned.items) (bound_now hours) h) (slice_get hours h) 0

-- the worst of them
abbrev pub worst_now : List PlannedHour → ℕ
worst_now hours = max_below (length hours) (other_now hours)

abbrev pub worst_planned : List PlannedHour → ℕ
worst_planned hours = max_below (length hours) (other_planned hours)

-- what the plan comes to in the worst of the hours that were seen: the heat of the hottest rank, now and as planned,
-- and the inodes that move
abbrev pub gain_of : Outcome → Gain
gain_of outcome =
    record {
      heat = hottest outcome.decision.sums.now.items;
      now = max (worst_now outcome.decision.hours.items) (hottest outcome.decision.sums.now.items);
      planned = max (worst_planned outcome.decision.hours.items) (hottest (load_now outcome.decision.hours.items));
      moved = outcome.decision.proposal.plan.moved;
    }

-- what a plan for these ranks has to come to. Where no heat is asked for, it is that of an idle rank for each of them
abbrev pub least_for : Least → ℕ → LeastGain
least_for least ranks =
    record {
      heat = unwrap_or least.heat (IDLE_HEAT * rank_count ranks);
      percent = least.percent;
      each_thousand = least.each_thousand;
    }

-- there is less heat than that
abbrev pub is_idle : Least → Outcome → Bool
is_idle least outcome = nat_lt (gain_of outcome).heat (least_for least outcome.ranks).heat

-- the status of the program
abbrev pub plan_status : Bool → ℕ
plan_status is_proposed = if is_proposed then 0 else 3

-- the changes that are proposed: none where the plan isn't worth a proposal
abbrev pub proposed_changes : Outcome → Bool → List PinChange
proposed_changes outcome is_proposed = if is_proposed then outcome.decision.proposal.changes.items else []

-- the script of these changes of the directories of a plan
abbrev pub script_of : PlanSettings → Outcome → List PinChange → List ℕ
script_of settings outcome changes =
    pins_script settings.mount.now (string_bytes outcome.file_system.name) (string_bytes outcome.file_system.fsid)
    settings.subvolumes outcome.directories.items changes

-- what names a plan: the name of the file system and the cluster's number
abbrev pub identity_of : FileSystem → List ℕ
identity_of file_system = string_bytes file_system.name ++ 32 ∷ string_bytes file_system.fsid

-- the changes as the driver of pins reads them, each with the inodes that it brings, where nothing is done yet
pub record IsDriverText (outcome : Outcome) (changes : List PinChange) (text : List ℕ) : Type 0 where
  pub inodes : List ℕ
  pub brought : AreBrought outcome.directories.items outcome.decision.holds.items
      outcome.decision.proposal.rows.items changes inodes
  pub is : text
      ≡ stored_text
      (driver_plan (identity_of outcome.file_system) outcome.directories.items outcome.decision.proposal.rows.items
      inodes changes)
      no_mark

-- the script of the changes, the one that undoes them, the pins of this program once the first has run, and the text
-- for the driver of pins
pub record ArePinFiles
    (settings : PlanSettings) (outcome : Outcome) (changes : List PinChange) (files : PinFiles) : Type 0 where
  pub script : files.script.items ≡ script_of settings outcome changes
  pub back : files.back.items ≡ script_of settings outcome (inverted outcome.decision.proposal.rows.items changes)
  pub own : files.own.items ≡ own_list outcome.directories.items outcome.decision.proposal.rows.items changes
  pub plan : IsDriverText outcome changes files.plan.items

-- the facts of the report are those of the outcome
pub record AreFacts (outcome : Outcome) (is_idle : Bool) (count : ℕ) (facts : Facts) : Type 0 where
  pub directories : facts.directories.now ≡ outcome.directories.items
  pub holds : facts.holds.now ≡ outcome.decision.holds.items
  pub folded : facts.folded ≡ outcome.folded
  pub samples : facts.samples ≡ outcome.samples
  pub size : facts.size ≡ outcome.size
  pub there : facts.there ≡ outcome.there
  pub active : facts.active ≡ outcome.active
  pub ranks : facts.ranks ≡ outcome.ranks
  pub balances : facts.balances ≡ outcome.balances
  pub plan : facts.plan.now ≡ outcome.decision.proposal.plan
  pub planned : facts.planned.now ≡ load_now outcome.decision.hours.items
  pub hours : facts.hours.now ≡ outcome.decision.hours.items
  pub left_hours : facts.left_hours.now ≡ outcome.decision.left.items
  pub hottest : facts.hottest.now ≡ outcome.hottest
  pub advice : option_copied facts.advice ≡ outcome.advice
  pub bound : facts.bound ≡ outcome.bound
  pub sums : facts.sums.now ≡ outcome.decision.sums
  pub pinned : facts.pinned.now ≡ outcome.decision.pinned.items
  pub changes : facts.changes ≡ length outcome.decision.proposal.changes.items
  pub rows : facts.rows.now ≡ outcome.decision.proposal.rows.items
  pub goals : facts.goals.now ≡ outcome.decision.goals.items
  pub standing : facts.standing ≡ count
  pub idle : facts.is_idle ≡ is_idle
  pub within : facts.is_within ≡ outcome.decision.proposal.is_within

-- how many pins of an earlier plan stay as they are
abbrev pub standing_count : Outcome → ℕ
standing_count outcome =
    count_below (length outcome.decision.proposal.rows.items)
    (is_standing outcome.decision.proposal.rows.items outcome.decision.proposal.changes.items)

-- the text is the report of the outcome's facts, or the plan as JSON, with what each pin brings, the roots of subtrees,
-- and what is left where it is
pub record IsTold (outcome : Outcome) (is_json is_proposed is_idle : Bool) (text : List ℕ) : Type 0 where
  pub facts : Facts
  pub of : AreFacts outcome is_idle (standing_count outcome) facts
  pub moves : AreMoves outcome.directories.items outcome.decision.holds.items outcome.decision.proposal.rows.items
      outcome.decision.proposal.changes.items facts.moves.now
  pub roots : AreRoots outcome.directories.items outcome.decision.proposal.rows.items
      outcome.decision.proposal.changes.items outcome.decision.goals.items facts.roots.now
  pub stays : AreStays outcome.directories.items facts.stays.now
  pub told : text
      ≡ (if is_json then json facts (proposed_changes outcome is_proposed)
      (inverted outcome.decision.proposal.rows.items (proposed_changes outcome is_proposed)) is_proposed
      else report facts is_proposed)

-- the plan is proposed exactly where it comes to what is asked for, and keeps within what is wanted; the report, or
-- JSON, is that of the outcome; and the files of the pins are there where they are asked for, with the changes that are
-- proposed
pub record IsWritten (settings : PlanSettings) (outcome : Outcome) (output : PlanOutput) : Type 0 where
  pub proposed : IsTrue output.is_proposed
      ↔ (IsWorthMoving (gain_of outcome) (least_for settings.least outcome.ranks)
      × IsTrue outcome.decision.proposal.is_within)
  pub text : IsTold outcome settings.is_json output.is_proposed (is_idle settings.least outcome) output.text.items
  pub asked : is_some output.pins ≡ is_some settings.pins
  pub pins : IfSome output.pins (ArePinFiles settings outcome (proposed_changes outcome output.is_proposed))

-- the script makes the changes that the JSON lists, in their order, and the way back undoes those that it lists as such
pub record HaveSameChanges (settings : PlanSettings) (outcome : Outcome) (text : List ℕ) (is_proposed : Bool)
    (files : PinFiles) : Type 0 where
  pub changes : List PinChange
  pub facts : Facts
  pub told : text ≡ json facts changes (inverted outcome.decision.proposal.rows.items changes) is_proposed
  pub script : files.script.items ≡ script_of settings outcome changes
  pub back : files.back.items ≡ script_of settings outcome (inverted outcome.decision.proposal.rows.items changes)
