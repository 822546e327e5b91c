-- The options as they are read of the words, and what is planned by them.
use Rattle.std.specs.Prelude.{◌≡◌, ◌≤◌, ◌+◌, ◌*◌, ◌-◌, ◌^◌, ◌++◌, ◌∷◌, ◌&&◌, ◌||◌, ℕ, Bool, true, false, List, []}
use Rattle.std.specs.Prelude.{Option, Some, None, Vec, codes, is_some, length, map, nat_lt, not}
use Rattle.std.specs.Prelude.{string_bytes}
use Rattle.std.specs.Prelude.{if◌then◌else◌}
use Rattle.std.specs.Global.{Global}
use Rattle.std.specs.Option.{option_map, unwrap_or}
use Rattle.std.specs.Str.{bytes_eq}
use Rattle.std.specs.Str.Parse.{digits_value, without_leading_plus}
use Rattle.clap.specs.Words.{Row, all_of, first_of, one_of}
use Rattle.ceph_dumps.specs.HourRecord.{hour_data, hour_text}
use Rattle.ceph_dumps.specs.PathList.{path_bytes}
use Rattle.ceph_dumps.specs.declared.file_system.FileSystem.{FileSystem}
use Rattle.ceph_dumps.specs.declared.hour_record.HourRecord.{HourRecord}
use Rattle.ceph_dumps.specs.declared.own_list.OwnPin.{OwnPin}
use Rattle.ceph_plan.specs.declared.choice.PartCount.{PartCount}
use Rattle.ceph_plan.specs.declared.choice.Wanted.{Wanted}
use Rattle.ceph_plan.specs.declared.choice.PartCount.TheVariants.{AtMost, Auto}
use Rattle.ceph_report.specs.Check.{all_hold, check_text}
use Rattle.ceph_report.specs.declared.check.PinCheck.{PinCheck}
use Rattle.ceph_snapshot.specs.Hours.{IsHourOfSnapshot}
use Rattle.ceph_snapshot.specs.declared.snapshot.Snapshot.{Snapshot}
use Rattle.mdbal_ceph.specs.declared.collected.Collected.{Collected}
use Rattle.mdbal_ceph.specs.declared.outcome.Outcome.{Outcome}
use Rattle.mdbal_ceph.specs.declared.settings.Least.{Least}
use Rattle.mdbal_ceph.specs.declared.settings.HoursAsked.{HoursAsked}
use Rattle.mdbal_ceph.specs.declared.settings.PlanSettings.{PlanSettings}
use Rattle.mdbal_ceph.specs.declared.values.TheConstants.{MOST_HOURS}
use Rattle.mdbal_ceph.specs.declared.writing.PlanOutput.{PlanOutput}
use Rattle.mdbal_ceph.specs.Collections.{AreLeftOf, HasOurPins, IsCollected, IsOfRanks, IsOwnOf, listed_pins}
use Rattle.mdbal_ceph.specs.Collections.{pins_listed}
use Rattle.mdbal_ceph.specs.Dumps.{DumpValue}
use Rattle.mdbal_ceph.specs.Folder.{FileContent}
use Rattle.mdbal_ceph.specs.Named.{paths0}
use Rattle.mdbal_ceph.specs.Past.{AreEarlier, AreOfFileSystem}
use Rattle.mdbal_ceph.specs.declared.past.EarlierHour.{EarlierHour}
use Rattle.mdbal_ceph.specs.Outcomes.{IsOutcome}
use Rattle.mdbal_ceph.specs.Usable.{AreUsable, asked_mask}
use Rattle.mdbal_ceph.specs.Writing.{IsWritten}

-- the number of a text of decimal digits
abbrev pub option_number : List ℕ → ℕ
option_number text = digits_value 10 (without_leading_plus text)

-- the value of an option, or this text where the option isn't there
abbrev pub value_or : List Row → List ℕ → List ℕ → List ℕ
value_or rows option other = unwrap_or (first_of option rows) other

-- the number of parts, of which auto tries those up to the most
abbrev pub parts_named : List ℕ → List ℕ → PartCount
parts_named text most = if bytes_eq text (codes "auto") then Auto (option_number most) else AtMost (option_number text)

-- the ranks of a mask, if there is one
abbrev pub mask_named : Option (List ℕ) → Option ℕ
mask_named None = None
mask_named (Some text) = asked_mask text

-- a heat in thousandths, if one is named
abbrev pub heat_named : Option (List ℕ) → Option ℕ
heat_named text = option_map (λ digits. option_number digits * 1000) text

-- a number of inodes, if one is named
abbrev pub inodes_named : Option (List ℕ) → Option ℕ
inodes_named text = option_map option_number text

-- the folders and records that the words name, in their order
abbrev pub folders_named : List Row → List (List ℕ)
folders_named rows = unwrap_or (all_of (codes "folder") rows) []

-- the last of them is the folder of now, and those before it are earlier hours. How many hours are chosen is one of 1
-- to 32, and how many are made one of 0 to 31
pub record IsPastNamed (rows : List Row) (folder : List ℕ) (past : HoursAsked) : Type 0 where
  pub folders : folders_named rows ≡ map (λ text. text.now) past.earlier.items ++ folder ∷ []
  pub hours : past.hours ≡ option_number (value_or rows (codes "hours") (codes "24"))
  pub some : 1 ≤ past.hours
  pub few : past.hours ≤ MOST_HOURS
  pub made : past.made ≡ option_number (value_or rows (codes "made") (codes "0"))
  pub few_made : past.made + 1 ≤ MOST_HOURS

-- what a plan has to come to, with heat in thousandths
abbrev pub least_named : List Row → Least
least_named rows =
    record {
      heat = heat_named (first_of (codes "least-heat") rows);
      percent = option_number (value_or rows (codes "least-gain") (codes "5"));
      each_thousand = option_number (value_or rows (codes "least-by-inodes") (codes "0")) * 1000;
    }

-- whether the words have an option that takes no value
pub record IsFlag (rows : List Row) (option : List ℕ) (is_given : Bool) : Type 0 where
  pub given : one_of option rows ≡ Some (codes "true") → is_given ≡ true
  pub left_out : one_of option rows ≡ Some (codes "false") → is_given ≡ false

-- each setting is the value of the option of its name
pub record AreRead (rows : List Row) (settings : PlanSettings) : Type 0 where
  pub past : IsPastNamed rows settings.folder.now settings.past
  pub parts : settings.parts
      ≡ parts_named (value_or rows (codes "parts") (codes "auto")) (value_or rows (codes "most-pins") (codes "10000"))
  pub keep : settings.keep ≡ option_number (value_or rows (codes "keep") (codes "5"))
  pub most_inodes : settings.most_inodes ≡ inodes_named (first_of (codes "most-inodes") rows)
  pub leave : option_map (λ text. text.now) settings.leave ≡ first_of (codes "leave") rows
  pub least : settings.least ≡ least_named rows
  pub mask : settings.mask ≡ mask_named (first_of (codes "mask") rows)
  pub mount : settings.mount.now ≡ value_or rows (codes "mount") (codes "/mnt/cephfs")
  pub own : option_map (λ text. text.now) settings.own ≡ first_of (codes "own") rows
  pub check : option_map (λ text. text.now) settings.check ≡ first_of (codes "check") rows
  pub pins : option_map (λ text. text.now) settings.pins ≡ first_of (codes "pins") rows
  pub record_to : option_map (λ text. text.now) settings.record_to ≡ first_of (codes "record") rows
  pub svg : option_map (λ text. text.now) settings.svg ≡ first_of (codes "svg") rows
  pub script : option_map (λ text. text.now) settings.script ≡ first_of (codes "script") rows
  pub subvolumes : IsFlag rows (codes "subvolumes") settings.subvolumes
  pub json : IsFlag rows (codes "json") settings.is_json
  pub paths0 : IsFlag rows (codes "paths0") settings.paths0

-- where a plan or pins are compared, or paths are printed, there are no earlier hours
abbrev pub FitTogether : PlanSettings → Type 0
FitTogether settings =
    ((is_some settings.check || settings.paths0) && nat_lt 0 (length settings.past.earlier.items)) ≡ false

-- the plan that is wanted by the settings. While the balancer is off, what has no pin stays where it is
abbrev pub wanted_by : PlanSettings → Bool → Wanted
wanted_by settings balances =
    record {
      parts = settings.parts;
      keep = settings.keep;
      most_inodes = unwrap_or settings.most_inodes (2 ^ 64 - 1);
      rests = not balances;
    }

-- the same name in the same cluster
abbrev pub AreSameNames : FileSystem → FileSystem → Type 0
AreSameNames one other =
    (string_bytes other.name ≡ string_bytes one.name) × (string_bytes other.fsid ≡ string_bytes one.fsid)

-- where it is asked for, the text of the record of what was collected
abbrev pub IsRecordText : Option (List ℕ) → Collected → Option (Vec ℕ Global) → Type 0
IsRecordText None collected text = text ≡ None
IsRecordText (Some name) collected None = ⊥
IsRecordText (Some name) collected (Some text) =
    (kept : HourRecord) × (named : FileSystem) × AreSameNames collected.file_system named
    × IsHourOfSnapshot named collected.snapshot kept × (text.items ≡ hour_text (hour_data kept))

abbrev pub IsRecordOfNow : PlanSettings → Collected → Option (Vec ℕ Global) → Type 0
IsRecordOfNow settings collected text =
    IsRecordText (option_map (λ name. name.now) settings.record_to) collected text

-- what is written is that of a plan of what was collected, which is read of the files that the settings name: of its
-- directories, with the earlier hours that the settings name, which are of the same file system,
-- for the ranks of the mask that is asked for or else of the cluster's own, with the
-- directories that are to be left, and with all that has no pin staying where it is if the balancer is off
pub record IsPlanWritten (reads : List ℕ → FileContent → Type 0) (says : List ℕ → DumpValue → Type 0)
    (settings : PlanSettings) (output : PlanOutput) : Type 0 where
  pub collected : Collected
  pub outcome : Outcome
  pub leave : List (Vec ℕ Global)
  pub read : IsCollected reads says settings.folder.now (option_map (λ name. name.now) settings.own) collected
  pub left : AreLeftOf reads (option_map (λ name. name.now) settings.leave) leave
  pub ours : HasOurPins collected
  pub ranks : AreUsable settings.mask (option_map string_bytes collected.cluster.mask) collected.cluster outcome.ranks
  pub earlier : List EarlierHour
  pub earlier_are : AreEarlier reads says (map (λ name. name.now) settings.past.earlier.items) earlier
  pub same : AreOfFileSystem collected.file_system earlier
  pub of : IsOutcome collected.snapshot.directories.items collected.snapshot.spread.items (path_bytes leave) earlier
      settings (wanted_by settings collected.balances) outcome
  pub there : outcome.there ≡ collected.cluster.ranks
  pub active : outcome.active ≡ collected.cluster.active
  pub size : outcome.size ≡ collected.cluster.size
  pub samples : outcome.samples ≡ collected.samples
  pub balances : outcome.balances ≡ collected.balances
  pub file_system : outcome.file_system ≡ collected.file_system
  pub hour_record : IsRecordOfNow settings collected output.hour_record
  pub written : IsWritten settings outcome output

-- how many pins a list has, if there is one
abbrev pub listed_count : Collected → ℕ
listed_count collected = length (listed_pins collected)

-- what is reported is how the pins of the list of this name hold in what was collected
pub record IsChecked (reads : List ℕ → FileContent → Type 0) (says : List ℕ → DumpValue → Type 0) (folder : List ℕ)
    (own : List ℕ) (found : PinCheck) : Type 0 where
  pub collected : Collected
  pub read : IsCollected reads says folder (Some own) collected
  pub ours : HasOurPins collected
  pub text : found.text.items ≡ check_text collected.snapshot.directories.items (listed_count collected)
  pub holds : found.all_hold ≡ all_hold collected.snapshot.directories.items (listed_count collected)

-- what is printed are the paths of the directories that the dumps of the ranks name, and of the list of pins of this
-- name where one is named
pub record AreNamed (reads : List ℕ → FileContent → Type 0) (says : List ℕ → DumpValue → Type 0) (folder : List ℕ)
    (own : Option (List ℕ)) (text : List ℕ) : Type 0 where
  pub snapshot : Snapshot
  pub ranks : IsOfRanks reads says folder snapshot
  pub pins : Option (Vec OwnPin Global)
  pub pins_of : IsOwnOf reads own pins
  pub paths : text ≡ paths0 snapshot.directories.items (pins_listed pins)
