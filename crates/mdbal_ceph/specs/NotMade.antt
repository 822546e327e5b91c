-- Why nothing is made: no plan, no comparison, no paths.
use Rattle.std.specs.Prelude.{◌≡◌, ◌⊎◌, ◌<◌, ◌≤◌, ⊤, ℕ, Bool, true, false, List, Option, Some, None, Vec, is_some}
use Rattle.std.specs.Prelude.{if◌then◌else◌, length, map, min, string_bytes}
use Rattle.std.specs.Global.{Global}
use Rattle.std.specs.List.{IsAmong}
use Rattle.std.specs.Option.{option_map}
use Rattle.mds_types.specs.RankSet.{has_rank}
use Rattle.mds_types.specs.declared.limits.TheConstants.{DIR_LIMIT}
use Rattle.mds_types.specs.declared.problem.ProblemRow.{ProblemRow}
use Rattle.ceph_dumps.specs.PathList.{IsPathListError, path_bytes}
use Rattle.ceph_dumps.specs.declared.cluster.FileSystemRanks.{FileSystemRanks}
use Rattle.ceph_dumps.specs.declared.file_system.FileSystem.{FileSystem}
use Rattle.ceph_folding.specs.Folding.{IsFolded}
use Rattle.ceph_folding.specs.TooMany.{AreTooMany, AreTooManyToUnits}
use Rattle.ceph_pins.specs.Back.{inverted}
use Rattle.ceph_pins.specs.OwnPins.{AreOwnPins}
use Rattle.ceph_pins.specs.PinsScript.{AreWritable}
use Rattle.ceph_pins.specs.Volumes.{is_unit}
use Rattle.ceph_plan.specs.ChosenHours.{IsChoiceRefusal}
use Rattle.ceph_plan.specs.HourPlans.{IsHoursRefusal}
use Rattle.ceph_plan.specs.MadeHours.{IsMadeRefusal}
use Rattle.ceph_plan.specs.declared.hours.Hour.{Hour}
use Rattle.ceph_plan.specs.declared.plan_error.PlanError.{PlanError}
use Rattle.ceph_plan.specs.declared.proposal.OwnPins.{OwnPins}
use Rattle.ceph_snapshot.specs.Hours.{AreHeatsThen}
use Rattle.ceph_snapshot.specs.Policies.{dir_path_at}
use Rattle.ceph_snapshot.specs.Rows.{AreRowsOf}
use Rattle.ceph_snapshot.specs.declared.directory.Directory.{Directory}
use Rattle.ceph_snapshot.specs.declared.held.Held.{Held}
use Rattle.mdbal_ceph.specs.Causes.{IsCollectFault, IsFolderFault, IsListedFault, IsNoMemory, IsNamedBy, IsNoHour}
use Rattle.mdbal_ceph.specs.Causes.{IsNoStored}
use Rattle.mdbal_ceph.specs.Collections.{AreLeftOf, IsCollected}
use Rattle.mdbal_ceph.specs.Dumps.{DumpKind, DumpValue}
use Rattle.ceph_dumps.specs.declared.dump_error.DumpError.{DumpError}
use Rattle.mdbal_ceph.specs.Folder.{Failed, FileContent, IsInFile}
use Rattle.mdbal_ceph.specs.Hours.{AreGivenHours, AreSeenAt, has_heat}
use Rattle.mdbal_ceph.specs.Options.{wanted_by}
use Rattle.mdbal_ceph.specs.Outcomes.{ArePastOf, AreUnitHours, AreUnits, IsAskedBy, IsHeldHeat, IsOutcome}
use Rattle.mdbal_ceph.specs.Past.{AreEarlier, is_same_file_system}
use Rattle.mdbal_ceph.specs.Usable.{AreUsable, IsMask, cluster_mask}
use Rattle.mdbal_ceph.specs.Writing.{proposed_changes}
use Rattle.mdbal_ceph.specs.declared.collected.Collected.{Collected}
use Rattle.mdbal_ceph.specs.declared.hours.PastHour.{PastHour}
use Rattle.mdbal_ceph.specs.declared.outcome.Outcome.{Outcome}
use Rattle.mdbal_ceph.specs.declared.past.EarlierHour.{EarlierHour}
use Rattle.mdbal_ceph.specs.declared.planning.PlanAsked.{PlanAsked}
use Rattle.mdbal_ceph.specs.declared.no_result.FileFault.{FileFault}
use Rattle.mdbal_ceph.specs.declared.no_result.FileFault.TheVariants as fault
use Rattle.mdbal_ceph.specs.declared.no_result.NoPlan.{NoPlan}
use Rattle.mdbal_ceph.specs.declared.no_result.NoPlan.TheVariants as no
use Rattle.mdbal_ceph.specs.declared.no_result.PastFault.TheVariants as past_fault
use Rattle.mdbal_ceph.specs.declared.no_result.NoResult.{NoResult}
use Rattle.mdbal_ceph.specs.declared.no_result.NoResult.TheVariants as why
use Rattle.mdbal_ceph.specs.declared.settings.PlanSettings.{PlanSettings}

-- the ranks that may have a part can't be told: the cluster's own mask is none, or it lacks rank 0, and no other is
-- asked for; or rank 0 is not active
abbrev pub IsNoMask : Option ℕ → Option (List ℕ) → FileSystemRanks → NoPlan → Type 0
IsNoMask asked own cluster no.BadMask =
    (asked ≡ None) × ((text : List ℕ) × (own ≡ Some text) × (cluster_mask text ≡ None))
IsNoMask asked own cluster no.MaskWithoutZero =
    (asked ≡ None) × ((mask : ℕ) × IsMask None own mask × (has_rank mask 0 ≡ false))
IsNoMask asked own cluster no.ZeroNotActive = has_rank cluster.active 0 ≡ false
IsNoMask asked own cluster other = ⊥

abbrev pub IsUsableFault : Option ℕ → Option (List ℕ) → FileSystemRanks → NoResult → Type 0
IsUsableFault asked own cluster (why.NoPlan one) = IsNoMask asked own cluster one
IsUsableFault asked own cluster other = ⊥

-- the planner refuses hours: none can be chosen of those that are given, none can be made of that of now, or those that
-- are chosen and made can't be planned for
abbrev pub AreRefusedHours : PlanAsked → List ProblemRow → List OwnPins → List Hour → PlanError → Type 0
AreRefusedHours asked rows own given error =
    IsChoiceRefusal asked.ranks given rows asked.wanted own asked.chosen error
    ⊎ (((now : Hour) × IsAmong given now × IsMadeRefusal rows now error)
    ⊎ ((planned : List Hour) × (weights : List ℕ)
    × IsHoursRefusal asked.ranks planned rows weights asked.wanted own error))

abbrev pub IsNoHoursPlan : PlanAsked → List ProblemRow → List OwnPins → List Hour → NoResult → Type 0
IsNoHoursPlan asked rows own given why.Memory = ⊤
IsNoHoursPlan asked rows own given (why.NoPlan (no.Refused error)) = AreRefusedHours asked rows own given error
IsNoHoursPlan asked rows own given other = ⊥

-- nothing is decided for directories: memory was refused, or the planner refuses them as they are
pub record AreRefused (directories : List Directory) (spread : List ℕ) (leave : List (List ℕ)) (past : List PastHour)
    (asked : PlanAsked) (error : PlanError) : Type 0 where
  pub holds : List Held
  pub rows : List ProblemRow
  pub rows_of : AreRowsOf directories holds (length directories) rows
  pub pinned : List ℕ
  pub pinned_are : IsHeldHeat directories holds spread pinned
  pub own : List OwnPins
  pub own_are : AreOwnPins directories leave (length directories) own
  pub given : List Hour
  pub given_are : AreGivenHours directories holds rows pinned past given
  pub refused : AreRefusedHours asked rows own given error

abbrev pub IsDecisionFault : List Directory → List ℕ → List (List ℕ) → List PastHour → PlanAsked → NoResult → Type 0
IsDecisionFault directories spread leave past asked why.Memory = ⊤
IsDecisionFault directories spread leave past asked (why.NoPlan (no.Refused error)) =
    AreRefused directories spread leave past asked error
IsDecisionFault directories spread leave past asked other = ⊥

-- an earlier hour is of another file system than that of now
abbrev pub IsOfAnother : EarlierHour → NoResult → Type 0
IsOfAnother hour (why.Past told (past_fault.OtherFileSystem name fsid)) =
    (string_bytes told ≡ hour.name.now)
    × (string_bytes name ≡ string_bytes hour.kept.file_system.name)
    × (string_bytes fsid ≡ string_bytes hour.kept.file_system.fsid)
IsOfAnother hour other = ⊥

abbrev pub AreOthers : FileSystem → List EarlierHour → NoResult → Type 0
AreOthers now earlier error =
    IsNoMemory error
    ⊎ ((hour : EarlierHour) × IsAmong earlier hour × (is_same_file_system hour.kept.file_system now ≡ false)
    × IsOfAnother hour error)

-- all heat of an earlier hour is at directories that are gone
abbrev pub HasNothingLeft : List Directory → EarlierHour → NoResult → Type 0
HasNothingLeft directories hour (why.Past told past_fault.NothingInCommon) =
    (string_bytes told ≡ hour.name.now) × (0 < length hour.kept.heats.items)
    × ((heats : List ℕ) × AreHeatsThen directories hour.kept.heats.items heats × (has_heat heats ≡ false))
HasNothingLeft directories hour why.Memory = ⊤
HasNothingLeft directories hour other = ⊥

abbrev pub IsPastFault : List Directory → List EarlierHour → NoResult → Type 0
IsPastFault directories earlier error =
    IsNoMemory error ⊎ ((hour : EarlierHour) × IsAmong earlier hour × HasNothingLeft directories hour error)

-- there are too many directories to fold them into the subvolumes and their groups, where these are planned
abbrev pub AreTooManyForUnits : Bool → List Directory → List (Vec ℕ Global) → Type 0
AreTooManyForUnits false collected hours = ⊥
AreTooManyForUnits true collected hours =
    AreTooManyToUnits collected (λ i. is_unit (dir_path_at collected i)) hours

-- or to fold those that are planned one by one until there are as many as the planner takes
pub record AreTooManyUnits (subvolumes : Bool) (collected : List Directory) (hours : List (Vec ℕ Global)) : Type 0 where
  pub units : List Directory
  pub units_are : AreUnits subvolumes collected units
  pub at_units : List (Vec ℕ Global)
  pub at_units_are : AreUnitHours subvolumes collected units hours at_units
  pub many : AreTooMany units DIR_LIMIT at_units

-- that is so with the heat of the earlier hours
pub record AreTooManyToPlan (subvolumes : Bool) (collected : List Directory) (earlier : List EarlierHour) : Type 0 where
  pub seen : List (Vec ℕ Global)
  pub seen_are : AreSeenAt collected earlier seen
  pub many : AreTooManyForUnits subvolumes collected seen ⊎ AreTooManyUnits subvolumes collected seen

-- memory was refused, or there are too many directories
abbrev pub IsFoldingFault : Bool → List Directory → List EarlierHour → NoResult → Type 0
IsFoldingFault subvolumes collected earlier why.Memory = ⊤
IsFoldingFault subvolumes collected earlier why.TooMany = AreTooManyToPlan subvolumes collected earlier
IsFoldingFault subvolumes collected earlier other = ⊥

-- the planner refuses what is planned of what was collected
pub record IsNotDecided (settings : PlanSettings) (collected : Collected) (earlier : List EarlierHour)
    (leave : List (List ℕ)) (error : NoResult) : Type 0 where
  pub ranks : ℕ
  pub ranks_are : AreUsable settings.mask (option_map string_bytes collected.cluster.mask) collected.cluster ranks
  pub units : List Directory
  pub units_are : AreUnits settings.subvolumes collected.snapshot.directories.items units
  pub directories : List Directory
  pub few : length directories ≡ min (length units) DIR_LIMIT
  pub same : length units ≤ DIR_LIMIT → directories ≡ units
  pub folded : IsFolded units directories
  pub past : List PastHour
  pub past_are : ArePastOf collected.snapshot.directories.items units directories settings.subvolumes earlier past
  pub asked : PlanAsked
  pub asked_is : IsAskedBy settings (wanted_by settings collected.balances) ranks asked
  pub refused : IsDecisionFault directories collected.snapshot.spread.items leave past asked error

-- what was collected isn't planned: an earlier hour doesn't fit, the ranks can't be told, or the planner refuses it; or
-- memory was refused, or there are too many directories
abbrev pub IsNotPlanned : PlanSettings → Collected → List EarlierHour → List (List ℕ) → NoResult → Type 0
IsNotPlanned settings collected earlier leave error =
    IsFoldingFault settings.subvolumes collected.snapshot.directories.items earlier error
    ⊎ (AreOthers collected.file_system earlier error
    ⊎ (IsUsableFault settings.mask (option_map string_bytes collected.cluster.mask) collected.cluster error
    ⊎ (IsPastFault collected.snapshot.directories.items earlier error
    ⊎ IsNotDecided settings collected earlier leave error)))

-- what was planned can't be written as a script: the changes, or those that undo them, have a path with a NUL byte, or
-- the mount or a name has one
pub record IsUnwritable (settings : PlanSettings) (outcome : Outcome) : Type 0 where
  pub asked : is_some settings.pins ≡ true
  pub is_proposed : Bool
  pub is_back : Bool
  pub unwritable : AreWritable settings.mount.now (string_bytes outcome.file_system.name)
      (string_bytes outcome.file_system.fsid) outcome.directories.items
      (if is_back then inverted outcome.decision.proposal.rows.items (proposed_changes outcome is_proposed)
      else proposed_changes outcome is_proposed) → ⊥

abbrev pub IsWritingFault : PlanSettings → Outcome → NoResult → Type 0
IsWritingFault settings outcome why.Memory = ⊤
IsWritingFault settings outcome (why.NoPlan (no.Unwritable error)) = IsUnwritable settings outcome
IsWritingFault settings outcome other = ⊥

-- a record can't be read: its device failed, or its bytes are none
abbrev pub IsRecordFault : (List ℕ → FileContent → Type 0) → List ℕ → FileFault → Type 0
IsRecordFault reads name (fault.Device error) = reads name Failed
IsRecordFault reads name (fault.Refused error) = IsInFile reads IsNoHour name error
IsRecordFault reads name other = ⊥

-- a text for a driver can't be read: its device failed, or its bytes are none that a driver stored
abbrev pub IsStoredFault : (List ℕ → FileContent → Type 0) → List ℕ → FileFault → Type 0
IsStoredFault reads name (fault.Device error) = reads name Failed
IsStoredFault reads name (fault.Stored error) = IsInFile reads IsNoStored name error
IsStoredFault reads name other = ⊥

module _ (reads : List ℕ → FileContent → Type 0) (says : List ℕ → DumpValue → Type 0)
    (refuses : DumpKind → List ℕ → DumpError → Type 0) where
  -- why an earlier hour isn't read: there is no such record, or its folder gives none
  abbrev pub IsHourFault : List ℕ → NoResult → Type 0
  IsHourFault name error = IsNamedBy name (IsRecordFault reads name) error ⊎ IsFolderFault reads says refuses name error

  abbrev pub IsEarlierFault : List (List ℕ) → NoResult → Type 0
  IsEarlierFault names error = (name : List ℕ) × IsAmong names name × IsHourFault name error

  -- these are what is read for a plan by the settings
  pub record AreReadFor (settings : PlanSettings) (collected : Collected) (earlier : List EarlierHour)
      (leave : List (Vec ℕ Global)) : Type 0 where
    pub read : IsCollected reads says settings.folder.now (option_map (λ name. name.now) settings.own) collected
    pub left : AreLeftOf reads (option_map (λ name. name.now) settings.leave) leave
    pub earlier_are : AreEarlier reads says (map (λ name. name.now) settings.past.earlier.items) earlier

  -- why there is no plan by the settings: an earlier hour, the folder of now or a list isn't read; or they are, and it
  -- isn't planned, or what is planned isn't written
  abbrev pub IsReadingFault : PlanSettings → NoResult → Type 0
  IsReadingFault settings error =
      IsEarlierFault (map (λ name. name.now) settings.past.earlier.items) error
      ⊎ (IsCollectFault reads says refuses settings.folder.now (option_map (λ name. name.now) settings.own) error
      ⊎ IsListedFault reads IsPathListError (option_map (λ name. name.now) settings.leave) error)

  pub record IsPlanningFault (settings : PlanSettings) (error : NoResult) : Type 0 where
    pub collected : Collected
    pub earlier : List EarlierHour
    pub leave : List (Vec ℕ Global)
    pub read : AreReadFor settings collected earlier leave
    pub why_not : IsNotPlanned settings collected earlier (path_bytes leave) error
        ⊎ ((outcome : Outcome)
        × IsOutcome collected.snapshot.directories.items collected.snapshot.spread.items (path_bytes leave) earlier
        settings (wanted_by settings collected.balances) outcome
        × IsWritingFault settings outcome error)

  abbrev pub IsNoPlanFor : PlanSettings → NoResult → Type 0
  IsNoPlanFor settings error = IsReadingFault settings error ⊎ IsPlanningFault settings error

  -- why nothing is compared: there is no such text of a driver; or the folder or a list of pins of this name isn't read
  abbrev pub IsNotCompared : List ℕ → List ℕ → NoResult → Type 0
  IsNotCompared folder name error =
      IsNamedBy name (IsStoredFault reads name) error ⊎ IsCollectFault reads says refuses folder (Some name) error

  -- why nothing is made of what the settings ask for
  abbrev pub IsNotMadeOf : PlanSettings → Option (List ℕ) → Bool → NoResult → Type 0
  IsNotMadeOf settings (Some name) paths0 error = IsNotCompared settings.folder.now name error
  IsNotMadeOf settings None true error =
      IsCollectFault reads says refuses settings.folder.now (option_map (λ name. name.now) settings.own) error
  IsNotMadeOf settings None false error = IsNoPlanFor settings error

  abbrev pub IsNotMade : PlanSettings → NoResult → Type 0
  IsNotMade settings error =
      IsNotMadeOf settings (option_map (λ name. name.now) settings.check) settings.paths0 error
