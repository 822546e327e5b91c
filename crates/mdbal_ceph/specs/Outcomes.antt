-- What the report's numbers are of.
use Rattle.std.specs.Prelude.{◌≡◌, ◌≢◌, ◌<◌, ◌≤◌, ◌+◌, ◌^◌, ℕ, All, Bool, IsTrue, List, Option, Vec, false, length, map}
use Rattle.std.specs.Prelude.{◌∷◌, min, slice_index, true}
use Rattle.std.specs.Global.{Global}
use Rattle.mds_types.specs.declared.limits.TheConstants.{DIR_LIMIT}
use Rattle.mds_types.specs.declared.problem.ProblemRow.{ProblemRow}
use Rattle.mds_types.specs.Sums.{sum_below}
use Rattle.ceph_pins.specs.declared.spread.Advice.{Advice}
use Rattle.ceph_pins.specs.Spreads.{IsAdvised}
use Rattle.ceph_snapshot.specs.declared.directory.Directory.{Directory}
use Rattle.ceph_snapshot.specs.declared.held.Held.{Held}
use Rattle.ceph_folding.specs.Folding.{AreHoursFolded, AreUnitsLeft, IsFolded}
use Rattle.ceph_snapshot.specs.declared.held.Held.TheVariants.{Free}
use Rattle.ceph_snapshot.specs.Holding.{IsHeld, held_at, held_below, is_holding, most_heat, now_at}
use Rattle.ceph_snapshot.specs.Policies.{StillKeepUnpinnable, dir_path_at}
use Rattle.ceph_snapshot.specs.Rows.{AreRowsOf, free_heat}
use Rattle.ceph_plan.specs.Packing.{IsAsGreat, IsBoundOf}
use Rattle.ceph_plan.specs.declared.hours.Hour.{Hour}
use Rattle.ceph_plan.specs.declared.choice.Wanted.{Wanted}
use Rattle.ceph_plan.specs.declared.proposal.OwnPins.{OwnPins}
use Rattle.ceph_report.specs.Amounts.{AreAmounts, cold_inodes, goal_at, heat_going, heat_now, inodes_from, inodes_to}
use Rattle.ceph_report.specs.Told.{IsHottest}
use Rattle.ceph_report.specs.declared.facts.HottestDirectory.{HottestDirectory}
use Rattle.ceph_pins.specs.Left.{IsLeft}
use Rattle.ceph_pins.specs.OwnPins.{AreOwnPins}
use Rattle.ceph_pins.specs.Volumes.{is_unit}
use Rattle.mdbal_ceph.specs.declared.outcome.Decision.{Decision}
use Rattle.mdbal_ceph.specs.declared.outcome.Outcome.{Outcome}
use Rattle.mdbal_ceph.specs.Hours.{AreGivenHours, ArePastHours, AreSeenAt, IsPlanOfHours}
use Rattle.mdbal_ceph.specs.declared.hours.PastHour.{PastHour}
use Rattle.mdbal_ceph.specs.declared.past.EarlierHour.{EarlierHour}
use Rattle.mdbal_ceph.specs.declared.planning.PlanAsked.{PlanAsked}
use Rattle.mdbal_ceph.specs.declared.settings.PlanSettings.{PlanSettings}

-- the heat that is held at each rank: that of what is spread, and of all that pins hold there, as far as 64 bits count
pub record IsHeldHeat (directories : List Directory) (holds : List Held) (spread pinned : List ℕ) : Type 0 where
  pub size : length pinned ≡ 64
  pub at : (r : ℕ) → r < 64
      → slice_index pinned r
      ≡ min most_heat (slice_index spread r + held_below directories holds r (length directories))

-- what is planned: the rows are the directories, each with its heat where nothing holds it and with none where
-- something does; the hours that are given are that of now, with the held heat at its ranks, and the earlier ones; the
-- plan is for those that are chosen of them, and for made ones
pub record IsProposalOf (directories : List Directory) (holds : List Held) (pinned : List ℕ) (leave : List (List ℕ))
    (past : List PastHour) (asked : PlanAsked) (decision : Decision) : Type 0 where
  pub rows : List ProblemRow
  pub own : List OwnPins
  pub rows_of : AreRowsOf directories holds (length directories) rows
  pub own_pins : AreOwnPins directories leave (length directories) own
  pub given : List Hour
  pub given_are : AreGivenHours directories holds rows pinned past given
  pub plan : IsPlanOfHours asked directories holds rows own given decision.proposal decision.hours.items
      (map (λ name. name.items) decision.left.items)

-- what is decided for directories, with this heat by rank of what is spread, where those of a list are to be left, and
-- with these earlier hours. No
-- pin changes where somebody else set one, where a directory is spread, and where it may not be pinned
pub record IsDecision (directories : List Directory) (spread : List ℕ) (leave : List (List ℕ)) (past : List PastHour)
    (asked : PlanAsked) (decision : Decision) : Type 0 where
  pub size : length decision.holds.items ≡ length directories
  pub held : (i : ℕ) → i < length directories → IsHeld directories i (held_at decision.holds.items i)
  pub pinned : IsHeldHeat directories decision.holds.items spread decision.pinned.items
  pub planned : IsProposalOf directories decision.holds.items decision.pinned.items leave past asked decision
  pub untouched : (i : ℕ) → 0 < i → i < length directories → is_holding directories i ≡ true
      → All (λ change. change.row ≢ i) decision.proposal.changes.items
  pub goals : (i : ℕ) → i < length directories
      → slice_index decision.goals.items i ≡ goal_at decision.holds.items decision.proposal.rows.items i
  pub left : IsTrue decision.proposal.is_within → (i : ℕ) → i < length directories
      → IsLeft leave (dir_path_at directories i) → held_at decision.holds.items i ≡ Free
      → slice_index decision.goals.items i ≡ now_at directories i
  pub now : AreAmounts decision.sums.now.items (λ r. slice_index spread r + heat_now directories r (length directories))
  pub into : AreAmounts decision.sums.into.items
      (λ r. inodes_to directories decision.holds.items decision.goals.items r (length directories))
  pub out : AreAmounts decision.sums.out.items
      (λ r. inodes_from directories decision.holds.items decision.goals.items r (length directories))
  pub cold : decision.sums.cold
      ≡ min most_heat (cold_inodes directories decision.holds.items decision.goals.items (length directories))
  pub heat : decision.sums.heat
      ≡ min most_heat (heat_going directories decision.holds.items decision.goals.items (length directories))

-- the heat of each directory that nothing holds, and none of one that is held, before any directory is folded
pub record AreFreeHeats (collected : List Directory) (heats : List ℕ) : Type 0 where
  pub holds : List Held
  pub held : (i : ℕ) → i < length collected → IsHeld collected i (held_at holds i)
  pub size : length heats ≡ length collected
  pub free : (i : ℕ) → i < length collected → slice_index heats i ≡ free_heat collected holds i

-- the hottest of the collected directories that nothing holds
pub record IsHottestOfAll (collected : List Directory) (hottest : HottestDirectory) : Type 0 where
  pub heats : List ℕ
  pub are : AreFreeHeats collected heats
  pub is : IsHottest collected heats hottest

-- what Ceph's policy of distributed pins would give over this many ranks on the collected directory where it helps most
pub record IsAdviceOfAll (collected : List Directory) (size : ℕ) (advice : Option Advice) : Type 0 where
  pub heats : List ℕ
  pub are : AreFreeHeats collected heats
  pub is : IsAdvised collected heats size advice

-- whichever of the ranks each collected directory goes to that nothing holds, one rank has at least this load, with
-- what is held there. If their heat is at most 2^62 in all, the bound is no less than the mean load, than each
-- directory with the least that is held at a rank, and than what is held at each
pub record IsBoundOfAll (collected : List Directory) (pinned : List ℕ) (ranks bound : ℕ) : Type 0 where
  pub heats : List ℕ
  pub are : AreFreeHeats collected heats
  pub lower : IsBoundOf ranks pinned (length heats) (slice_index heats) bound
  pub great : sum_below (length heats) (slice_index heats) ≤ 2 ^ 62
      → IsAsGreat ranks pinned (length heats) (slice_index heats) bound

-- the directories that are planned one by one: all that were collected, or, where subvolumes are pinned by Ceph's own
-- commands, these and their groups, with all that is below them or beside them in the nearest above it
abbrev pub AreUnits : Bool → List Directory → List Directory → Type 0
AreUnits false collected units = units ≡ collected
AreUnits true collected units = AreUnitsLeft collected units (λ i. is_unit (dir_path_at collected i))

-- the heat of earlier hours at those directories
abbrev pub AreUnitHours : Bool → List Directory → List Directory → List (Vec ℕ Global) → List (Vec ℕ Global) → Type 0
AreUnitHours false collected units hours left = left ≡ hours
AreUnitHours true collected units hours left = AreHoursFolded collected units hours left

-- the names of the hours that are given: that of now first
abbrev pub hours_named : PlanSettings → List (List ℕ)
hours_named settings = settings.folder.now ∷ map (λ name. name.now) settings.past.earlier.items

-- what plan is asked for by the settings, for these ranks
pub record IsAskedBy (settings : PlanSettings) (wanted : Wanted) (ranks : ℕ) (asked : PlanAsked) : Type 0 where
  pub wanted_is : asked.wanted ≡ wanted
  pub ranks_are : asked.ranks ≡ ranks
  pub names : map (λ name. name.now) asked.names.now ≡ hours_named settings
  pub chosen : asked.chosen ≡ settings.past.hours
  pub made : asked.made ≡ settings.past.made

-- the earlier hours as they are planned for: the heat of then at the collected directories of now by their paths, which
-- follows these to the directories that are planned
pub record ArePastOf (collected units directories : List Directory) (subvolumes : Bool) (earlier : List EarlierHour)
    (past : List PastHour) : Type 0 where
  pub seen : List (Vec ℕ Global)
  pub seen_are : AreSeenAt collected earlier seen
  pub at_units : List (Vec ℕ Global)
  pub at_units_are : AreUnitHours subvolumes collected units seen at_units
  pub heats : List (Vec ℕ Global)
  pub heats_are : AreHoursFolded units directories at_units heats
  pub are : ArePastHours earlier heats past

-- what was collected of directories, with this heat by rank of what is spread, with those that are to be left and with
-- earlier hours, and what
-- came of it: as many
-- directories as the planner takes, all that are planned one by one where they are no more than that, with all their
-- heat and inodes, each that may not be pinned among them, what is decided for these, and the hottest, the advice and
-- the bound of all that were collected
pub record IsOutcome (collected : List Directory) (spread : List ℕ) (leave : List (List ℕ))
    (earlier : List EarlierHour) (settings : PlanSettings) (wanted : Wanted) (outcome : Outcome) : Type 0 where
  pub units : List Directory
  pub each : AreUnits settings.subvolumes collected units
  pub few : length outcome.directories.items ≡ min (length units) DIR_LIMIT
  pub same : length units ≤ DIR_LIMIT → outcome.directories.items ≡ units
  pub folded : IsFolded units outcome.directories.items
  pub count : length outcome.directories.items + outcome.folded ≡ length collected
  pub unpinnable : StillKeepUnpinnable collected outcome.directories.items
  pub past : List PastHour
  pub past_are : ArePastOf collected units outcome.directories.items settings.subvolumes earlier past
  pub asked : PlanAsked
  pub asked_is : IsAskedBy settings wanted outcome.ranks asked
  pub decided : IsDecision outcome.directories.items spread leave past asked outcome.decision
  pub hottest : IsHottestOfAll collected outcome.hottest
  pub advice : IsAdviceOfAll collected outcome.size outcome.advice
  pub bound : IsBoundOfAll collected outcome.decision.pinned.items outcome.ranks outcome.bound
