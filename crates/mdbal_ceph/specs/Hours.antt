-- The hours that a plan is for: that of now, earlier ones, and made ones.
use Rattle.std.specs.Prelude.{◌≡◌, ◌⊎◌, ◌<◌, ◌+◌, ◌-◌, ◌*◌, ◌++◌, ℕ, zero, suc, Bool, List, [], ◌∷◌}
use Rattle.std.specs.Prelude.{◌==◌, Option, Some, false}
use Rattle.std.specs.Prelude.{Vec, drop, length, map, min, nat_lt, slice_get, slice_index, slice_index_or, take, true}
use Rattle.std.specs.Prelude.{if◌then◌else◌}
use Rattle.std.specs.Global.{Global}
use Rattle.std.specs.List.{list_any}
use Rattle.std.specs.Option.{option_map_or}
use Rattle.mds_types.specs.declared.problem.ProblemRow.{ProblemRow}
use Rattle.ceph_dumps.specs.OneForOne.{AreOneForOne}
use Rattle.ceph_dumps.specs.declared.hour_record.HourRecord.{HourRecord}
use Rattle.ceph_snapshot.specs.declared.directory.Directory.{Directory}
use Rattle.ceph_snapshot.specs.declared.held.Held.{Held}
use Rattle.ceph_snapshot.specs.Holding.{held_at, held_below_then, most_heat}
use Rattle.ceph_snapshot.specs.Hours.{AreHeatsThen}
use Rattle.ceph_snapshot.specs.Rows.{is_free, planned_heat}
use Rattle.ceph_pins.specs.PinsScript.{path_at}
use Rattle.ceph_plan.specs.ChosenHours.{AreChosenHours, AreThose}
use Rattle.ceph_plan.specs.HourPlans.{IsHoursProposal}
use Rattle.ceph_plan.specs.MadeHours.{AreMadeHours}
use Rattle.ceph_plan.specs.Packing.{IsOneHour}
use Rattle.ceph_plan.specs.declared.for_hours.HoursProposal.{HoursProposal}
use Rattle.ceph_plan.specs.declared.hours.Hour.{Hour}
use Rattle.ceph_plan.specs.declared.made.MadeHour.{MadeHour}
use Rattle.ceph_plan.specs.declared.made.TheConstants.{MADE_WEIGHT}
use Rattle.ceph_plan.specs.declared.proposal.OwnPins.{OwnPins}
use Rattle.ceph_plan.specs.declared.proposal.Proposal.{Proposal}
use Rattle.ceph_report.specs.declared.hours.PlannedHour.{PlannedHour}
use Rattle.mdbal_ceph.specs.declared.hours.PastHour.{PastHour}
use Rattle.mdbal_ceph.specs.declared.planning.PlanAsked.{PlanAsked}
use Rattle.mdbal_ceph.specs.declared.past.EarlierHour.{EarlierHour}
use Rattle.mdbal_ceph.specs.declared.values.TheConstants.{MOST_HOURS}

-- there is heat
abbrev pub has_heat : List ℕ → Bool
has_heat heats = list_any (λ heat. nat_lt 0 heat) heats

-- the heat of an earlier hour at the directories of now, by their paths. If there was heat then, there is some
pub record IsSeenAt (directories : List Directory) (kept : HourRecord) (heats : Vec ℕ Global) : Type 0 where
  pub heats_then : AreHeatsThen directories kept.heats.items heats.items
  pub common : (length kept.heats.items ≡ 0) ⊎ (has_heat heats.items ≡ true)

-- earlier hours at the directories of now
abbrev pub AreSeenAt : List Directory → List EarlierHour → List (Vec ℕ Global) → Type 0
AreSeenAt directories earlier hours =
    AreOneForOne (λ (hour : EarlierHour) (heats : Vec ℕ Global). IsSeenAt directories hour.kept heats) earlier hours

-- the heat of earlier hours, and by rank what was spread then
pub record ArePastHours (earlier : List EarlierHour) (heats : List (Vec ℕ Global)) (past : List PastHour)
    : Type 0 where
  pub heats_are : map (λ (hour : PastHour). hour.heats.items) past ≡ map (λ (hour : Vec ℕ Global). hour.items) heats
  pub spread : map (λ (hour : PastHour). hour.spread.now) past
      ≡ map (λ (hour : EarlierHour). hour.kept.spread.items) earlier

-- what is counted of an earlier hour: as of now, what nothing holds has its heat of then; what something holds counts
-- with its heat of then where it is held, beside what was spread then
pub record IsHourThen (directories : List Directory) (holds : List Held) (past : PastHour) (hour : Hour)
    : Type 0 where
  pub size : length hour.heats.items ≡ length directories
  pub free : (i : ℕ) → i < length directories
      → slice_index hour.heats.items i ≡ planned_heat holds (slice_index past.heats.items) i
  pub pinned_size : length hour.pinned.items ≡ 64
  pub held : (r : ℕ) → r < 64 → slice_index hour.pinned.items r
      ≡ min most_heat (slice_index past.spread.now r
      + held_below_then directories holds (slice_index past.heats.items) r (length directories))

-- the hours that are given: that of now, and then the earlier ones
pub record AreGivenHours (directories : List Directory) (holds : List Held) (rows : List ProblemRow)
    (pinned : List ℕ) (past : List PastHour) (given : List Hour) : Type 0 where
  pub now : List Hour
  pub rest : List Hour
  pub one : IsOneHour rows pinned now
  pub rest_are : AreOneForOne (IsHourThen directories holds) past rest
  pub are : given ≡ now ++ rest

-- which directories nothing holds
pub record AreFree (holds : List Held) (free : List Bool) : Type 0 where
  pub size : length free ≡ length holds
  pub each : (i : ℕ) → i < length holds → slice_index_or free i false ≡ is_free (held_at holds i)

-- how many hours may be made beside these: no more than are asked for, and at most 32 in all
abbrev pub made_most : PlanAsked → ℕ → ℕ
made_most asked chosen = min asked.made (MOST_HOURS - chosen)

-- a made hour as it is planned for
abbrev pub IsCopied : MadeHour → Hour → Type 0
IsCopied one hour = (hour.heats.items ≡ one.hour.heats.items) × (hour.pinned.items ≡ one.hour.pinned.items)

-- what an hour counts, in percent: in full if it was seen, and less if it was made
abbrev pub hour_weight : ℕ → ℕ → ℕ
hour_weight seen k = if nat_lt k seen then 100 else MADE_WEIGHT

-- the hours that are planned for: those that were chosen, and then the made ones
pub record ArePlannedFor (given : List Hour) (chosen : List ℕ) (made : List MadeHour) (hours : List Hour)
    (weights : List ℕ) : Type 0 where
  pub seen : List Hour
  pub added : List Hour
  pub those : AreThose given chosen seen
  pub copies : AreOneForOne IsCopied made added
  pub are : hours ≡ seen ++ added
  pub size : length weights ≡ length chosen + length made
  pub weights_are : (k : ℕ) → k < length chosen + length made → slice_index weights k ≡ hour_weight (length chosen) k

-- the name of hour k of those: the words that name its folder or record; or the path of the directory for which it was
-- made
abbrev pub made_name : List Directory → Option MadeHour → List ℕ
made_name directories one = option_map_or (λ (made : MadeHour). path_at directories made.parent) one []

abbrev pub told_name : List (List ℕ) → List Directory → List ℕ → List MadeHour → ℕ → List ℕ
told_name names directories chosen made k =
    option_map_or (λ (place : ℕ). slice_index_or names place []) (slice_get chosen k)
    (made_name directories (slice_get made (k - length chosen)))

-- the loads of the ranks in hour k, of a table of loads
abbrev pub loads_in : List ℕ → ℕ → List ℕ
loads_in loads k = take 64 (drop (k * 64) loads)

-- what is told of hour k: its name, whether it was seen, its bound, and the load of each rank now and as planned
pub record IsToldHour (names : List (List ℕ)) (directories : List Directory) (chosen : List ℕ)
    (made : List MadeHour) (found : HoursProposal) (k : ℕ) (hour : PlannedHour) : Type 0 where
  pub name : hour.name.items ≡ told_name names directories chosen made k
  pub seen : hour.is_seen ≡ nat_lt k (length chosen)
  pub bound : hour.bound ≡ slice_index found.bounds.items k
  pub now : hour.now.items ≡ loads_in found.before.items k
  pub planned : hour.planned.items ≡ loads_in found.loads.items k

pub record AreToldHours (names : List (List ℕ)) (directories : List Directory) (chosen : List ℕ)
    (made : List MadeHour) (found : HoursProposal) (hours : List PlannedHour) : Type 0 where
  pub size : length hours ≡ length chosen + length made
  pub each : (k : ℕ) (hour : PlannedHour) → slice_get hours k ≡ Some hour
      → IsToldHour names directories chosen made found k hour

-- hour h is one of the chosen ones
abbrev pub is_chosen : List ℕ → ℕ → Bool
is_chosen chosen h = list_any (λ k. k == h) chosen

-- the names of those that were given and are not planned for
abbrev pub left_names : List (List ℕ) → List ℕ → ℕ → List (List ℕ)
left_names names chosen zero = []
left_names names chosen (suc h) =
    left_names names chosen h ++ (if is_chosen chosen h then [] else slice_index_or names h [] ∷ [])

-- a plan for hours: for those of the given ones that are chosen, that of now first, and for hours that are made of now;
-- and what is told of them
pub record IsPlanOfHours (asked : PlanAsked) (directories : List Directory) (holds : List Held) (rows : List ProblemRow)
    (own : List OwnPins) (given : List Hour) (proposal : Proposal) (hours : List PlannedHour) (left : List (List ℕ))
    : Type 0 where
  pub chosen : List ℕ
  pub chosen_are : AreChosenHours asked.ranks given rows asked.wanted own asked.chosen chosen
  pub free : List Bool
  pub free_are : AreFree holds free
  pub now : Hour
  pub first : slice_get given 0 ≡ Some now
  pub made : List MadeHour
  pub made_are : AreMadeHours rows free now (made_most asked (length chosen)) made
  pub planned : List Hour
  pub weights : List ℕ
  pub planned_are : ArePlannedFor given chosen made planned weights
  pub found : HoursProposal
  pub found_is : IsHoursProposal asked.ranks planned rows weights asked.wanted own found
  pub proposal_is : proposal ≡ found.proposal
  pub told : AreToldHours (map (λ name. name.now) asked.names.now) directories chosen made found hours
  pub left_are : left ≡ left_names (map (λ name. name.now) asked.names.now) chosen (length asked.names.now)

-- the load of each rank in the hour of now, as planned
abbrev pub load_now : List PlannedHour → List ℕ
load_now hours = option_map_or (λ (hour : PlannedHour). hour.planned.items) (slice_get hours 0) []
