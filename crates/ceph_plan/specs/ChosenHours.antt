-- Which hours are planned for, of more than a plan takes.
use Rattle.std.specs.Prelude.{◌≡◌, ◌≢◌, ◌<◌, ◌≤◌, ◌⊎◌, ◌+◌, ◌*◌, ◌↔◌, ℕ, Bool, List, false, length, nat_lt}
use Rattle.std.specs.Prelude.{slice_index, slice_index_or, take, true}
use Rattle.mds_types.specs.declared.problem.ProblemRow.{ProblemRow}
use Rattle.mds_types.specs.RankSet.{has_rank}
use Rattle.mds_types.specs.Sums.{count_below, sum_below}
use Rattle.ceph_plan.specs.declared.choice.PartCount.{PartCount}
use Rattle.ceph_plan.specs.declared.choice.PartCount.TheVariants.{AtMost, Auto}
use Rattle.ceph_plan.specs.declared.choice.Wanted.{Wanted}
use Rattle.ceph_plan.specs.declared.for_hours.HoursProposal.{HoursProposal}
use Rattle.ceph_plan.specs.declared.for_hours.TheConstants.{HOUR_LIMIT}
use Rattle.ceph_plan.specs.declared.hour_choice.TheConstants.{JUDGED_PARTS}
use Rattle.ceph_plan.specs.declared.hours.Hour.{Hour}
use Rattle.ceph_plan.specs.declared.hours_error.HoursError.{HoursError}
use Rattle.ceph_plan.specs.declared.hours_error.HoursError.TheVariants as hours_cause
use Rattle.ceph_plan.specs.declared.plan_error.PlanError.{PlanError}
use Rattle.ceph_plan.specs.declared.plan_error.PlanError.TheVariants as cause
use Rattle.ceph_plan.specs.declared.proposal.OwnPins.{OwnPins}
use Rattle.ceph_plan.specs.Balance.{allowed}
use Rattle.ceph_plan.specs.HourPlans.{IsHoursProposal, IsHoursRefusal}
use Rattle.ceph_plan.specs.Packing.{AreHours, greatest_of, heats_in, load_in, packed_rank, pinned_in, total_of}
use Rattle.ceph_plan.specs.Shares.{IsBoundOfHour}

-- the load of an hour: the heat of all rows, and what is pinned to ranks of the set
abbrev pub load_at : ℕ → List ℕ → List ℕ → ℕ
load_at ranks heats pinned = sum_below (length heats) (slice_index heats) + total_of ranks (slice_index pinned)

abbrev pub load_in_hour : ℕ → List Hour → ℕ → ℕ
load_in_hour ranks hours h = load_at ranks (heats_in hours h) (pinned_in hours h)

-- a load is little: more than half of n loads are more than ten times as great, and so is their median
abbrev pub IsLittle : ℕ → (ℕ → ℕ) → ℕ → Type 0
IsLittle n loads load = n < 2 * count_below n (λ g. nat_lt (load * 10) (loads g))

-- hour h may be chosen by the loads of all: it is the present, or its load isn't little
abbrev pub MayBeChosen : ℕ → (ℕ → ℕ) → ℕ → Type 0
MayBeChosen n loads h = (h ≡ 0) ⊎ ¬ IsLittle n loads (loads h)

-- the places of what is marked, in their order
pub record AreMarked (marked : List Bool) (found : List ℕ) : Type 0 where
  pub inside : (k : ℕ) → k < length found → slice_index found k < length marked
  pub rises : (j k : ℕ) → j < k → k < length found → slice_index found j < slice_index found k
  pub marks : (k : ℕ) → k < length found → slice_index_or marked (slice_index found k) false ≡ true
  pub each : (h : ℕ) → h < length marked → slice_index_or marked h false ≡ true
      → (k : ℕ) × (k < length found) × (slice_index found k ≡ h)

-- hour h is one of these
abbrev pub HasHour : List ℕ → ℕ → Type 0
HasHour chosen h = (k : ℕ) × (k < length chosen) × (slice_index chosen k ≡ h)

-- the chosen hours alone
pub record AreThose (hours : List Hour) (chosen : List ℕ) (those : List Hour) : Type 0 where
  pub size : length those ≡ length chosen
  pub heats : (k : ℕ) → k < length chosen → heats_in those k ≡ heats_in hours (slice_index chosen k)
  pub pinned : (k : ℕ) → k < length chosen → pinned_in those k ≡ pinned_in hours (slice_index chosen k)

-- the plan that hours are judged by divides the directories once: into at most as many parts as are asked for, or into
-- at most 512 where any number may be
abbrev pub judged_parts : PartCount → PartCount
judged_parts (Auto most) = AtMost JUDGED_PARTS
judged_parts (AtMost parts) = AtMost parts

abbrev pub judged : Wanted → Wanted
judged wanted = record wanted { parts = judged_parts wanted.parts }

-- the plan for the chosen hours that the others are judged by: each of these counts in full
pub record IsPlanFor (ranks : ℕ) (hours : List Hour) (rows : List ProblemRow) (wanted : Wanted) (own : List OwnPins)
    (chosen : List ℕ) (found : HoursProposal) : Type 0 where
  pub those : List Hour
  pub are : AreThose hours chosen those
  pub weights : List ℕ
  pub full : (k : ℕ) → k < length chosen → slice_index weights k ≡ 100
  pub of : IsHoursProposal ranks those rows weights (judged wanted) own found

-- the load of the hottest rank in hour h, where that plan is carried out
abbrev pub hottest_in : ℕ → List Hour → List ProblemRow → HoursProposal → ℕ → ℕ
hottest_in ranks hours rows found h = greatest_of ranks
    (load_in hours (length rows)
    (packed_rank found.proposal.plan.packing.rank.items found.proposal.plan.part.items) h)

-- what no assignment of the rows to the ranks gets below, in each hour
abbrev pub AreBounds : ℕ → List Hour → (ℕ → ℕ) → Type 0
AreBounds ranks hours bounds =
    (h : ℕ) → h < length hours → IsBoundOfHour ranks (pinned_in hours h) (heats_in hours h) (bounds h)

-- hour h may be chosen, isn't yet, and is too uneven: it passes its bound by more than `keep` percent
pub record MayCome (keep : ℕ) (kept : List Bool) (bounds loads chosen : List ℕ) (h : ℕ) : Type 0 where
  pub may_be : slice_index_or kept h false ≡ true
  pub uneven : allowed keep (slice_index bounds h) < slice_index loads h
  pub new : ¬ HasHour chosen h

-- the load of hour h is greater than that of hour g, each to its bound
abbrev pub IsMoreUneven : List ℕ → List ℕ → ℕ → ℕ → Type 0
IsMoreUneven bounds loads h g = slice_index loads g * slice_index bounds h < slice_index loads h * slice_index bounds g

-- of the hours that may come, this one is the most uneven; it is how many hours there are where none may
pub record IsNextToCome (keep : ℕ) (kept : List Bool) (bounds loads chosen : List ℕ) (next : ℕ) : Type 0 where
  pub inside : next ≤ length kept
  pub comes : next < length kept → MayCome keep kept bounds loads chosen next
  pub most : next < length kept → (h : ℕ) → h < length kept → MayCome keep kept bounds loads chosen h
      → ¬ IsMoreUneven bounds loads h next
  pub none : next ≡ length kept → (h : ℕ) → h < length kept → ¬ MayCome keep kept bounds loads chosen h

-- what is known of hours by their loads: which may be chosen, what no assignment of the rows to the ranks gets below in
-- each, and the load of the hottest rank in each where a plan is carried out
pub record AreJudged (ranks : ℕ) (hours : List Hour) (rows : List ProblemRow) (plan : HoursProposal)
    (kept : List Bool) (bounds loads : List ℕ) : Type 0 where
  pub size : length kept ≡ length hours
  pub kept_are : (h : ℕ) → h < length hours → slice_index_or kept h false ≡ true
      ↔ MayBeChosen (length hours) (load_in_hour ranks hours) h
  pub bounds_are : AreBounds ranks hours (slice_index bounds)
  pub loads_are : (h : ℕ) → h < length hours → slice_index loads h ≡ hottest_in ranks hours rows plan h

-- the next hour after those chosen: with a plan for these, of all that are too uneven, the most uneven
pub record IsNextHour (ranks : ℕ) (hours : List Hour) (rows : List ProblemRow) (wanted : Wanted) (own : List OwnPins)
    (chosen : List ℕ) (next : ℕ) : Type 0 where
  pub plan : HoursProposal
  pub is : IsPlanFor ranks hours rows wanted own chosen plan
  pub kept : List Bool
  pub bounds : List ℕ
  pub loads : List ℕ
  pub judged : AreJudged ranks hours rows plan kept bounds loads
  pub next_is : IsNextToCome wanted.keep kept bounds loads chosen next

-- hours for which a plan can be made, and of which others are chosen
pub record CanChoose (ranks : ℕ) (hours : List Hour) (rows : List ProblemRow) (own : List OwnPins)
    (bounds : List ℕ) (kept : List Bool) : Type 0 where
  pub zero : has_rank ranks 0 ≡ true
  pub hours_are : AreHours hours (length rows)
  pub own_size : length own ≡ length rows
  pub some : 0 < length hours
  pub bounds_size : length bounds ≡ length hours
  pub bounds_are : AreBounds ranks hours (slice_index bounds)
  pub kept_size : length kept ≡ length hours
  pub kept_are : (h : ℕ) → h < length hours → slice_index_or kept h false ≡ true
      ↔ MayBeChosen (length hours) (load_in_hour ranks hours) h

-- begun with the present, each further hour is the next after those before it
abbrev pub AreNext : ℕ → List Hour → List ProblemRow → Wanted → List OwnPins → List ℕ → Type 0
AreNext ranks hours rows wanted own found =
    (k : ℕ) → 0 < k → k < length found → IsNextHour ranks hours rows wanted own (take k found) (slice_index found k)

-- hours that are chosen by need: as many as may be, or a plan for them leaves none too uneven
pub record AreByNeed (ranks : ℕ) (hours : List Hour) (rows : List ProblemRow) (wanted : Wanted) (own : List OwnPins)
    (most : ℕ) (found : List ℕ) : Type 0 where
  pub next : AreNext ranks hours rows wanted own found
  pub ended : (length found ≡ most) ⊎ IsNextHour ranks hours rows wanted own found (length hours)

-- the chosen hours: the present first, none twice, none with little load, at most `most`. They are all that may be
-- chosen, or chosen by need
pub record AreChosenHours (ranks : ℕ) (hours : List Hour) (rows : List ProblemRow) (wanted : Wanted)
    (own : List OwnPins) (most : ℕ) (found : List ℕ) : Type 0 where
  pub some : 0 < length found
  pub first : slice_index found 0 ≡ 0
  pub few : length found ≤ most
  pub inside : (k : ℕ) → k < length found → slice_index found k < length hours
  pub once : (j k : ℕ) → j < k → k < length found → slice_index found j ≢ slice_index found k
  pub may_be : (k : ℕ) → k < length found
      → MayBeChosen (length hours) (load_in_hour ranks hours) (slice_index found k)
  pub rule : ((h : ℕ) → h < length hours → MayBeChosen (length hours) (load_in_hour ranks hours) h → HasHour found h)
      ⊎ AreByNeed ranks hours rows wanted own most found

-- from 1 to 32 of these hours of n rows are to be chosen, and all can be counted
pub record AreForChoice (hours : List Hour) (n most : ℕ) : Type 0 where
  pub some : 0 < length hours
  pub many : 0 < most
  pub few : most ≤ HOUR_LIMIT
  pub are : AreHours hours n

-- why none are chosen: what is wrong first with the hours of n rows
abbrev pub IsChoiceFault : List Hour → ℕ → ℕ → HoursError → Type 0
IsChoiceFault hours n most hours_cause.NoHour = (length hours ≡ 0) ⊎ (most ≡ 0)
IsChoiceFault hours n most hours_cause.TooMany = (0 < length hours) × (HOUR_LIMIT < most)
IsChoiceFault hours n most hours_cause.BadWeight = ⊥
IsChoiceFault hours n most hours_cause.NotCounted =
    (0 < length hours) × (0 < most) × (most ≤ HOUR_LIMIT) × ¬ (AreHours hours n)

-- why a plan for some of the hours is refused
pub record IsSomeRefusal (ranks : ℕ) (hours : List Hour) (rows : List ProblemRow) (wanted : Wanted)
    (own : List OwnPins) (error : PlanError) : Type 0 where
  pub chosen : List ℕ
  pub those : List Hour
  pub are : AreThose hours chosen those
  pub weights : List ℕ
  pub why : IsHoursRefusal ranks those rows weights (judged wanted) own error

-- why no hours are chosen: without rank 0 there is no plan; none can be chosen; out of memory; or there is no plan for
-- some of them
abbrev pub IsChoiceRefusal : ℕ → List Hour → List ProblemRow → Wanted → List OwnPins → ℕ → PlanError → Type 0
IsChoiceRefusal ranks hours rows wanted own most error =
    ((error ≡ cause.NoRankZero) × (has_rank ranks 0 ≡ false))
    ⊎ (((fault : HoursError) × (error ≡ cause.Hours fault) × (has_rank ranks 0 ≡ true)
    × IsChoiceFault hours (length rows) most fault)
    ⊎ (AreForChoice hours (length rows) most
    × ((error ≡ cause.Memory) ⊎ IsSomeRefusal ranks hours rows wanted own error)))
