-- Plans that may be taken, and which of them is.
use Rattle.std.specs.Prelude.{◌≡◌, ◌≢◌, ◌==◌, ◌<◌, ◌≤◌, ◌⊎◌, ◌++◌, ◌∷◌, ◌↔◌, [], ℕ, Bool, List, None, Some, length}
use Rattle.std.specs.Prelude.{IsTrue, false, slice_get, slice_index, true, if◌then◌else◌}
use Rattle.std.specs.Option.{option_map_or}
use Rattle.mds_types.specs.declared.problem.ProblemRow.{ProblemRow}
use Rattle.mds_types.specs.Problem as problem
use Rattle.mds_types.specs.RankSet.{has_rank}
use Rattle.mds_types.specs.Sums.{sum_below}
use Rattle.ceph_plan.specs.declared.hours.Hour.{Hour}
use Rattle.ceph_plan.specs.Asked.{ArePinRows, own_at}
use Rattle.ceph_plan.specs.Packing.{packed_rank}
use Rattle.ceph_plan.specs.Placements.{IsPlacement}
use Rattle.ceph_plan.specs.Rule.{ArePinsFor, AreRows}
use Rattle.ceph_plan.specs.declared.candidate.Candidate.{Candidate}
use Rattle.ceph_plan.specs.declared.proposal.OwnPins.{OwnPins}
use Rattle.ceph_plan.specs.declared.choice.PartCount.{PartCount}
use Rattle.ceph_plan.specs.declared.choice.Wanted.{Wanted}
use Rattle.ceph_plan.specs.declared.choice.PartCount.TheVariants.{AtMost, Auto}
use Rattle.ceph_plan.specs.declared.plan.Planned.{Planned}
use Rattle.ceph_plan.specs.declared.plan_error.PlanError.{PlanError}
use Rattle.ceph_plan.specs.declared.plan_error.PlanError.TheVariants as cause
use Rattle.ceph_plan.specs.declared.row.Pin.{Pin}

-- the heat of the first n rows that go to another rank than the one that has them
abbrev pub moved_heat : List ProblemRow → List ℕ → List ℕ → ℕ → ℕ
moved_heat rows part rank n =
    sum_below n (λ i. if packed_rank rank part i == problem.now_at rows i then 0 else problem.heat_at rows i)

-- each of the first n rows that is to be left goes to the rank that has it
abbrev pub AreLeft : List ProblemRow → List OwnPins → List ℕ → List ℕ → ℕ → Type 0
AreLeft rows own part rank n =
    (i : ℕ) → i < n → (own_at own i).is_left ≡ true → packed_rank rank part i ≡ problem.now_at rows i

-- a plan of these rows with what it costs: what is asked of each row, how many pins of ours put the rows there, the
-- heat that moves, and whether all that is to be left is
pub record IsCandidate (ranks : ℕ) (hours : List Hour) (rows : List ProblemRow) (own : List OwnPins) (rests : Bool)
    (one : Candidate) : Type 0 where
  pub placed : IsPlacement ranks hours rows one.plan
  pub asked : ArePinRows rows one.plan.part.items one.plan.packing.rank.items own (length rows) rests one.rows.items
  pub rows_are : AreRows one.rows.items
  pub pins : List Pin
  pub are : ArePinsFor one.rows.items pins
  pub count : one.pins ≡ length pins
  pub heat : one.heat ≡ moved_heat rows one.plan.part.items one.plan.packing.rank.items (length rows)
  pub left : IsTrue one.keeps_left ↔ AreLeft rows own one.plan.part.items one.plan.packing.rank.items (length rows)

-- why there is none: out of memory, or the root has a pin that is to stay
abbrev pub IsCandidateRefusal : List OwnPins → PlanError → Type 0
IsCandidateRefusal own error =
    (error ≡ cause.Memory) ⊎ ((error ≡ cause.PinnedRoot) × ((own_at own 0).foreign ≡ None → ⊥))

-- the plan leaves each row below the root where it is, if that is at a rank of the set
abbrev pub IsPresent : ℕ → List ProblemRow → Planned → Type 0
IsPresent ranks rows plan =
    (i : ℕ) → 0 < i → i < length rows → has_rank ranks (problem.now_at rows i) ≡ true
    → packed_rank plan.packing.rank.items plan.part.items i ≡ problem.now_at rows i

-- row i goes to another rank than the one that has it
abbrev pub Leaves : List ProblemRow → List ℕ → List ℕ → ℕ → Type 0
Leaves rows part rank i = packed_rank rank part i ≢ problem.now_at rows i

-- in the part of number p a row of the first n with heat goes to another rank
abbrev pub HasLeaving : List ProblemRow → List ℕ → List ℕ → ℕ → ℕ → Type 0
HasLeaving rows part rank n p =
    (j : ℕ) × (j < n) × Leaves rows part rank j × (0 < problem.heat_at rows j) × (slice_index part j ≡ p)

-- what is cold stays: a row at a rank of the set goes to another one only where heat does so in the same part, which is
-- connected
abbrev pub ColdStays : ℕ → List ProblemRow → List ℕ → List ℕ → ℕ → Type 0
ColdStays ranks rows part rank n =
    (i : ℕ) → i < n → has_rank ranks (problem.now_at rows i) ≡ true → Leaves rows part rank i
    → HasLeaving rows part rank (length rows) (slice_index part i)

-- plans of these rows: the first is the present placement, and in the others what is cold stays
pub record AreBegun (ranks : ℕ) (hours : List Hour) (rows : List ProblemRow) (own : List OwnPins) (rests : Bool)
    (candidates : List Candidate) : Type 0 where
  pub each : (v : ℕ) (one : Candidate) → slice_get candidates v ≡ Some one
      → IsCandidate ranks hours rows own rests one
  pub present : (one : Candidate) × (slice_get candidates 0 ≡ Some one) × IsPresent ranks rows one.plan
  pub cold : (v : ℕ) (one : Candidate) → 0 < v → slice_get candidates v ≡ Some one
      → ColdStays ranks rows one.plan.part.items one.plan.packing.rank.items (length rows)

-- these, and one that is divided anew
pub record AreCandidates (ranks : ℕ) (hours : List Hour) (rows : List ProblemRow) (own : List OwnPins) (rests : Bool)
    (divided : Planned) (candidates : List Candidate) : Type 0 where
  pub first : List Candidate
  pub begun : AreBegun ranks hours rows own rests first
  pub last : Candidate
  pub of : IsCandidate ranks hours rows own rests last
  pub anew : last.plan ≡ divided
  pub are : candidates ≡ first ++ last ∷ []

-- of candidate v: its greatest load, the inodes and the heat that move, its pins and its parts
abbrev pub greatest_at : List Candidate → ℕ → ℕ
greatest_at candidates v = option_map_or (λ (one : Candidate). one.plan.packing.greatest) (slice_get candidates v) 0

abbrev pub moves_at : List Candidate → ℕ → ℕ
moves_at candidates v = option_map_or (λ (one : Candidate). one.plan.moved) (slice_get candidates v) 0

abbrev pub heats_at : List Candidate → ℕ → ℕ
heats_at candidates v = option_map_or (λ (one : Candidate). one.heat) (slice_get candidates v) 0

abbrev pub pins_at : List Candidate → ℕ → ℕ
pins_at candidates v = option_map_or (λ (one : Candidate). one.pins) (slice_get candidates v) 0

abbrev pub parts_at : List Candidate → ℕ → ℕ
parts_at candidates v = option_map_or (λ (one : Candidate). one.plan.count) (slice_get candidates v) 0

-- no more pins of ours than may be, or no more parts than are asked for
abbrev pub HasFewPins : PartCount → List Candidate → ℕ → Type 0
HasFewPins (Auto most) candidates v = pins_at candidates v ≤ most
HasFewPins (AtMost parts) candidates v = parts_at candidates v ≤ parts

-- whether candidate v leaves each row that is to be left where it is
abbrev pub keeps_at : List Candidate → ℕ → Bool
keeps_at candidates v = option_map_or (λ (one : Candidate). one.keeps_left) (slice_get candidates v) false

-- candidate v may be taken: it has few enough pins, no more inodes move than are wanted, and what is to be left is
abbrev pub IsAllowed : Wanted → List Candidate → ℕ → Type 0
IsAllowed wanted candidates v =
    HasFewPins wanted.parts candidates v × (moves_at candidates v ≤ wanted.most_inodes) × IsTrue (keeps_at candidates v)

-- fewer inodes move, or as few with less heat
abbrev pub IsCheaperAt : List Candidate → ℕ → ℕ → Type 0
IsCheaperAt candidates v w =
    (moves_at candidates v < moves_at candidates w)
    ⊎ ((moves_at candidates v ≡ moves_at candidates w) × (heats_at candidates v < heats_at candidates w))

-- candidate k is taken. Where some may be taken, it may, and is within the limit if one of them is. Of those that are,
-- none is cheaper, and the first of the cheapest is taken; where none of them is within it, none is cooler
pub record IsPicked (limit : ℕ) (wanted : Wanted) (candidates : List Candidate) (k : ℕ) : Type 0 where
  pub allowed : (v : ℕ) → v < length candidates → IsAllowed wanted candidates v → IsAllowed wanted candidates k
  pub cool : (v : ℕ) → v < length candidates → IsAllowed wanted candidates v
      → (greatest_at candidates k ≤ limit) ⊎ (greatest_at candidates k ≤ greatest_at candidates v)
  pub cheapest : (v : ℕ) → v < length candidates → greatest_at candidates v ≤ limit → IsAllowed wanted candidates v
      → ¬ IsCheaperAt candidates v k
  pub first : (v : ℕ) → v < k → greatest_at candidates v ≤ limit → IsAllowed wanted candidates v
      → IsCheaperAt candidates k v

-- each row is at a rank of the set, and the root at rank 0
pub record CanStay (ranks : ℕ) (rows : List ProblemRow) : Type 0 where
  pub root : problem.now_at rows 0 ≡ 0
  pub usable : (i : ℕ) → i < length rows → has_rank ranks (problem.now_at rows i) ≡ true

-- the plan has each row where it is
pub record Stays (rows : List ProblemRow) (plan : Planned) : Type 0 where
  pub moved : plan.moved ≡ 0
  pub at : (i : ℕ) → i < length rows
      → packed_rank plan.packing.rank.items plan.part.items i ≡ problem.now_at rows i
