-- Which plan is taken of several divisions, each with several packings.
use Rattle.std.specs.Prelude.{◌≡◌, ◌<◌, ◌≤◌, ◌+◌, ◌/◌, ◌⊎◌, ℕ, Bool, true, List, [], ◌∷◌}
use Rattle.std.specs.Prelude.{Some, length, max, nat_lt, slice_get, if◌then◌else◌}
use Rattle.std.specs.Option.{option_map_or}
use Rattle.mds_types.specs.declared.problem.ProblemRow.{ProblemRow}
use Rattle.mds_types.specs.Problem.{heat_at}
use Rattle.mds_types.specs.RankSet.{rank_count}
use Rattle.mds_types.specs.Sums.{sum_below}
use Rattle.ceph_plan.specs.declared.hours.Hour.{Hour}
use Rattle.ceph_plan.specs.declared.choice.PartCount.{PartCount}
use Rattle.ceph_plan.specs.declared.choice.PartCount.TheVariants.{AtMost, Auto}
use Rattle.ceph_plan.specs.declared.choice.Wanted.{Wanted}
use Rattle.ceph_plan.specs.declared.packing.Packed.{Packed}
use Rattle.ceph_plan.specs.declared.plan.PackedDivision.{PackedDivision}
use Rattle.ceph_plan.specs.declared.plan.Planned.{Planned}
use Rattle.ceph_plan.specs.declared.plan.Size.{Size}
use Rattle.ceph_plan.specs.Balance.{allowed}
use Rattle.ceph_plan.specs.Plans.{IsDivided, IsPlan, no_cap, planned_of}
use Rattle.ceph_plan.specs.Refusals.{IsPlannable}

-- of division k: the greatest load of its parts packed by heat only, how many parts it has, and its packings
abbrev pub even_at : List PackedDivision → ℕ → ℕ
even_at divisions k = option_map_or (λ (one : PackedDivision). one.packings.even) (slice_get divisions k) 0

abbrev pub part_count_at : List PackedDivision → ℕ → ℕ
part_count_at divisions k = option_map_or (λ (one : PackedDivision). one.count) (slice_get divisions k) 0

abbrev pub packings_at : List PackedDivision → ℕ → List Packed
packings_at divisions k = option_map_or (λ (one : PackedDivision). one.packings.each.items) (slice_get divisions k) []

-- of packing v: its greatest load, and the inodes that it moves
abbrev pub greatest_in : List Packed → ℕ → ℕ
greatest_in packings v = option_map_or (λ (one : Packed). one.packing.greatest) (slice_get packings v) 0

abbrev pub moved_in : List Packed → ℕ → ℕ
moved_in packings v = option_map_or (λ (one : Packed). one.moved) (slice_get packings v) 0

-- there is a division, and each has a packing that is as cool as that by heat only
pub record AreCool (divisions : List PackedDivision) : Type 0 where
  pub some : 0 < length divisions
  pub cool : (k : ℕ) → k < length divisions → (v : ℕ) × (v < length (packings_at divisions k))
      × (greatest_in (packings_at divisions k) v ≤ even_at divisions k)

-- packing v is one of division k
pub record IsPlace (divisions : List PackedDivision) (k v : ℕ) : Type 0 where
  pub inside : k < length divisions
  pub there : v < length (packings_at divisions k)

-- fewer inodes move, or as few with fewer parts
abbrev pub IsFewer : ℕ → ℕ → ℕ → ℕ → Type 0
IsFewer moved count other others = (moved < other) ⊎ ((moved ≡ other) × (count < others))

-- packing v of division k is chosen: its greatest load is at most `keep` percent above that of the coolest packing by
-- heat only, of all divisions, and none that is as cool moves fewer inodes, or as few with fewer parts
pub record IsChosen (keep : ℕ) (divisions : List PackedDivision) (k v : ℕ) : Type 0 where
  pub place : IsPlace divisions k v
  pub coolest : ℕ
  pub has : coolest < length divisions
  pub least : (j : ℕ) → j < length divisions → even_at divisions coolest ≤ even_at divisions j
  pub within : greatest_in (packings_at divisions k) v ≤ allowed keep (even_at divisions coolest)
  pub fewest : (j w : ℕ) → j < length divisions → w < length (packings_at divisions j)
      → greatest_in (packings_at divisions j) w ≤ allowed keep (even_at divisions coolest)
      → ¬ IsFewer (moved_in (packings_at divisions j) w) (part_count_at divisions j)
      (moved_in (packings_at divisions k) v) (part_count_at divisions k)

-- the plan is a division with one of its packings, which is chosen
pub record IsTaken (keep : ℕ) (divisions : List PackedDivision) (plan : Planned) : Type 0 where
  pub k : ℕ
  pub v : ℕ
  pub chosen : IsChosen keep divisions k v
  pub divided : PackedDivision
  pub packed : Packed
  pub at : slice_get divisions k ≡ Some divided
  pub there : slice_get divided.packings.each.items v ≡ Some packed
  pub is : plan ≡ planned_of divided packed

-- a fair share of the heat among the parts, at least 1
abbrev pub fair_share : ℕ → ℕ → ℕ
fair_share heat parts = max (heat / parts) 1

-- how finely rows are divided into `parts` parts: once one row is as hot as the hottest part, rows are capped at a
-- fair share
abbrev pub size_of : ℕ → ℕ → Bool → Size
size_of heat parts is_heavy = record { parts = parts; cap = if is_heavy then fair_share heat parts else no_cap }

-- up to 64 parts each number is tried, and then numbers that grow by a quarter: how many are passed over after this one
abbrev pub gap : ℕ → ℕ
gap parts = if nat_lt parts 64 then 0 else parts / 4

abbrev pub total_of_rows : List ProblemRow → ℕ
total_of_rows rows = sum_below (length rows) (heat_at rows)

-- one of the divisions is into at most `parts` parts, with rows capped at `cap`
pub record HasDivision (ranks : ℕ) (hours : List Hour) (rows : List ProblemRow) (divisions : List PackedDivision)
    (parts cap : ℕ) : Type 0 where
  pub k : ℕ
  pub divided : PackedDivision
  pub there : slice_get divisions k ≡ Some divided
  pub of : IsDivided ranks hours rows parts cap divided

-- one of the divisions is into fewer parts, and one row is as hot as its hottest part: more parts change nothing
pub record HasHeavyDivision (ranks : ℕ) (hours : List Hour) (rows : List ProblemRow) (divisions : List PackedDivision)
    (parts : ℕ) : Type 0 where
  pub fewer : ℕ
  pub less : fewer < parts
  pub k : ℕ
  pub divided : PackedDivision
  pub there : slice_get divisions k ≡ Some divided
  pub of : IsDivided ranks hours rows fewer no_cap divided
  pub heavy : divided.is_heavy ≡ true

-- a number of parts is tried: one of the divisions is into at most that many. Where one row was as hot as the hottest
-- part before, rows are capped at a fair share
abbrev pub IsTriedCount : ℕ → List Hour → List ProblemRow → List PackedDivision → ℕ → Type 0
IsTriedCount ranks hours rows divisions parts =
    HasDivision ranks hours rows divisions parts no_cap
    ⊎ (HasHeavyDivision ranks hours rows divisions parts
    × HasDivision ranks hours rows divisions parts (fair_share (total_of_rows rows) parts))

-- a number of parts is tried, or one below it with no more than the gap between
pub record IsWeighed (ranks : ℕ) (hours : List Hour) (rows : List ProblemRow) (divisions : List PackedDivision)
    (parts : ℕ) : Type 0 where
  pub tried : ℕ
  pub low : tried ≤ parts
  pub near : parts ≤ tried + gap tried
  pub of : IsTriedCount ranks hours rows divisions tried

-- each is a division of the rows
abbrev pub AreDivisions : ℕ → List Hour → List ProblemRow → List PackedDivision → Type 0
AreDivisions ranks hours rows divisions =
    (k : ℕ) (divided : PackedDivision) → slice_get divisions k ≡ Some divided
    → (parts : ℕ) × (cap : ℕ) × IsDivided ranks hours rows parts cap divided

-- every number of parts below n, from that of the ranks on, is weighed
pub record AreWeighed (ranks : ℕ) (hours : List Hour) (rows : List ProblemRow) (divisions : List PackedDivision)
    (n : ℕ) : Type 0 where
  pub all : AreDivisions ranks hours rows divisions
  pub each : (parts : ℕ) → rank_count ranks ≤ parts → parts < n → IsWeighed ranks hours rows divisions parts

-- there is one division, into at most `parts` parts
pub record IsDividedOnce (ranks : ℕ) (hours : List Hour) (rows : List ProblemRow) (parts : ℕ)
    (divisions : List PackedDivision) : Type 0 where
  pub divided : PackedDivision
  pub only : divisions ≡ divided ∷ []
  pub of : IsDivided ranks hours rows parts no_cap divided

-- the divisions that are tried: into numbers of parts up to the most, with the last, or into the number that is asked
-- for
abbrev pub AreTried : ℕ → List Hour → List ProblemRow → PartCount → List PackedDivision → Type 0
AreTried ranks hours rows (Auto most) divisions =
    AreWeighed ranks hours rows divisions (max most (rank_count ranks) + 1) × (0 < length divisions)
    × IsTriedCount ranks hours rows divisions (max most (rank_count ranks))
AreTried ranks hours rows (AtMost parts) divisions = IsDividedOnce ranks hours rows parts divisions

-- what is planned: rows that can be, and a plan of them, which is taken of all that are tried
pub record IsPlanChoice (ranks : ℕ) (hours : List Hour) (rows : List ProblemRow) (wanted : Wanted)
    (found : Planned) : Type 0 where
  pub plannable : IsPlannable ranks hours rows
  pub plan : IsPlan ranks hours rows found
  pub divisions : List PackedDivision
  pub tried : AreTried ranks hours rows wanted.parts divisions
  pub taken : IsTaken wanted.keep divisions found

-- a load that passes by at most `keep` percent the greatest load of the coolest packing by heat only, of all divisions
pub record IsLimit (keep : ℕ) (divisions : List PackedDivision) (limit : ℕ) : Type 0 where
  pub coolest : ℕ
  pub has : coolest < length divisions
  pub least : (j : ℕ) → j < length divisions → even_at divisions coolest ≤ even_at divisions j
  pub is : limit ≡ allowed keep (even_at divisions coolest)

-- what is planned, and the limit that it is within
pub record IsLimitedChoice (ranks : ℕ) (hours : List Hour) (rows : List ProblemRow) (wanted : Wanted) (limit : ℕ)
    (found : Planned) : Type 0 where
  pub choice : IsPlanChoice ranks hours rows wanted found
  pub limit_is : IsLimit wanted.keep choice.divisions limit
