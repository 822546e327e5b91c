-- What the plan is that is taken of divisions.
use Rattle.std.proofs.Common.{◌≡◌, ◌∙◌, ◌<◌, ◌≤◌, ◌+◌, ◌*◌, ◌/◌, ℕ, zero, suc, List, [], ◌∷◌, Option, Some, inl, length, ap, arith, refl, subst, sym, ⊎_elim}
use Rattle.std.specs.List.{slice_get}
use Rattle.std.specs.Option.{option_map_or}
use Rattle.std.proofs.lemmas.Bool.{cases_lt}
use Rattle.std.specs.Prelude.{map}
use Rattle.std.proofs.lemmas.Option.{none-some, slice_get_within}
use Rattle.mds_types.specs.declared.problem.ProblemRow.{ProblemRow}
use Rattle.ceph_plan.specs.declared.hours.Hour.{Hour}
use Rattle.ceph_plan.specs.declared.choice.PartCount.{PartCount}
use Rattle.ceph_plan.specs.declared.choice.PartCount.TheVariants.{AtMost, Auto}
use Rattle.ceph_plan.specs.declared.packing.Packed.{Packed}
use Rattle.ceph_plan.specs.declared.packing.TheConstants.{TOLERANCES}
use Rattle.ceph_plan.specs.declared.plan.PackedDivision.{PackedDivision}
use Rattle.ceph_plan.specs.declared.plan.Planned.{Planned}
use Rattle.ceph_plan.specs.Balance.{allowed}
use Rattle.ceph_plan.specs.Choice.{AreCool, AreDivisions, AreTried, IsFewer, IsTaken, even_at, greatest_in, moved_in, packings_at, part_count_at}
use Rattle.ceph_plan.specs.Plans.{IsDivided, IsPlan, no_cap, planned_of}
use Rattle.ceph_plan.proofs.PackedParts.{allowed-wider}

-- a division of rows with one of its packings is a plan
plan-of : (ranks : ℕ) (hours : List Hour) (rows : List ProblemRow) (parts cap v : ℕ) (divided : PackedDivision) (packed : Packed)
    → IsDivided ranks hours rows parts cap divided
    → slice_get divided.packings.each.items v ≡ Some packed → IsPlan ranks hours rows (planned_of divided packed)
plan-of ranks hours rows parts cap v divided packed is there =
    let of = is.packings.are v packed there in
    record { forest = is.forest; size = is.size; division = is.division; packing = of.packing; balanced = of.balanced; moved = of.moved }

pub plan-taken : (ranks keep : ℕ) (hours : List Hour) (rows : List ProblemRow) (divisions : List PackedDivision) (plan : Planned)
    → AreDivisions ranks hours rows divisions
    → IsTaken keep divisions plan → IsPlan ranks hours rows plan
plan-taken ranks keep hours rows divisions plan all taken =
    let of = all taken.k taken.divided taken.at in
    subst (IsPlan ranks hours rows) (sym taken.is) (plan-of ranks hours rows of.0 of.1 taken.v taken.divided taken.packed of.2 taken.there)

only : (divided one : PackedDivision) (k : ℕ) → slice_get (divided ∷ []) k ≡ Some one → divided ≡ one
only divided one zero is = ap (λ (o : Option PackedDivision). option_map_or (λ (d : PackedDivision). d) o divided) is
only divided one (suc k) is = absurd (none-some one is)

-- what is tried are divisions of the rows, and there is one at least
tried-all : (ranks : ℕ) (hours : List Hour) (rows : List ProblemRow) (parts : PartCount) (divisions : List PackedDivision)
    → AreTried ranks hours rows parts divisions
    → AreDivisions ranks hours rows divisions × (0 < length divisions)
tried-all ranks hours rows (Auto most) divisions tried = (tried.0.all, tried.1)
tried-all ranks hours rows (AtMost parts) divisions tried =
    subst (λ (those : List PackedDivision). AreDivisions ranks hours rows those × (0 < length those)) (sym tried.only)
    ((λ k one there. (parts, no_cap, subst (IsDivided ranks hours rows parts no_cap) (only tried.divided one k there) tried.of)), omega arith)

pub divisions-tried : (ranks : ℕ) (hours : List Hour) (rows : List ProblemRow) (parts : PartCount) (divisions : List PackedDivision)
    → AreTried ranks hours rows parts divisions
    → AreDivisions ranks hours rows divisions
divisions-tried ranks hours rows parts divisions tried = (tried-all ranks hours rows parts divisions tried).0

-- the first packing, without any tolerance, is as cool as that by heat only
first-cool : (each : List Packed) → map (λ (packed : Packed). packed.packing.keep) each ≡ TOLERANCES.now
    → (packed : Packed) × (slice_get each 0 ≡ Some packed) × (packed.packing.keep ≡ 0)
first-cool [] is = let none : ⊥ = no-tolerance is in absurd none
  where
    no-tolerance : [] ≡ TOLERANCES.now → ⊥
    no-tolerance e = let none : 0 ≡ length TOLERANCES.now = ap (λ (xs : List ℕ). length xs) e in omega (arith, none)
first-cool (packed ∷ each) is = (packed, refl, ap (λ (xs : List ℕ). option_map_or (λ (k : ℕ). k) (slice_get xs 0) 0) is)

cool-division : (ranks : ℕ) (hours : List Hour) (rows : List ProblemRow) (parts cap : ℕ) (divided : PackedDivision)
    → IsDivided ranks hours rows parts cap divided
    → (v : ℕ) × (v < length divided.packings.each.items) × (greatest_in divided.packings.each.items v ≤ divided.packings.even)
cool-division ranks hours rows parts cap divided is =
    let first = first-cool divided.packings.each.items is.packings.keeps in
    let packed = is.packings.are 0 first.0 first.1 in
    let within : first.0.packing.greatest ≤ allowed first.0.packing.keep first.0.packing.even = packed.balanced.packed.within in
    let none : allowed first.0.packing.keep first.0.packing.even ≡ divided.packings.even =
    ap (λ (k : ℕ). allowed k first.0.packing.even) first.2 ∙ (zero-more first.0.packing.even ∙ packed.even_is) in
    let greatest : greatest_in divided.packings.each.items 0
    ≡ first.0.packing.greatest = ap (λ (o : Option Packed). option_map_or (λ (one : Packed). one.packing.greatest) o 0) first.1 in
    (0, slice_get_within divided.packings.each.items 0 first.0 first.1, omega (arith, within, none, greatest))
  where
    zero-more : (load : ℕ) → load + load / 100 * 0 ≡ load
    zero-more load = omega arith

pub are-cool : (ranks : ℕ) (hours : List Hour) (rows : List ProblemRow) (parts : PartCount) (divisions : List PackedDivision)
    → AreTried ranks hours rows parts divisions → AreCool divisions
are-cool ranks hours rows parts divisions tried = let all = tried-all ranks hours rows parts divisions tried in record {
  some = all.1;
  cool = λ k inside.
      let some = there divisions k inside in
      let of = all.0 k some.0 some.1 in
      subst (λ (o : Option PackedDivision). (v : ℕ) × (v < length (option_map_or (λ (one : PackedDivision). one.packings.each.items) o []))
      × (greatest_in (option_map_or (λ (one : PackedDivision). one.packings.each.items) o []) v ≤ option_map_or
      (λ (one : PackedDivision). one.packings.even) o 0)) (sym some.1)
      (cool-division ranks hours rows of.0 of.1 some.0 of.2);
}
  where
    there : (divisions : List PackedDivision) (k : ℕ) → k < length divisions → (divided : PackedDivision) × (slice_get divisions k ≡ Some divided)
    there [] k inside = let none : ⊥ = omega (arith, inside) in absurd none
    there (divided ∷ divisions) zero inside = (divided, refl)
    there (divided ∷ divisions) (suc k) inside = there divisions k (omega (arith, inside))

moved-is : (keep : ℕ) (divisions : List PackedDivision) (plan : Planned) (taken : IsTaken keep divisions plan)
    → plan.moved ≡ moved_in (packings_at divisions taken.k) taken.v
moved-is keep divisions plan taken =
    ap (λ (p : Planned). p.moved) taken.is
    ∙ (sym (ap (λ (o : Option Packed). option_map_or (λ (one : Packed). one.moved) o 0) taken.there)
    ∙ sym (ap (λ (o : Option PackedDivision). moved_in (option_map_or (λ (one : PackedDivision). one.packings.each.items) o []) taken.v) taken.at))

-- of the same divisions, a larger tolerance moves no more
pub larger-moves : (keep more : ℕ) (divisions : List PackedDivision) (plan other : Planned) → keep ≤ more → IsTaken keep divisions plan
    → IsTaken more divisions other → other.moved ≤ plan.moved
larger-moves keep more divisions plan other wider taken those =
    let moved : ℕ = moved_in (packings_at divisions taken.k) taken.v in
    let theirs : ℕ = moved_in (packings_at divisions those.k) those.v in
    let coolest : even_at divisions taken.chosen.coolest ≤ even_at divisions those.chosen.coolest = taken.chosen.least those.chosen.coolest those.chosen.has in
    let least : even_at divisions those.chosen.coolest ≤ even_at divisions taken.chosen.coolest = those.chosen.least taken.chosen.coolest taken.chosen.has in
    let same : even_at divisions taken.chosen.coolest ≡ even_at divisions those.chosen.coolest = omega (arith, coolest, least) in
    let limit : allowed keep (even_at divisions taken.chosen.coolest) ≤ allowed more (even_at divisions those.chosen.coolest) =
    subst (λ (load : ℕ). allowed keep (even_at divisions taken.chosen.coolest) ≤ allowed more load) same
    (allowed-wider keep more (even_at divisions taken.chosen.coolest) wider) in
    let within : greatest_in (packings_at divisions taken.k) taken.v ≤ allowed more (even_at divisions those.chosen.coolest) =
    omega (arith, taken.chosen.within, limit) in
    let no : ¬ IsFewer moved (part_count_at divisions taken.k) theirs (part_count_at divisions those.k) =
    those.chosen.fewest taken.k taken.v taken.chosen.place.inside taken.chosen.place.there within in
    let fewer : theirs ≤ moved = ⊎_elim (λ (less : moved < theirs). absurd (no (inl less))) (λ (le : theirs ≤ moved). le) (cases_lt moved theirs) in
    omega (arith, fewer, moved-is keep divisions plan taken, moved-is more divisions other those)

-- a place among the packings of a division
pub inside-packings : (divisions : List PackedDivision) (k v : ℕ) (divided : PackedDivision) → slice_get divisions k ≡ Some divided
    → v < length (packings_at divisions k)
    → v < length divided.packings.each.items
inside-packings divisions k v divided is inside = subst
    (λ (o : Option PackedDivision). v < length (option_map_or (λ (one : PackedDivision). one.packings.each.items) o [])) is inside
