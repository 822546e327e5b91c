-- What is within the tolerance of a bound of all assignments is within the limit of a plan.
use Rattle.std.proofs.Common.{◌≡◌, ◌∙◌, ◌<◌, ◌≤◌, ◌*◌, ◌/◌, ℕ, zero, suc, List, [], ◌∷◌, Option, Some, ap, arith, length, refl, slice_index, sym}
use Rattle.std.specs.List.{slice_get}
use Rattle.std.specs.Option.{option_map_or}
use Rattle.std.proofs.Math.Nat.{le_trans, mul-le-mul_left}
use Rattle.mds_types.specs.declared.problem.ProblemRow.{ProblemRow}
use Rattle.mds_types.proofs.SumsLemmas.{max_below-term}
use Rattle.ceph_plan.specs.declared.hours.Hour.{Hour}
use Rattle.ceph_plan.specs.declared.choice.Wanted.{Wanted}
use Rattle.ceph_plan.specs.declared.packing.Packed.{Packed}
use Rattle.ceph_plan.specs.declared.packing.Packing.{Packing}
use Rattle.ceph_plan.specs.declared.plan.PackedDivision.{PackedDivision}
use Rattle.ceph_plan.specs.declared.plan.Planned.{Planned}
use Rattle.ceph_plan.specs.Balance.{IsPackedEvenly, allowed, greatest_by, load_of_parts}
use Rattle.ceph_plan.specs.Choice.{AreCool, IsLimit, IsPlanChoice, even_at}
use Rattle.ceph_plan.specs.Packing.{IsBoundOf, greatest_load, greatest_of, heat_in, load, load_in, packed_rank, pinned_in}
use Rattle.ceph_plan.proofs.Bounds.{greatest-le, greatest-same, greatest-term}
use Rattle.ceph_plan.proofs.PartSums.{load-parts}
use Rattle.ceph_plan.proofs.Taken.{are-cool, divisions-tried, inside-packings}

-- no packing by heat only is cooler than a bound in some hour
bound-even : (ranks : ℕ) (hours : List Hour) (rows : List ProblemRow) (part : List ℕ) (count h bound : ℕ) (packing : Packing)
    → ((i : ℕ) → i < length rows → slice_index part i < count) → IsPackedEvenly ranks hours rows part count packing → h < length hours
    → IsBoundOf ranks (pinned_in hours h) (length rows) (heat_in hours h) bound
    → bound ≤ packing.even
bound-even ranks hours rows part count h bound packing below is inside lower =
    let to : ℕ → ℕ = packed_rank is.even part in
    let least : bound ≤ greatest_of ranks (load_in hours (length rows) to h) =
    lower to (λ i l. is.by_heat.evened.ranks_are.usable (slice_index part i) (omega (arith, is.size, below i l))) in
    let worse : greatest_of ranks (load_in hours (length rows) to h) ≤ greatest_load ranks hours (length rows) to =
    greatest-le ranks (greatest_load ranks hours (length rows) to) (load_in hours (length rows) to h) (λ r has.
    le_trans (max_below-term (length hours) h (λ k. load_in hours (length rows) to k r) inside) (greatest-term ranks r (load hours (length rows) to) has)) in
    let same : greatest_load ranks hours (length rows) to ≡ greatest_by ranks is.parts is.heats is.even =
    greatest-same ranks (load hours (length rows) to) (load_of_parts is.parts is.heats is.even)
    (λ r l. load-parts hours is.parts part is.heats is.even (length rows) count r is.size below is.parts_are) in
    omega (arith, least, worse, same, is.packed.coolest)

some-division : (divisions : List PackedDivision) (k : ℕ) → k < length divisions → (divided : PackedDivision) × (slice_get divisions k ≡ Some divided)
some-division [] k inside = absurd (omega (arith, inside))
some-division (divided ∷ divisions) zero inside = (divided, refl)
some-division (divided ∷ divisions) (suc k) inside = some-division divisions k (omega (arith, inside))

some-packed : (each : List Packed) (v : ℕ) → v < length each → (packed : Packed) × (slice_get each v ≡ Some packed)
some-packed [] v inside = absurd (omega (arith, inside))
some-packed (packed ∷ each) zero inside = (packed, refl)
some-packed (packed ∷ each) (suc v) inside = some-packed each v (omega (arith, inside))

allowed-more : (keep low high : ℕ) → low ≤ high → allowed keep low ≤ allowed keep high
allowed-more keep low high le =
    let parts : low / 100 ≤ high / 100 = omega (arith, le) in
    let times : keep * (low / 100) ≤ keep * (high / 100) = mul-le-mul_left keep parts in
    omega (arith, le, times)

pub near-bound : (ranks : ℕ) (hours : List Hour) (rows : List ProblemRow) (wanted : Wanted) (limit h bound load : ℕ) (divided : Planned)
    (choice : IsPlanChoice ranks hours rows wanted divided)
    → IsLimit wanted.keep choice.divisions limit → h < length hours
    → IsBoundOf ranks (pinned_in hours h) (length rows) (heat_in hours h) bound → load ≤ allowed wanted.keep bound → load ≤ limit
near-bound ranks hours rows wanted limit h bound load divided choice limit_is inside lower near =
    let divisions : List PackedDivision = choice.divisions in
    let cool : AreCool divisions = are-cool ranks hours rows wanted.parts divisions choice.tried in
    let k : ℕ = limit_is.coolest in
    let one = some-division divisions k limit_is.has in
    let of = divisions-tried ranks hours rows wanted.parts divisions choice.tried k one.0 one.1 in
    let there = cool.cool k limit_is.has in
    let packed = some-packed one.0.packings.each.items there.0 (inside-packings divisions k there.0 one.0 one.1 there.1) in
    let is = of.2.packings.are there.0 packed.0 packed.1 in
    let even : even_at divisions k ≡ packed.0.packing.even =
    ap (λ (o : Option PackedDivision). option_map_or (λ (d : PackedDivision). d.packings.even) o 0) one.1 ∙ sym is.even_is in
    let least : bound ≤ packed.0.packing.even =
    bound-even ranks hours rows one.0.part.items one.0.count h bound packed.0.packing of.2.division.below is.balanced inside lower in
    let more : allowed wanted.keep bound ≤ allowed wanted.keep (even_at divisions k) =
    allowed-more wanted.keep bound (even_at divisions k) (omega (arith, least, even)) in
    omega (arith, near, more, limit_is.is)
