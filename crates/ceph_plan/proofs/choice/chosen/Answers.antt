use Rattle.std.proofs.Common.{◌<◌, ◌≤◌, ◌*◌, ◌/◌, ℕ, List, arith, length, subst}
use Rattle.std.proofs.Math.Nat.{le-add_right}
use Rattle.ceph_plan.specs.declared.packing.Packed.{Packed}
use Rattle.ceph_plan.specs.declared.plan.PackedDivision.{PackedDivision}
use Rattle.ceph_plan.specs.Choice.{even_at, greatest_in, moved_in, packings_at}
use Rattle.ceph_plan.proofs.choice.chosen.Goals as goal

pub loop-at-init : goal.loop-at-init
loop-at-init c =
    let divisions : List PackedDivision = c.args.divisions.now in
    let first : ℕ = c.coolest-first.result in
    let packings : List Packed = packings_at divisions first in
    let place : ℕ = c.fewest_within-place.result in
    let limit : ℕ = c.limit_of-limit.result in
    let even : ℕ = even_at divisions first in
    let cool = c.requires.cool first c.coolest-first.ensures.inside in
    let more : even ≤ limit = omega (arith, c.limit_of-limit.ensures, le-add_right even (even / 100 * c.args.keep)) in
    let low : greatest_in packings cool.0 ≤ limit = omega (arith, cool.2, more) in
    let within : place < length packings → greatest_in packings place ≤ limit =
    subst (λ (xs : List Packed). place < length xs → greatest_in xs place ≤ limit) c.packings_of.ensures c.fewest_within-place.ensures.within in
    let fewest : (v : ℕ) → v < length packings → greatest_in packings v ≤ limit → (place < length packings) × (moved_in packings place ≤ moved_in packings v) =
    subst (λ (xs : List Packed). (v : ℕ) → v < length xs → greatest_in xs v ≤ limit → (place < length xs) × (moved_in xs place ≤ moved_in xs v))
    c.packings_of.ensures c.fewest_within-place.ensures.fewest in
    let there : place < length packings = (fewest cool.0 cool.1 low).0 in
    record {
      place = record { inside = c.coolest-first.ensures.inside; there = there };
      within = within there;
      fewest = λ j w l. let none : ⊥ = omega (arith, l) in absurd none;
    }
