use Rattle.std.proofs.Common.{◌≡◌, ◌<◌, ℕ, List, Some, length, refl, subst, sym}
use Rattle.std.proofs.lemmas.Option.{slice_get_read}
use Rattle.std.specs.List.{slice_get}
use Rattle.ceph_plan.specs.declared.packing.Packed.{Packed}
use Rattle.ceph_plan.specs.declared.plan.PackedDivision.{PackedDivision}
use Rattle.ceph_plan.specs.Choice.{AreCool, IsChosen}
use Rattle.ceph_plan.proofs.Taken.{inside-packings}
use Rattle.ceph_plan.proofs.choice.taken.Goals as goal

pub chosen-at-requires : goal.chosen-at-requires
chosen-at-requires c = subst AreCool (sym c.deref.ensures.value) c.requires

pub swap_remove-packed-requires : goal.swap_remove-packed-requires
swap_remove-packed-requires c =
    let divisions : List PackedDivision = c.args.divisions.items in
    let divided : PackedDivision = c.swap_remove-divided.result in
    let k : ℕ = c.chosen-at.result.0 in
    let v : ℕ = c.chosen-at.result.1 in
    let chosen : IsChosen c.args.keep divisions k v = subst (λ (those : List PackedDivision). IsChosen c.args.keep those k v)
    c.deref.ensures.value c.chosen-at.ensures in
    let at : slice_get divisions k ≡ Some divided = slice_get_read divisions (length divisions) k divided refl chosen.place.inside
    c.swap_remove-divided.ensures.value in
    subst (λ (n : ℕ). v < n) (sym divided.packings.each.ok.0) (inside-packings divisions k v divided at chosen.place.there)

pub returns : goal.returns
returns c =
    let divisions : List PackedDivision = c.args.divisions.items in
    let divided : PackedDivision = c.swap_remove-divided.result in
    let packed : Packed = c.swap_remove-packed.result in
    let k : ℕ = c.chosen-at.result.0 in
    let v : ℕ = c.chosen-at.result.1 in
    let chosen : IsChosen c.args.keep divisions k v = subst (λ (those : List PackedDivision). IsChosen c.args.keep those k v)
    c.deref.ensures.value c.chosen-at.ensures in
    let at : slice_get divisions k ≡ Some divided = slice_get_read divisions (length divisions) k divided refl chosen.place.inside
    c.swap_remove-divided.ensures.value in
    let packings : List Packed = divided.packings.each.items in
    record {
      k = k;
      v = v;
      chosen = chosen;
      divided = divided;
      packed = packed;
      at = at;
      there = slice_get_read packings (length packings) v packed refl (inside-packings divisions k v divided at chosen.place.there)
          c.swap_remove-packed.ensures.value;
      is = refl;
    }
