use Rattle.std.proofs.Common.{◌≡◌, ◌≢◌, ◌∙◌, ◌<◌, ℕ, List, Some, ap, arith, length, refl, slice_get, sym}
use Rattle.std.proofs.lemmas.Option.{slice_get_read}
use Rattle.ceph_dumps.specs.declared.loads.FragmentHeat.{FragmentHeat}
use Rattle.ceph_snapshot.specs.Mounts.{mounted_heat}
use Rattle.ceph_snapshot.specs.Sightings.{of_fragment}
use Rattle.ceph_snapshot.proofs.Listed.{all_named, named_more}
use Rattle.ceph_snapshot.proofs.Placing.{at-other}
use Rattle.ceph_snapshot.proofs.mounted.Mounted.name_fragments.Goals as goal

pub loop-at-preserved : goal.loop-at-preserved
loop-at-preserved c =
    let start : List FragmentHeat = c.args.fragments.now in
    let cur : List FragmentHeat = c.loop-at.fragments in
    let at : ℕ = c.loop-at.at in
    let old : FragmentHeat = c.index-fragments-at.result in
    let new : FragmentHeat = c.name_fragment.new.fragment in
    let inside : at < length cur = omega (arith, c.loop-at-test.true) in
    let read : slice_get start at ≡ Some old =
    sym (c.loop-at.invariant.rest at (omega arith)) ∙ slice_get_read cur (length cur) at old refl inside c.index-fragments-at.is in
    let named : (rank : ℕ) → of_fragment rank new ≡ mounted_heat c.args.self.now (of_fragment rank old) = λ rank.
    c.in_ok-name_fragment.ensures rank ∙ ap (λ (f : FragmentHeat). mounted_heat c.args.self.now (of_fragment rank f)) (sym c.index-fragments-at.is) in
    record {
      named = λ rank i l.
          named_more (of_fragment rank) (λ f. mounted_heat c.args.self.now (of_fragment rank f)) start cur at old new inside read
          (named rank) (c.loop-at.invariant.named rank) i l;
      rest = λ i later.
          let apart : i ≢ at = λ same. absurd (omega (arith, later, same)) in
          at-other cur at i new apart ∙ c.loop-at.invariant.rest i (omega (arith, later));
    }

pub returns : goal.returns
returns c = λ rank i.
    all_named (of_fragment rank) (λ f. mounted_heat c.args.self.now (of_fragment rank f)) c.args.fragments.now c.loop-at.fragments
    c.loop-at.at (omega (arith, c.loop-at-test.false)) (c.loop-at.invariant.named rank) c.loop-at.invariant.rest i
