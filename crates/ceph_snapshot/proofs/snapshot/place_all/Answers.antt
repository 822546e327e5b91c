use Rattle.std.proofs.Common.{◌≡◌, ◌≢◌, ◌∙◌, ◌<◌, ℕ, List, Option, Some, arith, ap, length, length-set, refl, slice_get, subst, sym}
use Rattle.std.specs.Option.{option_map_or}
use Rattle.std.proofs.lemmas.Option.{slice_get_read}
use Rattle.ceph_snapshot.specs.declared.tree.Node.{Node}
use Rattle.ceph_snapshot.specs.Authority.{above_at}
use Rattle.ceph_snapshot.proofs.Placing.{at-other, placed_more}
use Rattle.ceph_snapshot.proofs.snapshot.place_all.Goals as goal

pub loop-at-preserved : goal.loop-at-preserved
loop-at-preserved c =
    let start : List Node = c.args.nodes.now.items in
    let cur : List Node = c.loop-at.nodes.items in
    let at : ℕ = c.loop-at.at in
    let d : Node = c.index_mut.result.now in
    let new : Node = c.place.new.node in
    let inside : at < length start = omega (arith, c.loop-at-test.true, c.len-at-end.ensures, c.args.nodes.now.ok.0) in
    let within : at < length cur = omega (arith, inside, c.loop-at.invariant.size) in
    let here : slice_get cur at ≡ slice_get start at = c.loop-at.invariant.rest at (omega arith) in
    let read : slice_get start at ≡ Some d = sym here ∙ slice_get_read cur (length cur) at d refl within c.index_mut.ensures.value in
    let first : slice_get start at ≡ Some c.index.result.now = sym here ∙ slice_get_read cur (length cur) at c.index.result.now refl within c.index.ensures in
    let parent : ℕ = c.index.result.now.directory.parent in
    let parent_is : parent ≡ above_at start at = sym (ap (λ (o : Option Node). option_map_or (λ (n : Node). n.directory.parent) o 0) first) in
    let low : 0 < at → parent < at = λ some. subst (λ (p : ℕ). p < at) (sym parent_is) (c.requires.first at some inside) in
    record {
      size = length-set cur at new ∙ c.loop-at.invariant.size;
      placed = placed_more start cur at parent d new c.above-now.result.0 c.above-now.result.1 c.loop-at.invariant.size inside
          (λ i some l. c.requires.first i some (omega (arith, l, inside))) c.loop-at.invariant.placed read parent_is low
          (rw c.deref.ensures.value at c.above-now.ensures.rank) (rw c.deref.ensures.value at c.above-now.ensures.torn) c.place.ensures;
      rest = λ i later. at-other cur at i new (let apart : i ≢ at = λ same. absurd (omega (arith, later, same)) in apart)
          ∙ c.loop-at.invariant.rest i (omega (arith, later));
    }
