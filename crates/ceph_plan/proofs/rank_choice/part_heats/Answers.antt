use Rattle.std.proofs.Common.{◌≡◌, ◌<◌, ◌==◌, ℕ, List, arith, get_or, length, refl, slice_index}
use Rattle.ceph_plan.proofs.HourSums.{some-more}
use Rattle.ceph_plan.proofs.PackedParts.{read-value}
use Rattle.ceph_plan.proofs.rank_choice.part_heats.Goals as goal

pub overflow_add-index_mut : goal.overflow_add-index_mut
overflow_add-index_mut c =
    let found : List ℕ = c.loop-i.found.items in
    let heats : List ℕ = c.args.heats.now in
    let i : ℕ = c.loop-i.i in
    let to : ℕ = get_or c.args.part.now i 0 in
    let inside : to < c.args.count = c.requires.below i c.loop-i-test.true in
    let read : c.index_mut.result.now ≡ get_or found to 0 =
    read-value found found to c.index_mut.result.now refl (omega (arith, inside, c.loop-i.invariant.size)) c.index_mut.ensures.value in
    omega (
      arith,
      read,
      c.loop-i.invariant.heats to inside,
      some-more (length heats) i (λ q. slice_index c.args.part.now q == to) (slice_index heats) c.loop-i-test.true,
      c.requires.total,
    )
