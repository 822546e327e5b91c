use Rattle.std.proofs.Common.{◌≡◌, ◌+◌, ◌*◌, ◌++◌, ◌∷◌, ◌∙◌, [], ℕ, suc, List, ap, arith, length, refl, slice_index, subst, sym, take}
use Rattle.std.proofs.Math.Seq.{take-length, take-suc}
use Rattle.mds_types.specs.declared.problem.ProblemRow.{ProblemRow}
use Rattle.ceph_plan.specs.declared.hours.Hour.{Hour}
use Rattle.ceph_plan.specs.declared.packing.Packed.{Packed}
use Rattle.ceph_plan.specs.declared.packing.Packing.{Packing}
use Rattle.ceph_plan.specs.declared.packing.TheConstants.{TOLERANCES}
use Rattle.ceph_plan.specs.Balance.{AreGreatest, ArePartHours, IsByHeat, IsEvenPacking, IsPartsPacking}
use Rattle.ceph_plan.specs.Packing.{AreHours, HaveParts}
use Rattle.ceph_plan.specs.Plans.{moved_inodes}
use Rattle.ceph_plan.proofs.PackedRows.{AreOfParts, AreSoFar, packed-evenly, packed-rows, packings-more, parts-same}
use Rattle.ceph_plan.proofs.PartSums.{hours-parts}
use Rattle.ceph_plan.proofs.HourSums.{row-hours}
use Rattle.ceph_plan.proofs.packing.pack.Goals as goal

pub part_hours-requires-clause-hours : goal.part_hours-requires-clause-hours
part_hours-requires-clause-hours c =
    subst (AreHours c.args.hours.now) (sym c.requires.parts.size)
    (row-hours c.args.rows.now c.args.hours.now c.requires.parts.forest c.requires.heats c.requires.able.held)

pub invariant_of-parts : goal.invariant_of-parts
invariant_of-parts c =
    let hours : List Hour = c.in_ok-hours.hours.items in
    let heats : List ℕ = c.in_ok-heats.heats.items in
    let size : length c.deref-5.result.now ≡ c.args.count = ap length c.deref-5.ensures.value ∙ c.in_ok-heats.ensures.size in
    let rows : AreHours c.args.hours.now (length c.args.part.now) =
    subst (AreHours c.args.hours.now) (sym c.requires.parts.size)
    (row-hours c.args.rows.now c.args.hours.now c.requires.parts.forest c.requires.heats c.requires.able.held) in
    record {
      are =
          record {
            few = omega (arith, size, c.requires.few);
            inodes_size = ap length c.deref-7.ensures.value ∙ (c.in_ok-inodes.ensures.size ∙ ap (λ (n : ℕ). n * 64) (sym size));
            by_heat = subst (λ (xs : List ℕ). IsByHeat xs c.deref-6.result.now) (c.deref-2.ensures.value ∙ sym c.deref-5.ensures.value)
                (subst (λ (order : List ℕ). IsByHeat c.deref-2.result.now order) (sym c.deref-6.ensures.value) c.in_ok-order.ensures);
            inside = omega (arith, c.requires.parts.below 0 c.requires.able.some, size);
            zero = c.requires.able.zero;
            hours_are = subst (λ (those : List Hour). AreHours those (length c.deref-5.result.now)) (sym c.deref-4.ensures.value)
                (subst (AreHours hours) (sym size)
                (hours-parts c.args.hours.now hours (length c.args.part.now) c.args.count c.args.part.now rows
                (λ i l. c.requires.parts.below i (omega (arith, l, c.requires.parts.size))) c.in_ok-hours.ensures));
            greatest = subst (λ (those : List Hour). AreGreatest those c.deref-5.result.now) (sym c.deref-4.ensures.value)
                (subst (AreGreatest hours) (sym c.deref-5.ensures.value)
                (subst (λ (those : List Hour). AreGreatest those heats) c.deref.ensures.value c.in_ok-heats.ensures.greatest));
          };
    }

pub moved-moved-requires : goal.moved-moved-requires
moved-moved-requires c =
    let is : IsPartsPacking c.args.ranks c.in_ok-hours.hours.items c.in_ok-heats.heats.items c.in_ok-inodes.inodes.items
    (slice_index c.args.part.now 0) c.in_ok-even.even.rank.items c.in_ok-packing.packing =
    parts-same c.args.ranks c.in_ok-hours.hours.items c.deref-4.result.now c.in_ok-heats.heats.items c.in_ok-inodes.inodes.items
    c.deref-5.result.now c.deref-7.result.now (slice_index c.args.part.now 0)
    c.in_ok-even.even.rank.items c.in_ok-packing.packing c.deref-4.ensures.value c.deref-5.ensures.value c.deref-7.ensures.value
    c.in_ok-packing.ensures.parts in
    subst (HaveParts c.args.rows.now c.args.part.now)
    (sym (ap length c.deref-in-loop-keep.ensures.value ∙ (is.ranks_are.size ∙ c.in_ok-heats.ensures.size)))
    c.requires.parts

pub loop-keep-preserved : goal.loop-keep-preserved
loop-keep-preserved c =
    let rows : List ProblemRow = c.args.rows.now in
    let part : List ℕ = c.args.part.now in
    let hours : List Hour = c.args.hours.now in
    let parts : List Hour = c.in_ok-hours.hours.items in
    let heats : List ℕ = c.in_ok-heats.heats.items in
    let inodes : List ℕ = c.in_ok-inodes.inodes.items in
    let even : List ℕ = c.in_ok-even.even.rank.items in
    let packing : Packing = c.in_ok-packing.packing in
    let more : Packed = record { packing = packing; moved = c.moved-moved.result } in
    let at : ℕ = c.loop-keep.keep-index in
    let tolerances : List ℕ = TOLERANCES.now in
    let of : AreOfParts hours rows part c.args.count parts heats inodes = record {
      below = c.requires.parts.below;
      parts_are = subst (λ (n : ℕ). ArePartHours hours n part c.args.count parts) c.requires.parts.size c.in_ok-hours.ensures;
      size = c.in_ok-heats.ensures.size;
      greatest = subst (λ (those : List Hour). AreGreatest those heats) c.deref.ensures.value c.in_ok-heats.ensures.greatest;
      there = c.in_ok-inodes.ensures.inodes;
    } in
    let by_heat : IsEvenPacking c.args.ranks parts heats (slice_index part 0) even =
    subst (λ (those : List Hour). IsEvenPacking c.args.ranks those heats (slice_index part 0) even) c.deref-4.ensures.value
    (subst (λ (those : List ℕ). IsEvenPacking c.args.ranks c.deref-4.result.now those (slice_index part 0) even) c.deref-5.ensures.value
    c.in_ok-even.ensures.even) in
    let is : IsPartsPacking c.args.ranks parts heats inodes (slice_index part 0) even packing =
    parts-same c.args.ranks c.in_ok-hours.hours.items c.deref-4.result.now c.in_ok-heats.heats.items c.in_ok-inodes.inodes.items
    c.deref-5.result.now c.deref-7.result.now (slice_index c.args.part.now 0)
    c.in_ok-even.even.rank.items c.in_ok-packing.packing c.deref-4.ensures.value c.deref-5.ensures.value c.deref-7.ensures.value
    c.in_ok-packing.ensures.parts in
    let next : suc at ≡ at + 1 = omega arith in
    let one : take at tolerances ++ packing.keep ∷ [] ≡ take (at + 1) tolerances =
    ap (λ (keep : ℕ). take at tolerances ++ keep ∷ []) c.in_ok-packing.ensures.keep
    ∙ (sym (take-suc tolerances at _ c.loop-keep-test.true) ∙ ap (λ (n : ℕ). take n tolerances) next) in
    subst (λ (each : List Packed). AreSoFar c.args.ranks hours rows part c.args.count c.in_ok-even.even.greatest each
    (take (at + 1) tolerances)) (sym c.in_ok-push.ensures.items)
    (subst (λ (tried : List ℕ). AreSoFar c.args.ranks hours rows part c.args.count c.in_ok-even.even.greatest (c.loop-keep.each.items ++ more ∷ []) tried) one
    (packings-more c.args.ranks hours rows part c.args.count c.in_ok-even.even.greatest packing.keep c.loop-keep.each.items
    (take at tolerances) more c.loop-keep.invariant refl
    (record {
      packing = packed-rows c.args.ranks hours rows part c.args.count parts heats inodes even packing of is;
      balanced = packed-evenly c.args.ranks hours rows part c.args.count parts heats inodes even packing of is by_heat;
      even_is = c.in_ok-packing.ensures.even;
      moved = c.moved-moved.ensures ∙ ap (λ (rank : List ℕ). moved_inodes rows part rank (length rows)) c.deref-in-loop-keep.ensures.value;
    })))

pub returns : goal.returns
returns c =
    let tolerances : List ℕ = TOLERANCES.now in
    let all : c.loop-keep.keep-index ≡ length tolerances = omega (arith, c.loop-keep-test.false, c.loop-keep.auto.keep-index-end) in
    record {
      keeps = c.loop-keep.invariant.keeps ∙ (ap (λ (n : ℕ). take n tolerances) all ∙ take-length tolerances);
      are = c.loop-keep.invariant.are;
    }
