use Rattle.std.proofs.Common.{◌≡◌, ◌∙◌, ◌<◌, ◌≤◌, ℕ, Bool, List, ap, arith, length, length-append, refl, slice_index, subst}
use Rattle.mds_types.specs.declared.problem.ProblemRow.{ProblemRow}
use Rattle.ceph_plan.specs.declared.hours.Hour.{Hour}
use Rattle.ceph_plan.specs.declared.made.MadeHour.{MadeHour}
use Rattle.ceph_plan.specs.MadeHours.{AreLargest, IsMadeHour}
use Rattle.ceph_plan.proofs.Making.{all-made, made-each, made-parents, some-worth}
use Rattle.ceph_plan.proofs.made.made_from.Goals as goal

pub loop-parent-preserved : goal.loop-parent-preserved
loop-parent-preserved c =
    let rows : List ProblemRow = c.args.rows.now in
    let free : List Bool = c.args.free.now in
    let now : Hour = c.args.now.now in
    let worth : List ℕ = c.in_ok-worth.worth.items in
    let parents : List ℕ = c.in_ok-parents.parents.items in
    let items : List ℕ = c.deref-parent-items.result.now in
    let i : ℕ = c.loop-parent.parent-index in
    let there : i < length parents = omega (arith, c.loop-parent-test.true, ap length c.deref-parent-items.ensures.value) in
    let same : slice_index items i ≡ slice_index parents i = ap (λ (xs : List ℕ). slice_index xs i) c.deref-parent-items.ensures.value in
    let of : AreLargest worth c.args.count parents =
    subst (λ (xs : List ℕ). AreLargest xs c.args.count parents) c.deref.ensures.value c.in_ok-parents.ensures in
    let inside : slice_index items i < length rows = omega (arith, same, of.inside i there, c.in_ok-worth.ensures.size) in
    let many : 8 ≤ slice_index worth (slice_index items i) = omega (arith, ap (slice_index worth) same, of.many i there) in
    let one : MadeHour = record { parent = slice_index items i; hour = c.in_ok-hour.hour } in
    let is : IsMadeHour rows free now one = record {
      inside = inside;
      worth = (some-worth rows free now.heats.items worth (slice_index items i) c.in_ok-worth.ensures inside many).0;
      made = c.in_ok-hour.ensures;
    } in
    record {
      size = ap length c.in_ok-push.ensures.items ∙ simp length-append (omega (arith, c.loop-parent.invariant.size));
      each = made-each rows free now c.loop-parent.found.items c.push.new.self.items one items i c.in_ok-push.ensures.items
          c.loop-parent.invariant.size is c.loop-parent.invariant.each;
      same = made-parents rows free now c.loop-parent.found.items c.push.new.self.items one items i c.in_ok-push.ensures.items
          c.loop-parent.invariant.size refl c.loop-parent.invariant.same;
    }

pub returns : goal.returns
returns c =
    let rows : List ProblemRow = c.args.rows.now in
    let free : List Bool = c.args.free.now in
    let now : Hour = c.args.now.now in
    let parents : List ℕ = c.in_ok-parents.parents.items in
    let end : c.loop-parent.parent-index ≡ length parents =
    omega (arith, c.loop-parent-test.false, c.loop-parent.auto.parent-index-end, ap length c.deref-parent-items.ensures.value) in
    all-made rows free now c.args.count c.in_ok-worth.worth.items parents c.loop-parent.found.items c.in_ok-worth.ensures
    (subst (λ (xs : List ℕ). AreLargest xs c.args.count parents) c.deref.ensures.value c.in_ok-parents.ensures)
    (c.loop-parent.invariant.size ∙ end)
    c.loop-parent.invariant.each
    (λ k l. c.loop-parent.invariant.same k (omega (arith, l, end)) ∙ ap (λ (xs : List ℕ). slice_index xs k) c.deref-parent-items.ensures.value)
