use Rattle.std.proofs.Common.{◌≡◌, ◌<◌, ◌∙◌, ℕ, List, length, get_or, ap, arith, sym}
use Rattle.std.proofs.lemmas.List.{get_or_default, get_or_read}
use Rattle.ceph_plan.specs.declared.row.PinRow.{PinRow}
use Rattle.ceph_plan.specs.declared.hold.Hold.{Hold}
use Rattle.ceph_plan.specs.declared.hold.Hold.TheVariants.{Foreign, Free}
use Rattle.ceph_plan.specs.Rule.{no_row, row_at}
use Rattle.ceph_plan.specs.Holds.{hold_at}
use Rattle.ceph_plan.specs.Changes.{is_dropped}
use Rattle.ceph_plan.proofs.ScriptEnds.{with_drop, with_no_drop}
use Rattle.ceph_plan.proofs.changes.push_drops.Goals as goal
use Rattle.ceph_plan.proofs.changes.push_drops.Goals.{then-drops+in_ok-push, else-drops}

pub loop-i-preserved : goal.loop-i-preserved
loop-i-preserved c =
    let rows : List PinRow = c.args.rows.now in
    let holds : List Hold = c.args.holds.now in
    let i : ℕ = c.loop-i.i in
    let inside : i < length rows = omega arith in
    let row : c.index-rows-i.result ≡ row_at rows i = get_or_read rows i c.index-rows-i.result inside c.index-rows-i.is no_row in
    let test : c.drops.result ≡ is_dropped (row_at rows i) (hold_at holds i) = c.drops.ensures
    ∙ (ap (λ (r : PinRow). is_dropped r (get_or holds i Foreign)) row
    ∙ ap (λ (h : Hold). is_dropped (row_at rows i) h) (get_or_default holds i Foreign Free (omega (arith, inside, c.requires.size)))) in
    record {
      inside = omega (arith, inside);
      changes = elim c.if-drops.branch [
        | then-drops+in_ok-push w ↦
            rw (w.changes-is, w.in_ok-push.ensures.items)
            (with_drop rows holds c.loop-i.changes.items _ (length rows) i inside c.loop-i.invariant.changes (sym test ∙ w.if-drops.true))
        | else-drops w ↦
            rw w.changes-is
            (with_no_drop rows holds c.loop-i.changes.items _ (length rows) i inside c.loop-i.invariant.changes (sym test ∙ w.if-drops.false))
      ];
    }
