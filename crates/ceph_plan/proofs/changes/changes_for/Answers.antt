use Rattle.std.proofs.Common.{◌∙◌, ◌++◌, List, length, ap, refl}
use Rattle.ceph_plan.specs.declared.hold.Hold.{Hold}
use Rattle.ceph_plan.specs.declared.row.PinChange.{PinChange}
use Rattle.ceph_plan.specs.declared.row.PinRow.{PinRow}
use Rattle.ceph_plan.specs.Changes.{drops_from, sets_below}
use Rattle.ceph_plan.proofs.ScriptEnds.{AreChanges, forced, kept, moves_once, needed, realized, untouched}
use Rattle.ceph_plan.proofs.changes.changes_for.Goals as goal

pub returns : goal.returns
returns c =
    let rows : List PinRow = c.args.rows.now in
    let holds : List Hold = c.in_ok-holds.holds.items in
    let changes : List PinChange = c.push_drops.new.changes.items in
    let are : AreChanges rows holds changes = record {
      held = c.in_ok-holds.ensures;
      changes_are = c.in_ok-push_drops.ensures
          ∙ (ap (λ (cs : List PinChange). cs ++ drops_from rows c.deref-2.result.now (length rows) 0)
          (c.in_ok-push_sets.ensures ∙ ap (λ (cs : List PinChange). cs ++ sets_below rows c.deref.result.now (length rows))
          c.new-changes.ensures.items)
          ∙ (rw (c.deref.ensures.value, c.deref-2.ensures.value) refl));
    } in
    record {
      realized = realized rows holds changes are;
      once = moves_once rows holds changes are;
      needed = needed rows holds changes are;
      fewest = forced rows holds changes are;
      untouched = untouched rows holds changes are;
      kept = kept rows holds changes are;
    }
