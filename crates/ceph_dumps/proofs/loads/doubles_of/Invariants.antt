use Rattle.std.proofs.Common.{◌≡◌}
use Rattle.json.specs.Value.{items_view}
use Rattle.ceph_dumps.specs.Loads.{counter_in}
use Rattle.ceph_dumps.specs.Members.{each}
use Rattle.ceph_dumps.proofs.Each.{items_left}
use Rattle.ceph_dumps.proofs.loads.doubles_of.Given as goal

abbrev pub invariant-loop-item : goal.invariant-loop-item
invariant-loop-item l = each counter_in (items_view l.items) ≡ items_left counter_in l.counters.items l.item-index l.items
