use Rattle.std.proofs.Common.{◌≡◌}
use Rattle.json.specs.Value.{items_view}
use Rattle.ceph_dumps.specs.Numbers.{unsigned_in}
use Rattle.ceph_dumps.specs.Members.{each}
use Rattle.ceph_dumps.proofs.Each.{items_left}
use Rattle.ceph_dumps.proofs.cluster.numbers_of.Given as goal

abbrev pub invariant-loop-item : goal.invariant-loop-item
invariant-loop-item l = each unsigned_in (items_view l.items) ≡ items_left unsigned_in l.numbers.items l.item-index l.items
