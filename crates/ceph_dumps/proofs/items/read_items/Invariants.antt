use Rattle.std.proofs.Common.{◌≡◌, ◌≤◌, ℕ, length, map}
use Rattle.json.specs.Json.{items, value}
use Rattle.ceph_dumps.specs.Members.{each}
use Rattle.ceph_dumps.specs.Reading.{said_of}
use Rattle.ceph_dumps.proofs.Saying.{each_behind}
use Rattle.ceph_dumps.proofs.items.read_items.Given as goal

abbrev pub invariant-loop-alloc : goal.invariant-loop-alloc
invariant-loop-alloc g l =
    (n : ℕ) × (length l.reader ≤ n)
    × (said_of (each g.T.Item.said) (items (value l.depth) (length l.initial.reader) l.initial.reader)
    ≡ said_of (each_behind g.T.Item.said (map g.T.Item.shown l.found.items)) (items (value l.depth) n l.reader))
    × (length l.reader ≤ length l.initial.reader)

abbrev pub decreases-loop-alloc : goal.decreases-loop-alloc
decreases-loop-alloc g l = length l.reader
