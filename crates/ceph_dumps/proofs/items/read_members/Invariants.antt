use Rattle.std.proofs.Common.{◌≡◌, ◌≤◌, ℕ, length, map, option_map}
use Rattle.json.specs.Json.{members, value}
use Rattle.ceph_dumps.specs.Members.{list_of}
use Rattle.ceph_dumps.specs.Reading.{list_named, said_of}
use Rattle.ceph_dumps.proofs.Saying.{members_behind}
use Rattle.ceph_dumps.proofs.items.read_members.Given as goal

abbrev pub invariant-loop-found : goal.invariant-loop-found
invariant-loop-found g l =
    (n : ℕ) × (length l.reader ≤ n)
    × (said_of (list_named g.T.Item.said l.name) (members (value l.depth) (length l.initial.reader) l.initial.reader)
    ≡ said_of (members_behind (list_of g.T.Item.said) l.name (option_map (λ list. map g.T.Item.shown list.items) l.found))
    (members (value l.depth) n l.reader))

abbrev pub decreases-loop-found : goal.decreases-loop-found
decreases-loop-found g l = length l.reader
