use Rattle.std.proofs.Common.{◌≡◌, ◌≤◌, ℕ, length}
use Rattle.json.specs.Json.{members, parse_map, value}
use Rattle.ceph_dumps.specs.Kept.{members_kept}
use Rattle.ceph_dumps.proofs.Keeping.{behind}
use Rattle.ceph_dumps.proofs.items.read_kept.Given as goal

abbrev pub invariant-loop-found : goal.invariant-loop-found
invariant-loop-found g l =
    (n : ℕ) × (length l.reader ≤ n)
    × (parse_map (members_kept g.T.Item.kept) (members (value l.depth) (length l.initial.reader) l.initial.reader)
    ≡ behind g.T.Item.kept l.found.items (members (value l.depth) n l.reader))
    × (length l.reader ≤ length l.initial.reader)

abbrev pub decreases-loop-found : goal.decreases-loop-found
decreases-loop-found g l = length l.reader
