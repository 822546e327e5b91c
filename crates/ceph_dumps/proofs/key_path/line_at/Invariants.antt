use Rattle.std.proofs.Common.{◌≡◌, ◌≤◌, ◌+◌}
use Rattle.ceph_dumps.specs.KeyPath.{line_at}
use Rattle.ceph_dumps.proofs.key_path.line_at.Given as goal

abbrev pub invariant-loop-before : goal.invariant-loop-before
invariant-loop-before l = record {
  is : l.line ≡ line_at l.text l.before;
  few : l.line ≤ l.before + 1;
}
