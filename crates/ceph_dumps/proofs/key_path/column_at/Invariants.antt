use Rattle.std.proofs.Common.{◌≡◌, ◌≤◌, ◌+◌}
use Rattle.ceph_dumps.specs.KeyPath.{column_at}
use Rattle.ceph_dumps.proofs.key_path.column_at.Given as goal

abbrev pub invariant-loop-before : goal.invariant-loop-before
invariant-loop-before l = record {
  is : l.column ≡ column_at l.text l.before;
  few : l.column ≤ l.before + 1;
}
