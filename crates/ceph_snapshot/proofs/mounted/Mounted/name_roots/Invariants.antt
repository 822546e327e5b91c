use Rattle.std.proofs.Common.{◌≡◌, ◌<◌, ◌≤◌, ℕ, slice_get}
use Rattle.std.specs.Option.{option_map}
use Rattle.ceph_dumps.specs.Subtrees.{root_data}
use Rattle.ceph_snapshot.specs.Mounts.{mounted_root}
use Rattle.ceph_snapshot.proofs.mounted.Mounted.name_roots.Given as goal

-- those so far have the names of the mount, and the others are as they were
abbrev pub invariant-loop-at : goal.invariant-loop-at
invariant-loop-at l = record {
  named : (i : ℕ) → i < l.at → option_map root_data (slice_get l.roots i) ≡ option_map (λ root. mounted_root l.self (root_data root)) (slice_get l.fn.roots i);
  rest : (i : ℕ) → l.at ≤ i → slice_get l.roots i ≡ slice_get l.fn.roots i;
}
