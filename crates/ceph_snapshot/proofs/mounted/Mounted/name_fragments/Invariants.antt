use Rattle.std.proofs.Common.{◌≡◌, ◌<◌, ◌≤◌, ℕ, slice_get}
use Rattle.std.specs.Option.{option_map}
use Rattle.ceph_snapshot.specs.Mounts.{mounted_heat}
use Rattle.ceph_snapshot.specs.Sightings.{of_fragment}
use Rattle.ceph_snapshot.proofs.mounted.Mounted.name_fragments.Given as goal

-- those so far have the names of the mount, and the others are as they were
abbrev pub invariant-loop-at : goal.invariant-loop-at
invariant-loop-at l = record {
  named : (rank i : ℕ) → i < l.at → option_map (of_fragment rank) (slice_get l.fragments i)
      ≡ option_map (λ f. mounted_heat l.self (of_fragment rank f)) (slice_get l.fn.fragments i);
  rest : (i : ℕ) → l.at ≤ i → slice_get l.fragments i ≡ slice_get l.fn.fragments i;
}
