use Rattle.std.proofs.Common.{◌≡◌, ◌<◌, ℕ, false, length}
use Rattle.std.specs.Prelude.{slice_index_or}
use Rattle.ceph_snapshot.specs.Holding.{held_at}
use Rattle.ceph_snapshot.specs.Rows.{is_free}
use Rattle.mdbal_ceph.proofs.planning.free_of.Given as goal

abbrev pub invariant-loop-hold : goal.invariant-loop-hold
invariant-loop-hold l =
    record { size : length l.free.items ≡ l.hold-index; each : (i : ℕ) → i < l.hold-index → slice_index_or l.free.items i false ≡ is_free (held_at l.holds i) }
