use Rattle.std.proofs.Common.{◌≡◌}
use Rattle.json.specs.Value.{members_view}
use Rattle.ceph_dumps.specs.Cluster.{active_ranks}
use Rattle.ceph_dumps.proofs.Each.{ranks_left}
use Rattle.ceph_dumps.proofs.cluster.active_of.Given as goal

abbrev pub invariant-loop-daemon : goal.invariant-loop-daemon
invariant-loop-daemon l = active_ranks (members_view l.daemons) ≡ ranks_left l.found.items l.daemon-index l.daemons
