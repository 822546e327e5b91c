use Rattle.std.proofs.Common.{◌≡◌, map}
use Rattle.mdbal_ceph.specs.Hours.{left_names}
use Rattle.mdbal_ceph.proofs.planning.left_names.Given as goal

abbrev pub invariant-loop-hour : goal.invariant-loop-hour
invariant-loop-hour l =
    map (λ name. name.items) l.left.items ≡ left_names (map (λ name. name.now) l.names) l.chosen l.hour
