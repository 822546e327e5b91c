use Rattle.std.proofs.Common.{◌≡◌, ◌≤◌, length}
use Rattle.export_protocol.specs.Roots.{roots_below}
use Rattle.export_machine.proofs.cluster.Cluster.roots.Given as goal

-- the roots so far
abbrev pub invariant-loop-number : goal.invariant-loop-number
invariant-loop-number l = record { found : l.found.items ≡ roots_below l.self.world l.number; within : l.number ≤ length l.self.world.parents }
