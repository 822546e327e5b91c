use Rattle.authority_map.specs.Runs.{IsAmong}
use Rattle.authority_map.proofs.runs.halve.Given as goal

abbrev pub invariant-loop-count : goal.invariant-loop-count
invariant-loop-count l = IsAmong l.starts l.run l.count l.dir

abbrev pub decreases-loop-count : goal.decreases-loop-count
decreases-loop-count l = l.count
