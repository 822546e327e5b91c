use Rattle.std.proofs.Common.{length, ◌-◌, ◌≡◌, ◌+◌, min, drop}
use Rattle.pin_driver.specs.Setting.{batch_length}
use Rattle.pin_driver.proofs.setter_state.batch_end.Given as goal

-- where the batch ends is where it ends from here
abbrev pub invariant-loop-end : goal.invariant-loop-end
invariant-loop-end l =
    min (length l.changes) (l.end + batch_length l.inodes (drop l.end l.changes))
    ≡ min (length l.changes) (l.initial.end + batch_length l.initial.inodes (drop l.initial.end l.changes))

abbrev pub decreases-loop-end : goal.decreases-loop-end
decreases-loop-end l = length l.changes - l.end
