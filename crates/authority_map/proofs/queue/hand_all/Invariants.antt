use Rattle.std.proofs.Common.{◌≡◌, ◌++◌, length}
use Rattle.left_right.specs.Handles.{published, pending}
use Rattle.authority_map.specs.LogEntries.{operations_of}
use Rattle.authority_map.proofs.queue.hand_all.Given as goal

abbrev pub invariant-loop-queue : goal.invariant-loop-queue
invariant-loop-queue g l = (published l.copies ≡ published l.fn.copies)
    × (operations_of (pending l.copies) ++ l.queue.waiting ≡ operations_of (pending l.fn.copies) ++ l.fn.queue.waiting)

abbrev pub decreases-loop-queue : goal.decreases-loop-queue
decreases-loop-queue g l = length l.queue.waiting
