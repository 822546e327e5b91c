use Rattle.std.proofs.Common.{◌≡◌, ◌+◌, drop}
use Rattle.ceph_dumps.specs.OwnList.{digit_count}
use Rattle.ceph_dumps.proofs.own_list.digit_count.Given as goal

-- the digits so far, and those of the rest
abbrev pub invariant-loop-at : goal.invariant-loop-at
invariant-loop-at l = digit_count l.line ≡ l.at + digit_count (drop l.at l.line)
