use Rattle.std.proofs.Common.{◌≡◌, ◌++◌, take}
use Rattle.ceph_dumps.specs.HourRecord.{numbers_text}
use Rattle.ceph_dumps.proofs.hour_record.push_spread.Given as goal

abbrev pub invariant-loop-at : goal.invariant-loop-at
invariant-loop-at l = l.text.items ≡ l.fn.text.items ++ numbers_text (take l.at l.spread)
