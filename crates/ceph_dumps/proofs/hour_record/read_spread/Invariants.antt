use Rattle.std.proofs.Common.{◌≡◌, All, map, take}
use Rattle.std.specs.Str.Parse.{digits_value}
use Rattle.ceph_dumps.specs.HourRecord.{IsHeatText}
use Rattle.ceph_dumps.proofs.hour_record.read_spread.Given as goal

abbrev pub invariant-loop-at : goal.invariant-loop-at
invariant-loop-at l = record {
  numbers : All (λ word. IsHeatText word.now) (take l.at l.words.items);
  heats : l.heats.items ≡ map (λ word. digits_value 10 word.now) (take l.at l.words.items);
}
