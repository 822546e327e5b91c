use Rattle.std.proofs.Common.{◌≡◌, ◌++◌, take}
use Rattle.std.specs.List.{flat_map}
use Rattle.ceph_dumps.specs.HourRecord.{heat_line, heat_path}
use Rattle.ceph_dumps.proofs.hour_record.push_lines.Given as goal

abbrev pub invariant-loop-past : goal.invariant-loop-past
invariant-loop-past l = l.text.items ≡ l.fn.text.items ++ flat_map (λ past. heat_line (heat_path past)) (take l.past-index l.heats)
