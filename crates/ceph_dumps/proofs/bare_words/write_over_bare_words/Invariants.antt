use Rattle.std.proofs.Common.{◌≡◌, ◌≤◌, ◌-◌, ◌+◌, ◌*◌, ◌++◌, drop, length, nat_le, take, if◌then◌else◌}
use Rattle.ceph_dumps.specs.DumpText.{written_over}
use Rattle.ceph_dumps.specs.declared.bare_words.Place.TheVariants.{Bare}
use Rattle.ceph_dumps.proofs.bare_words.write_over_bare_words.Given as goal

-- what was written, with what will be written over the rest, which is as it was
abbrev pub invariant-loop-at : goal.invariant-loop-at
invariant-loop-at l = record {
  written : written_over 0 Bare l.fn.text ≡ take l.at l.text ++ written_over l.left l.place (drop l.at l.fn.text);
  rest : drop l.at l.text ≡ drop l.at l.fn.text;
  size : length l.text ≡ length l.fn.text;
  within : l.at ≤ length l.text;
}

abbrev pub decreases-loop-at : goal.decreases-loop-at
decreases-loop-at l = 2 * (length l.text - l.at) + (if nat_le l.looked l.at then 1 else 0)
