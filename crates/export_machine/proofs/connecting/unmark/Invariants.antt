use Rattle.std.proofs.Common.{◌≡◌, ℕ, true, false, length, drop, get_or}
use Rattle.export_protocol.specs.Authority.{is_among}
use Rattle.export_machine.proofs.connecting.unmark.Given as goal

-- what has a mark still is among the directories to come
abbrev pub invariant-loop-dir : goal.invariant-loop-dir
invariant-loop-dir l = record {
  places : length l.marks.items ≡ length l.initial.marks.items;
  within : (d : ℕ) → get_or l.marks.items d false ≡ true → is_among (drop l.dir-index l.dirs) d ≡ true;
}
