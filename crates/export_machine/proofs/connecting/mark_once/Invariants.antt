use Rattle.std.proofs.Common.{◌≡◌, ℕ, false, length, take, get_or}
use Rattle.export_protocol.specs.Authority.{is_among}
use Rattle.export_protocol.specs.Step.{repeats}
use Rattle.export_machine.proofs.connecting.mark_once.Given as goal

-- the directories so far have their marks, and none of them is there twice
abbrev pub invariant-loop-dir : goal.invariant-loop-dir
invariant-loop-dir l = record {
  places : length l.marks.items ≡ length l.table.parents;
  marked : (d : ℕ) → get_or l.marks.items d false ≡ is_among (take l.dir-index l.dirs) d;
  once : repeats (take l.dir-index l.dirs) ≡ false;
}
