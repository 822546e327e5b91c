use Rattle.std.proofs.Common.{take}
use Rattle.std.specs.List.{AllZip}
use Rattle.rank_threads.specs.Asking.{IsRoomFor}
use Rattle.rank_threads.proofs.laying.rooms_for.Given as goal

abbrev pub invariant-loop-script : goal.invariant-loop-script
invariant-loop-script l = AllZip IsRoomFor (take l.script-index l.scripts) l.rooms.items
