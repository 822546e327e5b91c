use Rattle.std.proofs.Common.{◌≡◌, ◌++◌, map, take}
use Rattle.script_board.specs.declared.export_fact.ExportFact.TheVariants.{Moves}
use Rattle.script_board.proofs.looks.add_dirs.Given as goal

-- the directories so far are added
abbrev pub invariant-loop-dir : goal.invariant-loop-dir
invariant-loop-dir l = l.facts.items ≡ l.initial.facts.items ++ map Moves (take l.dir-index l.dirs)
