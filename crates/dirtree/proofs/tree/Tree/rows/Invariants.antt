use Rattle.std.proofs.Common.{◌≡◌, take}
use Rattle.dirtree.specs.Keeps.{entries_of}
use Rattle.dirtree.specs.Tree.{rows_from}
use Rattle.dirtree.proofs.tree.Tree.rows.Given as goal

abbrev pub invariant-loop-number : goal.invariant-loop-number
invariant-loop-number l = l.rows.items ≡ rows_from 0 (entries_of (take l.number l.place-items))
