use Rattle.std.proofs.Common.{◌≡◌, map, take}
use Rattle.heat_ledger.specs.Rows.{dir_row}
use Rattle.heat_ledger.proofs.counts.with_pending.Given as goal

abbrev pub invariant-loop-dir : goal.invariant-loop-dir
invariant-loop-dir l = l.rows.items ≡ map (dir_row l.counts.pending) (take l.dir-index l.dirs)
