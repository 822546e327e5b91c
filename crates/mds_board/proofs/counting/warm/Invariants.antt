use Rattle.std.proofs.Common.{◌≡◌, take}
use Rattle.std.specs.Prelude.{fold}
use Rattle.mds_board.specs.State.{warmed}
use Rattle.mds_board.proofs.counting.warm.Given as goal

-- the rows so far are deposited
abbrev pub invariant-loop-hits : goal.invariant-loop-hits
invariant-loop-hits l = record {
  heat : l.heat ≡ fold (warmed l.weights l.tree.entries) l.initial.heat (take l.hits-index l.rows);
  limit : l.heat.limit ≡ l.initial.heat.limit;
  ticks : l.heat.ticks ≡ l.initial.heat.ticks;
}
