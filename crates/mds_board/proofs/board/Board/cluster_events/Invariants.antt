use Rattle.std.proofs.Common.{◌≡◌, take}
use Rattle.mds_board.specs.Promises.{cluster_events}
use Rattle.mds_board.proofs.board.Board.cluster_events.Given as goal

-- the events of the entries so far
abbrev pub invariant-loop-number : goal.invariant-loop-number
invariant-loop-number g l = record {
  events : l.events.items ≡ cluster_events (take l.number l.self.history);
}
