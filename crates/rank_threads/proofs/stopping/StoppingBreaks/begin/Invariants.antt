use Rattle.std.proofs.Common.{◌≡◌}
use Rattle.rank_threads.proofs.Stops.{AreSoFar}
use Rattle.rank_threads.proofs.stopping.StoppingBreaks.begin.Given as goal

-- the stops of the rounds before happened, and of the next round's those that were looked at
abbrev pub invariant-loop-stop : goal.invariant-loop-stop
invariant-loop-stop g l = record {
  stops : l.self.stops.now ≡ g.K.Phase.stops;
  all : l.stops ≡ g.K.Phase.stops;
  so_far : AreSoFar l.begun l.stop-index g.K.Phase.before l.self.known.seen g.K.Phase.stops l.self.told;
}
