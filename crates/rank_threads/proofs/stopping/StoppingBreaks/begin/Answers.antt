use Rattle.std.proofs.Common.{◌≡◌, ◌<◌, List, get_or, length, subst}
use Rattle.phased_board.specs.declared.breaks.RankStop.{RankStop}
use Rattle.rank_threads.proofs.Stops.{one_more, passed_over, rank_named}
use Rattle.rank_threads.proofs.stopping.StoppingBreaks.begin.Goals as goal
use Rattle.rank_threads.proofs.stopping.StoppingBreaks.begin.Goals.{then-stop-begun, else-stop-begun}

pub loop-stop-preserved : goal.loop-stop-preserved
loop-stop-preserved g c =
    let inv = c.loop-stop.invariant in
    let stops = g.K.Phase.stops in
    let at = c.loop-stop.stop-index in
    let stop = c.stop-item.result in
    let is : stop ≡ get_or stops at stop = subst (λ (ss : List RankStop). stop ≡ get_or ss at stop) inv.all c.stop-item.is in
    let near : at < length stops = subst (λ (ss : List RankStop). at < length ss) inv.all c.loop-stop-test.true in
    elim c.if-stop-begun.branch [
      | then-stop-begun w ↦
          rw w.self-is record {
            stops = rw w.stop.ensures.stops inv.stops;
            all = inv.all;
            so_far = one_more c.args.begun at g.K.Phase.before c.loop-stop.self.known.seen w.stop.new.self.known.seen stops
                c.loop-stop.self.told w.stop.new.self.told stop w.stop.ensures.seen
                w.stop.ensures.kept is (rank_named stops at stop near is) w.stop.ensures.told w.stop.ensures.met inv.so_far;
          }
      | else-stop-begun w ↦
          rw w.self-is record {
            stops = inv.stops;
            all = inv.all;
            so_far = passed_over c.args.begun at g.K.Phase.before c.loop-stop.self.known.seen stops c.loop-stop.self.told stop is
                w.if-stop-begun.false inv.so_far;
          }
    ]
