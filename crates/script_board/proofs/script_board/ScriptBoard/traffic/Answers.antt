use Rattle.std.proofs.Common.{◌≡◌, ◌++◌, true, All, List, Vec, Global, ap, arith, length, map, refl, subst, sym, ◌∙◌}
use Rattle.std.proofs.lemmas.List.{length-map}
use Rattle.authority_map.specs.Operations.{Operation}
use Rattle.phased_board.specs.Going.{WentOnWithStops}
use Rattle.phased_board.specs.Outcomes.{AreAll, AreOutcomes}
use Rattle.phased_board.specs.Stops.{AreStopped, ranks_of}
use Rattle.phased_board.specs.declared.breaks.RankStop.{RankStop}
use Rattle.phased_board.specs.declared.outcome.Outcome.{Outcome}
use Rattle.heat_ledger.specs.Ledger.{ShareData}
use Rattle.mds_board.specs.History.{World}
use Rattle.mds_types.specs.declared.order.Order.{Order}
use Rattle.rank_threads.specs.declared.work.Work.{Work}
use Rattle.rank_threads.specs.declared.work.WorkAnswer.{WorkAnswer}
use Rattle.rank_threads.specs.Phases.{AreExported}
use Rattle.rank_threads.specs.Ways.{ByMap, hands_of}
use Rattle.script_board.specs.declared.dealing.Seat.{Seat}
use Rattle.script_board.specs.declared.fault.Fault.{Fault}
use Rattle.script_board.specs.Board.{BoardData}
use Rattle.script_board.specs.Move.{move_orders}
use Rattle.script_board.specs.Fault.{unless_done}
use Rattle.script_board.specs.Serve.{IsDealt, refusals, waiting}
use Rattle.script_board.specs.Traffic.{IsTraffic}
use Rattle.script_board.proofs.DealingLemmas.{returned_length}
use Rattle.script_board.proofs.ServeLemmas.{answered_ways, served_by}
use Rattle.script_board.proofs.script_board.ScriptBoard.traffic.Goals as goal

pub put_together-after-requires : goal.put_together-after-requires
put_together-after-requires g c =
    let inv = c.before-2.invariant in
    let some = inv.some_shares in
    let few = inv.few_shares in
    let served = (rw c.in-Ok-done.is at c.traffic_with_totals-board.ensures.served).served in
    let size = returned_length g.J.Naming.limit _ _ _ _ served.returned in
    let shares : List ShareData = c.in-Ok-done.traffic.ranks.shares.items in
    let made : List (Vec Work Global) = c.in-Ok.planned.dealt.scripts.items in
    let scripts : List (List Work) = map (λ (s : Vec Work Global). s.items) c.deref.result.now in
    let later : List (List Operation) = c.in-Ok-done.traffic.readers.items in
    let back : List (List Operation) = c.carried-hands.result.0.ways.items in
    let dealt : length (map (λ (s : Vec Work Global). s.items) made) ≡ length c.args.self.shares = c.in-Ok.ensures.dealt.as_many in
    let seen : length c.before-2.inside.shares.items ≡ length c.args.self.shares = ap (λ (b : BoardData). length b.shares) c.before-2.view_is in
    let asked : length scripts ≡ length (map (λ (s : Vec Work Global). s.items) made) =
    ap (λ (l : List (Vec Work Global)). length (map (λ (s : Vec Work Global). s.items) l)) c.deref.ensures.value in
    let as_many : length shares ≡ length scripts = size ∙ (seen ∙ (sym dealt ∙ sym asked)) in
    let ways = answered_ways c.reopen.new.self c.traffic_with_totals-board.result.0.history
    (hands_of c.before-2.inside.shares.items (map ByMap c.in-Ok-reopen.readers.items)) scripts
    (map (λ (a : Vec WorkAnswer Global). a.items) c.in-Ok-done.traffic.ranks.answers.items) shares (map ByMap later) served.answered as_many in
    let mapped : length (map ByMap later) ≡ length later = length-map later ByMap in
    let given : length back ≡ length later = ap (λ (l : List (List Operation)). length l) c.carried-hands.ensures.readers in
    let long = c.carried-hands.result.0.ways.ok.0 in
    record {
      fits = rw c.carried-hands.ensures.shares record {
        some_shares = omega (arith, size, some);
        few_shares = omega (arith, size, few);
        whole = (rw c.in-Ok-done.is at c.traffic_with_totals-board.ensures.totals).whole;
      };
      reader = omega (arith, size, some, as_many, ways, mapped, given, long);
    }

pub returns-in-Ok-done-clause-done : goal.returns-in-Ok-done-clause-done
returns-in-Ok-done-clause-done g c =
    let given : World → BoardData = λ w. record {
      world = w;
      shares = c.before-2.inside.shares.items;
      loads = c.before-2.inside.loads.items;
      kept = c.before-2.inside.kept.items;
      stops = c.before-2.inside.stops.items;
    } in
    let old : BoardData = given c.reopen.new.self in
    let as_before : old ≡ c.args.self = ap given c.reopen.ensures.same ∙ c.before-2.view_is in
    let now : World = c.traffic_with_totals-board.result.0 in
    let new : List ShareData → BoardData = λ shares. record {
      world = now;
      shares = shares;
      loads = c.nothing.result.0.items;
      kept = c.nothing.result.1.items;
      stops = c.nothing.result.2.items;
    } in
    let shares : List ShareData = c.in-Ok-done.traffic.ranks.shares.items in
    let held : List (List Operation) = c.in-Ok-reopen.readers.items in
    let later : List (List Operation) = c.in-Ok-done.traffic.readers.items in
    let refused : List Fault = c.carried-hands.result.1.refused.items in
    let orders : List Order = c.carried-hands.result.1.orders.items in
    let told : List Outcome = c.carried-hands.result.1.outcomes.items in
    let limit : g.J.Naming.limit ≡ old.world.state.directories.limit = sym c.limit-limit.ensures.named ∙ c.limit-limit.ensures.limit in
    let seats : List Seat = c.in-Ok.planned.dealt.seats.items in
    let ranks = c.in-Ok-done.traffic.ranks in
    let answers : List (List WorkAnswer) = map (λ (a : Vec WorkAnswer Global). a.items) ranks.answers.items in
    let dealt : IsDealt old.world (length old.shares) (waiting old) (map (λ (s : Vec Work Global). s.items) c.deref.result.now) seats =
    subst (λ (l : List (Vec Work Global)). IsDealt old.world (length old.shares) (waiting old) (map (λ (s : Vec Work Global). s.items) l)
    seats) (sym c.deref.ensures.value)
    (subst (λ (b : BoardData). IsDealt b.world (length b.shares) (waiting b)
    (map (λ (s : Vec Work Global). s.items) c.in-Ok.planned.dealt.scripts.items) seats) (sym as_before) c.in-Ok.ensures.dealt) in
    let count = c.in-Ok-reopen.ensures.count in
    let len = c.len-ranks.ensures in
    let many = c.in-Ok-reopen.readers.ok.0 in
    let whole = c.before-2.inside.shares.ok.0 in
    let met : List Fault = refusals answers seats ++ unless_done ranks.ended ++ unless_done ranks.deposited in
    let stopped = c.in-Ok-done.traffic.exported.stopped in
    let exported : AreExported old.world now c.deref-2.result.now c.deref-3.result.now c.in-Ok-done.traffic.exported =
    rw c.in-Ok-done.is at c.traffic_with_totals-board.ensures.exported in
    subst (λ (b : BoardData). IsTraffic c.args.self refused orders told b) (sym c.put_together-after.ensures)
    (subst (λ (back : List ShareData). IsTraffic c.args.self refused orders told (new back)) (sym c.carried-hands.ensures.shares)
    (subst (λ (b : BoardData). IsTraffic b refused orders told (new shares)) as_before
    (record {
      held = held;
      later = later;
      readers = omega (arith, count, len, many, whole);
      informed = record {
        at_first = subst (λ (w : World). All (λ r. r ≡ w.published) held) (sym c.reopen.ensures.same) c.in-Ok-reopen.ensures.readers;
        at_last = c.carried-hands.ensures.one_line;
      };
      met = met;
      stopped = stopped;
      stop = subst (λ (l : List RankStop). AreStopped 8 old.world now.history l stopped) c.deref-3.ensures.value exported.stopped;
      all_met = c.carried-hands.ensures.told;
      served = served_by true old.stops g.J.Naming.limit (map ByMap held) (map ByMap later) old now c.nothing.result.0.items
          c.nothing.result.1.items c.nothing.result.2.items met c.deref.result.now seats ranks limit dealt
          (rw c.in-Ok-done.is at c.traffic_with_totals-board.ensures.served)
          (rw c.in-Ok-done.is at c.traffic_with_totals-board.ensures.totals)
          (subst (λ (l : List RankStop). WentOnWithStops true true (ranks_of l) old.world now) c.deref-3.ensures.value
          c.traffic_with_totals-board.ensures.board) refl;
      orders = c.carried-hands.ensures.orders ∙ (c.in-Ok.ensures.orders ∙ ap move_orders (sym as_before));
      outcomes = subst (λ (os : List Order). AreOutcomes old.world now os told) (c.deref-2.ensures.value ∙ sym c.carried-hands.ensures.orders)
          (subst (λ (ts : List Outcome). AreOutcomes old.world now c.deref-2.result.now ts) (sym c.carried-hands.ensures.outcomes) exported.outcomes);
      all = subst (λ (ts : List Outcome). AreAll old.world now ts) (sym c.carried-hands.ensures.outcomes) exported.all;
      waits = c.nothing.ensures.loads;
      forgotten = c.nothing.ensures.kept;
      used = c.nothing.ensures.stops;
    })))
