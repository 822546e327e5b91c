use Rattle.std.proofs.Common.{List, map, rules}
use Rattle.authority_map.specs.Operations.{Operation}
use Rattle.rank_threads.specs.Ways.{ByMap}
use Rattle.rank_threads.proofs.traffic.traffic_named.Goals as goal

pub serve_ranks-joined-requires-clause-meanwhile : goal.serve_ranks-joined-requires-clause-meanwhile
serve_ranks-joined-requires-clause-meanwhile g c κs within =
    let b = c.type_bounds in
    record {
      at = λ a. (
        c.requires.stops,
        (
          search (rules, b.send-J.owned, b.send-J.leaving),
          search (rules, b.send-M.owned, b.send-M.leaving),
          search (rules, b.send-K.owned, b.send-K.leaving),
          record { shared = b.sync-J.shared },
          record { shared = b.sync-K.shared },
          record { shared = b.sync-R.shared },
          record { shared = b.sync-H.shared },
        ),
      );
    }

pub returns-clause-served : goal.returns-clause-served
returns-clause-served g c =
    let served = c.close-phased.ensures c.in-Ok.laid.shares.items (map (λ (r : List Operation). ByMap r) c.in-Ok.laid.ways.items)
    c.args.tasks.scripts.now c.serve_ranks-joined.ensures.served in
    rw c.close_exports-board.ensures.board (rw (c.in-Ok.ensures.hands.0, c.in-Ok.ensures.hands.1) at served)
