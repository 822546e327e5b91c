use Rattle.std.proofs.Common.{rules}
use Rattle.rank_threads.proofs.phase.serve_ranks.Goals as goal

pub scoped-requires : goal.scoped-requires
scoped-requires g c =
    let b = c.type_bounds in
    record {
      at = λ a. (
        (c.requires.laid, c.requires.meanwhile, c.requires.requests),
        (
          search (rules, b.send-J.owned, b.send-J.leaving),
          search (rules, b.send-M.owned, b.send-M.leaving),
          search (rules, b.send-W.owned, b.send-W.leaving),
          search (rules, b.send-K.owned, b.send-K.leaving),
          record { shared = b.sync-J.shared },
          record { shared = b.sync-K.shared },
          record { shared = b.sync-R.shared },
          record { shared = b.sync-G.shared },
        ),
      );
    }
