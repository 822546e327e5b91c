use Rattle.rank_threads.proofs.Summing.{whole_after}
use Rattle.rank_threads.proofs.totals.serve_with_totals.Goals as goal

pub add_up-requires : goal.add_up-requires
add_up-requires g c =
    let same = c.audited-board.ensures.same in
    whole_after c.serve_phase-board.ensures.board (rw c.in-Ok.is at c.serve_phase-board.ensures.served) (rw (same.0, same.1) c.requires.whole)

pub returns-in-Ok-clause-served : goal.returns-in-Ok-clause-served
returns-in-Ok-clause-served g c =
    let same = c.audited-board.ensures.same in
    c.add_up.ensures.served _ _ _ _ _ (rw (same.0, same.1) at (rw c.in-Ok.is at c.serve_phase-board.ensures.served))

pub returns-in-Ok-clause-totals : goal.returns-in-Ok-clause-totals
returns-in-Ok-clause-totals g c =
    let same = c.audited-board.ensures.same in
    c.add_up.ensures.totals _ _ _ _ _ c.audited-board.ensures.counted
    (rw (same.0, same.1) at (rw c.in-Ok.is at c.serve_phase-board.ensures.served))
