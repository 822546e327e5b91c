use Rattle.phased_board.proofs.Asking.{follows}
use Rattle.rank_threads.proofs.Later.{asked_longer}
use Rattle.rank_threads.proofs.desk.Serving.serve_one.Goals as goal
use Rattle.rank_threads.proofs.desk.Serving.serve_one.Goals.{in-Err, in-Ok}

pub returns-clause-answered : goal.returns-clause-answered
returns-clause-answered g c =
    let asked = asked_longer _ _ _ _ _ _ _ c.begin-begun.ensures.seen c.rank_for-asked.ensures.asked in
    elim c.match-begun.branch [
      | in-Ok w ↦ rw (w.done-is, w.answer-is, w.counted-answer.ensures.ticket) (c.rank_for-asked.result, asked, w.in-Ok.ensures.begun)
      | in-Err w ↦ rw (w.done-is, w.answer-is, w.refused-answer.ensures) (c.rank_for-asked.result, asked, w.in-Err.ensures.refused)
    ]

pub returns-clause-seen : goal.returns-clause-seen
returns-clause-seen g c =
    let seen = follows _ _ _ c.rank_for-asked.ensures.seen c.begin-begun.ensures.seen in
    elim c.match-begun.branch [ in-Ok w ↦ rw (w.done-is) seen | in-Err w ↦ rw (w.done-is) seen ]
