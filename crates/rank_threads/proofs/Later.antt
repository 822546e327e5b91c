-- What holds of answers by a log holds by a longer one, and what a board answers holds by its own history.
use Rattle.std.proofs.Common.{ℕ, List, [], ◌∷◌, Option, Some, None, Result, Ok, Err, inl, inr}
use Rattle.std.specs.List.{AllZip}
use mathlib.Core.List.{IsPrefix}
use Rattle.mds_board.specs.declared.board_error.BoardError.{BoardError}
use Rattle.heat_ledger.specs.Ledger.{ShareData}
use Rattle.mds_board.specs.declared.entry.Entry.{Entry}
use Rattle.mds_board.specs.History.{World}
use Rattle.rank_threads.specs.declared.work.Work.{Work}
use Rattle.rank_threads.specs.declared.work.WorkAnswer.{WorkAnswer}
use Rattle.rank_threads.specs.declared.work.WorkError.{WorkError}
use Rattle.rank_threads.specs.declared.work.WorkError.TheVariants as error
use Rattle.phased_board.proofs.Asking.{follows, met_later}
use Rattle.phased_board.proofs.Later.{begun_later}
use Rattle.rank_threads.specs.Answered.{AreAnswered, IsAnswered, IsDepositTold, IsRankAnswered, IsReply}
use Rattle.rank_threads.specs.Asking.{AreServed}
use Rattle.rank_threads.specs.Ways.{At, ByMap, Hand, IsAskedAt, IsPublishedAt, Way, hands_of}

reply_later : (before : World) (log longer : List Entry) (rank dir : ℕ) (ticket : Option ℕ) (refused : Option WorkError) → IsPrefix log longer
    → IsReply before log rank dir ticket refused → IsReply before longer rank dir ticket refused
reply_later before log longer rank dir (Some ticket) refused more h = begun_later before log longer rank dir ticket more h
reply_later before log longer rank dir None (Some (error.Board e)) more h = met_later before log longer _ e more h
reply_later _ _ _ _ _ _ _ _ h = absurd h

published_later : (before : World) (log longer : List Entry) (dir asked : ℕ) → IsPrefix log longer → IsPublishedAt before log dir asked
    → IsPublishedAt before longer dir asked
published_later before log longer dir asked more h =
    (h.0, record { board = h.1.board; stops = h.1.stops; went = h.1.went; kept = follows h.1.board.history log longer h.1.kept more; named = h.1.named }, h.2)

pub asked_longer : (before : World) (log longer : List Entry) (old new : Way) (dir asked : ℕ) → IsPrefix log longer
    → IsAskedAt before log old new dir asked → IsAskedAt before longer old new dir asked
asked_longer before log longer (At rank) new dir asked more h = h
asked_longer before log longer (ByMap old) new dir asked more (inl h) = inl h
asked_longer before log longer (ByMap old) new dir asked more (inr h) = inr (published_later before log longer dir asked more h)

answered_later : (before : World) (log longer : List Entry) (old new : Way) (work : Work) (a : WorkAnswer) → IsPrefix log longer
    → IsAnswered before log old new work a → IsAnswered before longer old new work a
answered_later before log longer old new work a more h = (
  h.0,
  asked_longer before log longer old new work.dir h.0 more h.1,
  reply_later before log longer h.0 work.dir a.ticket a.refused more h.2,
)

pub each_later : (before : World) (log longer : List Entry) (old new : Way) (works : List Work) (answers : List WorkAnswer) → IsPrefix log longer
    → AllZip (IsAnswered before log old new) works answers → AllZip (IsAnswered before longer old new) works answers
each_later before log longer old new [] [] more h = tt
each_later before log longer old new (w ∷ works) (a ∷ answers) more h =
    (answered_later before log longer old new w a more h.0, each_later before log longer old new works answers more h.1)
each_later _ _ _ _ _ _ _ _ h = absurd h

pub rank_later : (before : World) (log longer : List Entry) (old new : Way) (works : List Work) (answers : List WorkAnswer) → IsPrefix log longer
    → IsRankAnswered before log old new works answers → IsRankAnswered before longer old new works answers
rank_later before log longer old new works answers more (inl each) = inl (each_later before log longer old new works answers more each)
rank_later before log longer old new works answers more (inr none) = inr none

pub all_later : (before : World) (log longer : List Entry) (hands : List Hand) (scripts : List (List Work))
    (answers : List (List WorkAnswer)) (after : List Hand) → IsPrefix log longer
    → AreAnswered before log hands scripts answers after → AreAnswered before longer hands scripts answers after
all_later before log longer [] [] [] [] more h = tt
all_later before log longer (x ∷ hands) (w ∷ scripts) (a ∷ answers) (y ∷ after) more h =
    (rank_later before log longer x.way y.way w a more h.0, h.1, all_later before log longer hands scripts answers after more h.2)
all_later _ _ _ _ _ _ _ _ h = absurd h

pub deposit_later : (before : World) (log longer : List Entry) (deposited : Result Unit BoardError) → IsPrefix log longer
    → IsDepositTold before log deposited → IsDepositTold before longer deposited
deposit_later before log longer (Ok done) more h = tt
deposit_later before log longer (Err e) more h = (h.0, met_later before log longer _ e more h.1)

pub served_later : (limit : ℕ) (before : World) (log longer : List Entry) (shares : List ShareData) (ways : List Way)
    (scripts : List (List Work)) (answers : List (List WorkAnswer)) (after : List ShareData)
    (later : List Way) (deposited : Result Unit BoardError) → IsPrefix log longer → AreServed limit before log shares ways scripts answers after later deposited
    → AreServed limit before longer shares ways scripts answers after later deposited
served_later limit before log longer shares ways scripts answers after later deposited more h = record {
  returned = h.returned;
  answered = all_later before log longer (hands_of shares ways) scripts answers (hands_of after later) more h.answered;
  apart = h.apart;
  clean = h.clean;
  told = deposit_later before log longer deposited more h.told;
}
