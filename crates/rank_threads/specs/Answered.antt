-- What the answers of a phase say of its board.
use Rattle.std.specs.Prelude.{◌≡◌, ◌⊎◌, ℕ, List, [], ◌∷◌, Option, Some}
use Rattle.std.specs.Prelude.{None, All, Result, Ok, Err}
use Rattle.std.specs.List.{AllZip}
use Rattle.export_protocol.specs.declared.event.Event.TheVariants.{Begin}
use Rattle.heat_ledger.specs.declared.dir_hits.DirHits.{DirHits}
use Rattle.phased_board.specs.Moments.{IsMet}
use Rattle.mds_board.specs.declared.board_error.BoardError.{BoardError}
use Rattle.mds_board.specs.declared.change.Change.TheVariants.{Deposit, Step}
use Rattle.mds_board.specs.declared.entry.Entry.{Entry}
use Rattle.mds_board.specs.History.{World}
use Rattle.phased_board.specs.Begun.{IsBegun}
use Rattle.rank_threads.specs.declared.work.Work.{Work}
use Rattle.rank_threads.specs.declared.work.WorkAnswer.{WorkAnswer}
use Rattle.rank_threads.specs.declared.work.WorkError.{WorkError}
use Rattle.rank_threads.specs.declared.work.WorkError.TheVariants.{Board}
use Rattle.rank_threads.specs.Serving.{IsServed, no_thread}
use Rattle.rank_threads.specs.Tickets.{tickets_of}
use Rattle.rank_threads.specs.Ways.{Hand, IsAskedAt, HoldsAsMuch, Way}

-- what the board said to a request that began or was refused
abbrev pub IsReply : World → List Entry → ℕ → ℕ → Option ℕ → Option WorkError → Type 0
IsReply before log rank dir (Some ticket) refused = IsBegun before log rank dir ticket
IsReply before log rank dir None (Some (Board error)) = IsMet before log (Step (Begin rank dir)) error
IsReply _ _ _ _ _ _ = ⊥

-- the answer is what the board said to the request, asked at this rank
abbrev pub IsAnswered : World → List Entry → Way → Way → Work → WorkAnswer → Type 0
IsAnswered before log old new work answer =
    (asked : ℕ) × IsAskedAt before log old new work.dir asked
    × IsReply before log asked work.dir answer.ticket answer.refused

-- The board answered each request of a rank, or there was no thread for it, which is the answer to each.
abbrev pub IsRankAnswered : World → List Entry → Way → Way → List Work → List WorkAnswer → Type 0
IsRankAnswered before log old new works answers =
    AllZip (IsAnswered before log old new) works answers ⊎ All (λ a. a ≡ no_thread) answers

-- A rank's requests are served: its share counts what the answers name, these are what the board said, and the thread
-- was given the tickets that they name.
pub record IsRankServed (limit : ℕ) (before : World) (log : List Entry) (old : Hand) (works : List Work)
    (answers : List WorkAnswer) (new : Hand) (tickets : List ℕ) : Type 0 where
  pub served : IsServed limit old.share works answers new.share
  pub answered : IsRankAnswered before log old.way new.way works answers
  pub held : HoldsAsMuch old.way new.way
  pub given : tickets ≡ tickets_of answers

-- the answers of all ranks
abbrev pub AreAnswered : World → List Entry → List Hand → List (List Work) → List (List WorkAnswer) → List Hand
    → Type 0
AreAnswered before log [] [] [] [] = Unit {0}
AreAnswered before log (old ∷ hands) (works ∷ scripts) (a ∷ answers) (new ∷ after) =
    IsRankAnswered before log old.way new.way works a × HoldsAsMuch old.way new.way
    × AreAnswered before log hands scripts answers after
AreAnswered _ _ _ _ _ _ = ⊥

-- All was deposited, or a deposit was refused so.
abbrev pub IsDepositTold : World → List Entry → Result Unit BoardError → Type 0
IsDepositTold before log (Ok done) = Unit {0}
IsDepositTold before log (Err error) = (rows : List DirHits) × IsMet before log (Deposit rows) error
