-- Which ranks a phase has asked to serve their requests, and what their answers say.
use Rattle.std.specs.Global.{Global}
use Rattle.std.specs.List.{All}
use Rattle.std.specs.Prelude.{◌≡◌, ◌≤◌, ℕ, List, [], ◌∷◌, ◌++◌, length, Result, IsOk, Vec, vec_capacity}
use Rattle.mds_board.specs.declared.board_error.BoardError.{BoardError}
use Rattle.heat_ledger.specs.Ledger.{IsClean, ShareData}
use Rattle.mds_board.specs.declared.entry.Entry.{Entry}
use Rattle.mds_board.specs.History.{World}
use Rattle.rank_threads.specs.declared.work.Work.{Work}
use Rattle.rank_threads.specs.declared.work.WorkAnswer.{WorkAnswer}
use Rattle.rank_threads.specs.Answered.{AreAnswered, IsDepositTold}
use Rattle.rank_threads.specs.Serving.{AreReturned}
use Rattle.rank_threads.specs.Tickets.{all_tickets}
use Rattle.rank_threads.specs.Ways.{Hand, Way, hands_of}
use Rattle.proof_names.specs.Numbers.{AreApart}

-- what the thread of a rank has, and its script
pub record Asking : Type 0 where
  pub hand : Hand
  pub script : List Work

-- the ranks with these hands and scripts, the last rank first
abbrev pub askings : List Hand → List (List Work) → List Asking
askings (hand ∷ hands) (script ∷ scripts) =
    askings hands scripts ++ record { hand = hand; script = script } ∷ []
askings _ _ = []

-- room for the answers to a script
abbrev pub IsRoomFor : Vec Work Global → Vec WorkAnswer Global → Type 0
IsRoomFor script room = (room.items ≡ []) × (length script.items ≤ vec_capacity room)

-- All ranks have answered, in a phase that began with this board and has come to this log. Their shares have deposited
-- their hits, or a deposit was refused so.
pub record AreServed (limit : ℕ) (before : World) (log : List Entry) (shares : List ShareData) (ways : List Way)
    (scripts : List (List Work)) (answers : List (List WorkAnswer)) (after : List ShareData) (later : List Way)
    (deposited : Result Unit BoardError) : Type 0 where
  pub returned : AreReturned limit shares scripts answers after
  pub answered : AreAnswered before log (hands_of shares ways) scripts answers (hands_of after later)
  pub apart : AreApart (all_tickets answers)
  pub clean : IsOk deposited → All (λ s. IsClean s) after
  pub told : IsDepositTold before log deposited
