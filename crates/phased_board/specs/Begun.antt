-- Requests of a phase that began, and that ended.
use Rattle.std.specs.Prelude.{◌≡◌, ◌≢◌, ◌≤◌, ℕ, List, [], ◌∷◌, ◌++◌, None, true, IsOk, Result, Ok, Err, length}
use mathlib.Core.List.{IsPrefix}
use Rattle.export_protocol.specs.declared.event.Event.TheVariants.{Begin, End}
use Rattle.export_protocol.specs.declared.event.Reply.TheVariants.{Ticket}
use Rattle.export_protocol.specs.declared.step_error.StepError.TheVariants.{NoTicket}
use Rattle.export_protocol.specs.Authority.{request_of}
use Rattle.export_protocol.specs.Step as machine
use Rattle.phased_board.specs.Going.{WentOnWithStops}
use Rattle.phased_board.specs.Moments.{IsMet}
use Rattle.mds_board.specs.declared.board_error.BoardError.{BoardError}
use Rattle.mds_board.specs.declared.board_error.BoardError.TheVariants as board_error
use Rattle.mds_board.specs.declared.change.Change.TheVariants.{Step}
use Rattle.mds_board.specs.State.{refusal}
use Rattle.mds_board.specs.declared.entry.Entry.{Entry}
use Rattle.mds_board.specs.History.{World}
use Rattle.mds_board.specs.Stored.{began}

-- The log has the entry of a request that began at this rank, on this directory, with this ticket. Before the entry it
-- is the history of a board that had gone on from the phase's first.
pub record IsBegun (before : World) (log : List Entry) (rank dir ticket : ℕ) : Type 0 where
  pub board : World
  pub stops : List ℕ
  pub went : WentOnWithStops true true stops before board
  pub allowed : refusal board.state (Step (Begin rank dir)) ≡ None
  pub given : (machine.happens board.state.cluster (Begin rank dir)).reply ≡ Ticket ticket
  pub kept : IsPrefix (board.history ++ began rank dir ticket ∷ []) log

-- All ends were accepted, or one was refused so.
abbrev pub IsEndMet : World → List Entry → Result Unit BoardError → Type 0
IsEndMet before log (Ok done) = Unit {0}
IsEndMet before log (Err error) =
    (ticket : ℕ) × IsMet before log (Step (End ticket)) error × (error ≢ board_error.Step NoTicket)

-- No request runs any more that began since, or the end of one was refused.
abbrev pub IsEndTold : World → World → Result Unit BoardError → Type 0
IsEndTold before now ended =
    IsEndMet before now.history ended
    × (IsOk ended → (ticket : ℕ) → length before.state.cluster.tickets ≤ ticket
    → request_of now.state.cluster ticket ≡ None)
