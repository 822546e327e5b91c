-- Ranks that stop within a phase.
use Rattle.std.specs.Prelude.{◌≡◌, ◌≤◌, ◌⊎◌, ℕ, List, [], ◌∷◌, ◌++◌, All, IfErr, None, Result, Ok, Err, map, true}
use Rattle.std.specs.List.{Contains}
use mathlib.Core.List.{IsPrefix}
use Rattle.export_protocol.specs.declared.event.Event.TheVariants.{Stop}
use Rattle.mds_board.specs.declared.board_error.BoardError.{BoardError}
use Rattle.mds_board.specs.declared.board_error.BoardError.TheVariants.{Memory}
use Rattle.mds_board.specs.declared.change.Change.TheVariants.{Step}
use Rattle.mds_board.specs.State.{refusal}
use Rattle.mds_board.specs.declared.entry.Entry.{Entry}
use Rattle.mds_board.specs.History.{World, entry_of}
use Rattle.phased_board.specs.Going.{WentOnWithStops}
use Rattle.phased_board.specs.Moments.{IsMet}
use Rattle.phased_board.specs.declared.breaks.RankStop.{RankStop}

-- the ranks that stop
abbrev pub ranks_of : List RankStop → List ℕ
ranks_of stops = map (λ s. s.rank) stops

-- The log has the entry with which the rank stopped. Before the entry it is the history of a board that had gone on
-- from the phase's first.
pub record IsStopped (before : World) (log : List Entry) (rank : ℕ) : Type 0 where
  pub board : World
  pub stops : List ℕ
  pub went : WentOnWithStops true true stops before board
  pub allowed : refusal board.state (Step (Stop rank)) ≡ None
  pub kept : IsPrefix (board.history ++ entry_of board.state (Step (Stop rank)) ∷ []) log

-- a refusal is told, and it is want of memory where this one was
abbrev pub IsToldWith : Result Unit BoardError → BoardError → Type 0
IsToldWith (Ok done) error = ⊥
IsToldWith (Err told) error = error ≡ Memory → told ≡ Memory

-- The rank stopped, or a board on the way refused its stop, and that is told.
abbrev pub IsStopTold : World → List Entry → Result Unit BoardError → ℕ → Type 0
IsStopTold before log told rank =
    IsStopped before log rank
    ⊎ ((error : BoardError) × IsMet before log (Step (Stop rank)) error × IsToldWith told error)

-- The ranks that stop before one of the first `rounds` rounds stopped, or it is told why one couldn't.
pub record AreStopped (rounds : ℕ) (before : World) (log : List Entry) (stops : List RankStop)
    (told : Result Unit BoardError) : Type 0 where
  pub each : All (λ s. 1 ≤ s.round → s.round ≤ rounds → IsStopTold before log told s.rank) stops
  pub met : IfErr told (λ e. (rank : ℕ) × Contains (ranks_of stops) rank × IsMet before log (Step (Stop rank)) e)
