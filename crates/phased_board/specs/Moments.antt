-- The boards on the way of a phase.
use Rattle.std.specs.Prelude.{ℕ, true, List}
use mathlib.Core.List.{IsPrefix}
use Rattle.mds_board.specs.declared.board_error.BoardError.{BoardError}
use Rattle.mds_board.specs.declared.change.Change.{Change}
use Rattle.mds_board.specs.Steps.{IsDue}
use Rattle.mds_board.specs.declared.entry.Entry.{Entry}
use Rattle.mds_board.specs.History.{World}
use Rattle.phased_board.specs.Going.{WentOnWithStops}

-- The log begins with the history of a board that had gone on from the first one and refuses a change so: for its first
-- cause, or as out of memory where none applies.
pub record IsMet (first : World) (log : List Entry) (change : Change) (error : BoardError) : Type 0 where
  pub board : World
  pub stops : List ℕ
  pub went : WentOnWithStops true true stops first board
  pub due : IsDue board.state change error
  pub kept : IsPrefix board.history log
