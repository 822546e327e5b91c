-- What `move` does: the directories that pins hold move, and those of the last plan.
use Rattle.std.specs.Prelude.{◌≡◌, false, true, List, [], ◌++◌, Result}
use Rattle.mds_types.specs.declared.order.Order.{Order}
use Rattle.mds_board.specs.State.{pin_orders}
use Rattle.mds_board.specs.declared.board_error.BoardError.{BoardError}
use Rattle.phased_board.specs.Going.{WentOnWithStops}
use Rattle.phased_board.specs.Outcomes.{AreAll, AreOutcomes}
use Rattle.phased_board.specs.declared.outcome.Outcome.{Outcome}
use Rattle.phased_board.specs.Stops.{AreStopped, ranks_of}
use Rattle.script_board.specs.declared.fault.Fault.{Fault}
use Rattle.script_board.specs.Board.{BoardData}
use Rattle.script_board.specs.Fault.{unless_done}

-- the orders of pins, and then those of the last plan
abbrev pub move_orders : BoardData → List Order
move_orders b = pin_orders b.world.state ++ b.kept

-- The orders were carried out: the history goes on only by events of exports and by the stops that were asked for, and
-- only exports that this move started are aborted; each order has its outcome, no other export was started, and no
-- order is kept. Each of the ranks stopped, or why one didn't is refused. None is to stop any more.
pub record IsMoved (old : BoardData) (refused : List Fault) (carried : List Order) (told : List Outcome)
    (new : BoardData) : Type 0 where
  pub stopped : Result Unit BoardError
  pub orders : carried ≡ move_orders old
  pub went : WentOnWithStops false true (ranks_of old.stops) old.world new.world
  pub stop : AreStopped 8 old.world new.world.history old.stops stopped
  pub met : refused ≡ unless_done stopped
  pub outcomes : AreOutcomes old.world new.world carried told
  pub all : AreAll old.world new.world told
  pub forgotten : new.kept ≡ []
  pub used : new.stops ≡ []
  pub shares : new.shares ≡ old.shares
  pub loads : new.loads ≡ old.loads
