-- What `traffic` does: the waiting requests are served while orders are carried out.
use Rattle.std.specs.Prelude.{◌≡◌, ◌⊎◌, true, All, List, [], ◌++◌, Result, length, map}
use mathlib.Core.List.{IsPrefix}
use Rattle.authority_map.specs.Operations.{Operation}
use Rattle.phased_board.specs.Outcomes.{AreAll, AreOutcomes}
use Rattle.phased_board.specs.declared.outcome.Outcome.{Outcome}
use Rattle.phased_board.specs.Stops.{AreStopped}
use Rattle.mds_board.specs.declared.board_error.BoardError.{BoardError}
use Rattle.mds_board.specs.History.{World}
use Rattle.mds_types.specs.declared.order.Order.{Order}
use Rattle.rank_threads.specs.Ways.{ByMap}
use Rattle.script_board.specs.declared.fault.Fault.{Fault}
use Rattle.script_board.specs.Board.{BoardData}
use Rattle.script_board.specs.Fault.{unless_done}
use Rattle.script_board.specs.Move.{move_orders}
use Rattle.script_board.specs.Serve.{IsServedBy}

-- What readers of the map hold before a phase and after it. At first each holds just what was published when the phase
-- began. What it holds at last and what is published then are of one line: the one is a beginning of the other.
pub record AreInformed (old new : World) (held later : List (List Operation)) : Type 0 where
  pub at_first : All (λ r. r ≡ old.published) held
  pub at_last : All (λ r. IsPrefix r new.published ⊎ IsPrefix new.published r) later

-- The waiting requests were served by a thread a rank, each request at the rank that the thread's own reader of the map
-- found for its directory at that moment. Meanwhile the orders of `move` were carried out: each has its outcome, and no
-- other export was started. The history goes on only by events of requests, of deposits and of exports and by the stops
-- that were asked for, and only exports that this traffic started are aborted. Each of the ranks stopped, or why one
-- didn't is the last refusal. No request waits any more, no order is kept, and no rank is to stop.
pub record IsTraffic (old : BoardData) (refused : List Fault) (carried : List Order) (told : List Outcome)
    (new : BoardData) : Type 0 where
  pub held : List (List Operation)
  pub later : List (List Operation)
  pub readers : length held ≡ length old.shares
  pub informed : AreInformed old.world new.world held later
  pub met : List Fault
  pub stopped : Result Unit BoardError
  pub served : IsServedBy true old.stops (map ByMap held) (map ByMap later) old met new
  pub stop : AreStopped 8 old.world new.world.history old.stops stopped
  pub all_met : refused ≡ met ++ unless_done stopped
  pub orders : carried ≡ move_orders old
  pub outcomes : AreOutcomes old.world new.world carried told
  pub all : AreAll old.world new.world told
  pub waits : new.loads ≡ []
  pub forgotten : new.kept ≡ []
  pub used : new.stops ≡ []
