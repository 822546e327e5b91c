-- The boards on the way of a phase, and what their standings and tickets say.
use Rattle.std.specs.Prelude.{◌≡◌, ◌≤◌, ◌+◌, ℕ, Bool, true, Option, List, length, count_by}
use mathlib.Core.List.{IsPrefix}
use Rattle.authority_map.specs.Operations.{rank_after}
use Rattle.phased_board.specs.Asked.{AreAsked, is_begun}
use Rattle.phased_board.specs.Going.{WentOnWithStops}
use Rattle.phased_board.specs.declared.standing.Standing.{Standing}
use Rattle.mds_board.specs.declared.entry.Entry.{Entry}
use Rattle.mds_board.specs.History.{World}
use Rattle.mds_types.specs.declared.order.Order.{Order}

-- In what a board of a phase had published, the directory had this rank, or none. The log begins with its history.
pub record WasPublished (first : World) (log : List Entry) (dir : ℕ) (found : Option ℕ) : Type 0 where
  pub board : World
  pub stops : List ℕ
  pub went : WentOnWithStops true true stops first board
  pub kept : IsPrefix board.history log
  pub named : found ≡ rank_after board.published dir

-- A board on the way of a phase with these orders: it went on, each order is in the state that is kept, no other
-- exports were started, and only tickets below `next` were given.
pub record IsOnTheWay (requests exports : Bool) (stops : List ℕ) (first : World) (orders : List Order) (board : World)
    (standings : List Standing) (next : ℕ) : Type 0 where
  pub went : WentOnWithStops requests exports stops first board
  pub asked : AreAsked first board orders standings
  pub counted : length board.state.cluster.orders ≡ length first.state.cluster.orders + count_by is_begun standings
  pub given : next ≤ length board.state.cluster.tickets
