-- What a script has made: the board, the shares of its ledger, the requests that wait, the orders that were kept, and
-- the ranks that are to stop.
use Rattle.std.specs.Prelude.{◌≡◌, ℕ, ◌<◌, ◌≤◌, List, [], length, replicate, true}
use Rattle.phased_board.specs.declared.breaks.RankStop.{RankStop}
use Rattle.heat_ledger.specs.Ledger.{ShareData, weight_of}
use Rattle.heat_ledger.specs.Opening.{fresh_share}
use Rattle.mds_types.specs.declared.order.Order.{Order}
use Rattle.mds_board.specs.State.{first_operations, start}
use Rattle.mds_board.specs.History.{World}
use Rattle.script_board.specs.declared.load.Load.{Load}

-- Share k is the one of rank k. Kept are the orders of the last plan, until they are carried out or forgotten. The
-- ranks of `stops` stop in the next `move` or `traffic`, each before its round.
pub record BoardData : Type 0 where
  pub world : World
  pub shares : List ShareData
  pub loads : List Load
  pub kept : List Order
  pub stops : List RankStop

-- only the root at rank 0, without pin, heat, hit, mask or request; the map's first operation is published
abbrev pub empty_board : ℕ → ℕ → BoardData
empty_board limit active = record {
  world = record {
    state = start limit active;
    is_open = true;
    shares = active;
    published = first_operations true;
    history = [];
  };
  shares = replicate active (fresh_share limit);
  loads = [];
  kept = [];
  stops = [];
}

-- readers see all operations on the map
abbrev pub publish : BoardData → BoardData
publish b = record b { world = record b.world { published = b.world.state.map } }

-- Rank 0 has a share, 64 ranks have one at most, and these are all shares of the board's ledger.
pub record IsBoard (b : BoardData) : Type 0 where
  pub some_shares : 0 < length b.shares
  pub few_shares : length b.shares ≤ 64
  pub whole : weight_of b.shares ≡ b.world.shares
