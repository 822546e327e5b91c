-- What a phase promises: of its requests, and of its exports.
use Rattle.std.specs.Global.{Global}
use Rattle.std.specs.List.{AllZip}
use Rattle.std.specs.Prelude.{◌≡◌, ◌≤◌, ℕ, List, [], count_by, length, map, Vec, vec_len, vec_capacity}
use Rattle.heat_ledger.specs.Ledger.{ShareData}
use Rattle.mds_board.specs.History.{World}
use Rattle.mds_types.specs.declared.order.Order.{Order}
use Rattle.phased_board.specs.Asked.{AreAsked, is_begun}
use Rattle.phased_board.specs.Begun.{IsEndTold}
use Rattle.phased_board.specs.Outcomes.{AreAll, AreOutcomes}
use Rattle.phased_board.specs.Stops.{AreStopped}
use Rattle.phased_board.specs.declared.breaks.RankStop.{RankStop}
use Rattle.rank_threads.specs.declared.exporting.Exported.{Exported}
use Rattle.rank_threads.specs.declared.exporting.Prepared.{Prepared}
use Rattle.rank_threads.specs.declared.laying.Laid.{Laid}
use Rattle.rank_threads.specs.declared.phase.Joined.{Joined}
use Rattle.rank_threads.specs.declared.phase.Ranks.{Ranks}
use Rattle.rank_threads.specs.declared.work.Work.{Work}
use Rattle.rank_threads.specs.Asking.{AreServed, IsRoomFor}
use Rattle.rank_threads.specs.Ways.{Way}

-- At most 64 scripts. For each a share, a way, and room for its answers; and room for all ranks that are asked.
pub record AreLaid {J W K : Type 0} (scripts : List (Vec Work Global)) (laid : Laid J W K) : Type 0 where
  pub few : length scripts ≤ 64
  pub equal : vec_len laid.shares ≡ length scripts
  pub ways : vec_len laid.ways ≡ length scripts
  pub as_many : vec_len laid.rooms ≡ length scripts
  pub roomy : AllZip IsRoomFor scripts laid.rooms.items
  pub none : laid.asked.items ≡ []
  pub place : length scripts ≤ vec_capacity laid.asked

-- each order waits, and there is room for what becomes of them
pub record IsPrepared (board : World) (orders : List Order) (prepared : Prepared) : Type 0 where
  pub asked : AreAsked board board orders prepared.standings.items
  pub none : count_by is_begun prepared.standings.items ≡ 0
  pub empty : prepared.outcomes.items ≡ []
  pub room : length orders ≤ vec_capacity prepared.outcomes

-- All ranks have answered, in a phase that began with this board, by what its threads know of the board.
abbrev pub AreJoined : {J W K : Type 0} → ℕ → World → List ShareData → List Way → List (List Work) → Joined J W K
    → List Way → Type 0
AreJoined limit before shares ways scripts joined later =
    AreServed limit before joined.known.seen shares ways scripts (map (λ a. a.items) joined.answers.items)
    joined.shares.items later joined.deposited

-- The requests of these scripts are served, in a phase that took the board from the one to the other: what the answers
-- say, and the shares and the ways that come back; and no request that began in it still runs, or that is told.
pub record AreRequestsServed {J : Type 0} (limit : ℕ) (before now : World) (shares : List ShareData) (ways : List Way)
    (scripts : List (Vec Work Global)) (ranks : Ranks J) (later : List Way) : Type 0 where
  pub served : AreServed limit before now.history shares ways (map (λ s. s.items) scripts)
      (map (λ a. a.items) ranks.answers.items) ranks.shares.items later ranks.deposited
  pub ended : IsEndTold before now ranks.ended

-- The orders are carried out, in a phase that took the board from the one to the other: what became of each, and no
-- other export was started; and each rank stopped that was to stop, or that is told.
pub record AreExported (before now : World) (orders : List Order) (stops : List RankStop) (exported : Exported)
    : Type 0 where
  pub outcomes : AreOutcomes before now orders exported.outcomes.items
  pub all : AreAll before now exported.outcomes.items
  pub stopped : AreStopped 8 before now.history stops exported.stopped
