-- What became of orders.
use Rattle.std.specs.Prelude.{◌≡◌, ◌≤◌, ◌+◌, ℕ, Bool, true, false, List, length, count_by, slice_get, Some}
use Rattle.export_protocol.specs.Authority.{exporter_of, importer_of}
use Rattle.export_protocol.specs.declared.event.Event.TheVariants.{Start}
use Rattle.export_protocol.specs.declared.exporter.ExporterState.{ExporterState}
use Rattle.export_protocol.specs.declared.exporter.ExporterState.TheVariants.{Aborted}
use Rattle.export_protocol.specs.declared.importer.ImporterState.{ImporterState}
use Rattle.export_protocol.specs.declared.importer.ImporterState.TheVariants.{Imported}
use Rattle.mds_types.specs.declared.order.Order.{Order}
use Rattle.mds_board.specs.declared.board_error.BoardError.{BoardError}
use Rattle.mds_board.specs.declared.change.Change.TheVariants.{Step}
use Rattle.mds_board.specs.History.{World}
use Rattle.phased_board.specs.declared.outcome.Outcome.{Outcome}
use Rattle.phased_board.specs.declared.outcome.Outcome.TheVariants.{Done, NoThread, Open, Refused}
use Rattle.phased_board.specs.declared.outcome.Outcome.TheVariants as outcome
use Rattle.phased_board.specs.Moments.{IsMet}
use Rattle.phased_board.specs.Pairs.{AreEach}

-- this export is the order's, and was started between the two
abbrev pub IsStarted : World → World → Order → ℕ → Type 0
IsStarted old new order x = (length old.state.cluster.orders ≤ x) × (slice_get new.state.cluster.orders x ≡ Some order)

-- a board on the way from the one to the other refused the order for this
abbrev pub IsRefused : World → World → Order → BoardError → Type 0
IsRefused old new order error = IsMet old new.history (Step (Start order.from order.to order.dirs)) error

-- what became of an export in these states at its two ranks
abbrev pub by_states : ℕ → ExporterState → ImporterState → Outcome
by_states x _ Imported = Done x
by_states x Aborted _ = outcome.Aborted x
by_states x _ _ = Open x

-- the export of an order, with what became of it by its states
abbrev pub IsTold : World → World → Order → Outcome → Type 0
IsTold old new order told =
    (x : ℕ) × IsStarted old new order x × (told
    ≡ by_states x (exporter_of new.state.cluster x) (importer_of new.state.cluster x))

-- What became of an order is why it was refused, or the state of its export. Nothing is
-- said of one for which there was no thread.
abbrev pub IsOutcome : World → World → Order → Outcome → Type 0
IsOutcome old new order NoThread = Unit {0}
IsOutcome old new order (Refused error) = IsRefused old new order error
IsOutcome old new order told = IsTold old new order told

-- one for each order, in their order
abbrev pub AreOutcomes : World → World → List Order → List Outcome → Type 0
AreOutcomes old new orders outcomes = AreEach (IsOutcome old new) orders outcomes

-- an export was started for it
abbrev pub is_started : Outcome → Bool
is_started (Refused error) = false
is_started NoThread = false
is_started _ = true

-- No other exports were started.
abbrev pub AreAll : World → World → List Outcome → Type 0
AreAll old new outcomes =
    length new.state.cluster.orders ≡ length old.state.cluster.orders + count_by is_started outcomes
