-- The state of a cluster of metadata ranks that move directories by exports.
-- Directories, ranks, exports, messages and tickets are numbers. Exports, messages and tickets are
-- numbered from 0 in the order in which they were made, each kind by itself.
use Rattle.std.specs.Prelude.{ℕ, Bool, List, Option}
use Rattle.export_protocol.specs.declared.exporter.ExporterState.{ExporterState}
use Rattle.export_protocol.specs.declared.importer.ImporterState.{ImporterState}
use Rattle.export_protocol.specs.declared.journal.JournalEntry.{JournalEntry}
use Rattle.export_protocol.specs.declared.message.Message.{Message}
use Rattle.export_protocol.specs.declared.event.Request.{Request}
use Rattle.mds_types.specs.declared.order.Order.{Order}

pub record World : Type 0 where
  pub limit : ℕ  -- how many directory numbers may be given
  pub ranks : ℕ  -- how many ranks there are
  pub parents : List (Option ℕ)  -- by directory: its parent; None of one that is gone. The root is its own parent
  pub journals : List (List JournalEntry)  -- by rank
  pub orders : List Order  -- by export: what it moves. All that were ever started
  pub exporters : List ExporterState  -- by export: its state at its exporter
  pub importers : List ImporterState  -- by export: its state at its importer
  pub sent : List Message  -- all messages that were ever sent
  pub tickets : List (Option Request)  -- by ticket: its request, None once that has ended
  pub named : List (Option ℕ)  -- the map, by directory
  pub stopped : List Bool  -- by rank: whether it is stopped
  pub events : ℕ  -- how many events were accepted
