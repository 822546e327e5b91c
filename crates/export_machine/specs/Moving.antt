-- How the tables of a cluster follow a move.
use Rattle.std.specs.Prelude.{ℕ, true, List, [], ◌∷◌, ◌++◌, Option, None, Some, slice_set, slice_index_or}
use Rattle.std.specs.Prelude.{if◌then◌else◌}
use Rattle.export_protocol.specs.declared.importer.ImporterState.{ImporterState}
use Rattle.export_protocol.specs.declared.importer.ImporterState.TheVariants.{Unknown}
use Rattle.export_protocol.specs.declared.journal.JournalEntry.{JournalEntry}
use Rattle.export_protocol.specs.declared.moves.Transition.{Transition}
use Rattle.mds_types.specs.declared.order.Order.{Order}
use Rattle.export_protocol.specs.Authority.{is_among}
use Rattle.export_protocol.specs.Step.{map_at}
use Rattle.export_machine.specs.Kept.{Indexes}

-- an export that its importer hears of is listed there
abbrev pub heard : ℕ → ℕ → Option ImporterState → ImporterState → List (List ℕ) → List (List ℕ)
heard rank x None state lists = lists
heard rank x (Some next) Unknown lists = slice_set lists rank (slice_index_or lists rank [] ++ x ∷ [])
heard rank x (Some next) _ lists = lists

-- what an entry of the export changes
abbrev pub indexes_noted : Order → ℕ → Option JournalEntry → Indexes → Indexes
indexes_noted order x (Some (JournalEntry.Exported y)) i =
    record i { owners = map_at (λ d old. if is_among order.dirs d then Some order.to else old) i.owners }
indexes_noted order x (Some (JournalEntry.Imported y)) i =
    record i { opened = map_at (λ d old. if is_among order.dirs d then None else old) i.opened }
indexes_noted order x (Some (JournalEntry.Dropped y)) i = record i { dropped = slice_set i.dropped x true }
indexes_noted order x _ i = i

-- what a move of this rank changes, by the importer's state before it
abbrev pub indexes_moved : Order → ℕ → ℕ → ImporterState → Option Transition → Indexes → Indexes
indexes_moved order rank x state None i = i
indexes_moved order rank x state (Some v) i =
    indexes_noted order x v.entry (record i { open_at = heard rank x v.importer state i.open_at })
