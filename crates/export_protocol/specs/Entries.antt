-- What an event leaves: at most one entry in one journal, and by it the map and the tree.
use Rattle.std.specs.Prelude.{◌≡◌, ◌↔◌, ◌<◌, ℕ, Bool, true, false, ◌==◌, List, [], ◌∷◌, ◌++◌, length, Option, Some}
use Rattle.std.specs.Prelude.{None, slice_get, slice_set, if◌then◌else◌}
use Rattle.export_protocol.specs.declared.exporter.ExporterState.{ExporterState}
use Rattle.export_protocol.specs.declared.exporter.ExporterState.TheVariants.{Logged, Done, Aborted}
use Rattle.export_protocol.specs.declared.importer.ImporterState.{ImporterState}
use Rattle.export_protocol.specs.declared.importer.ImporterState.TheVariants.{Unknown, Started, Imported, Dropped}
use Rattle.export_protocol.specs.declared.journal.JournalEntry.{JournalEntry}
use Rattle.export_protocol.specs.declared.message.Message.{Message}
use Rattle.export_protocol.specs.declared.step_error.StepError.{StepError}
use Rattle.export_protocol.specs.Cluster.{World}
use Rattle.export_protocol.specs.Authority.{is_inside, from_of, to_of, exporter_of, importer_of, journal_of, named_of}
use Rattle.export_protocol.specs.Authority.{is_present, has, authority, is_stopped}
use Rattle.export_protocol.specs.declared.moves.Transition.{Transition}
use Rattle.export_protocol.specs.Step.{move, about, step, refusal, receiver, exporter_by_journal, importer_by_journal}
use Rattle.export_protocol.specs.declared.event.Event.{Event}
use Rattle.export_protocol.specs.declared.event.Event.TheVariants.{Deliver, Notify}

-- an entry, and the rank whose journal has it
pub record Entry : Type 0 where
  pub rank : ℕ
  pub entry : JournalEntry

abbrev pub entered_by : Option ℕ → JournalEntry → Option Entry
entered_by None e = None
entered_by (Some rank) e = Some (record { rank = rank; entry = e })

-- what the receiver of a message writes

abbrev pub noted : ℕ → Option JournalEntry → Option Entry
noted rank None = None
noted rank (Some e) = Some (record { rank = rank; entry = e })

abbrev pub move_entry : ℕ → Option Transition → Option Entry
move_entry rank None = None
move_entry rank (Some v) = noted rank v.entry

abbrev pub comes_entry : World → Message → Option Entry
comes_entry w m = move_entry (receiver w m) (move m (exporter_of w (about m)) (importer_of w (about m)))

abbrev pub delivered_entry : World → Option Message → Option Entry
delivered_entry w None = None
delivered_entry w (Some m) = if is_stopped w (receiver w m) then None else comes_entry w m

-- what an accepted event writes
abbrev pub accepted_entry : World → Event → Option Entry
accepted_entry w (Event.Made parent) = entered_by (authority w parent) (JournalEntry.Made (length w.parents))
accepted_entry w (Event.Gone d) = entered_by (authority w d) (JournalEntry.Gone d)
accepted_entry w (Deliver message) = delivered_entry w (slice_get w.sent message)
accepted_entry w (Notify x) = Some (record { rank = from_of w x; entry = JournalEntry.Notified x })
accepted_entry w _ = None

abbrev pub unless_refused : Option StepError → Option Entry → Option Entry
unless_refused None e = e
unless_refused (Some refusal) e = None

-- what an event writes: a refused one nothing
unfoldable pub entry : World → Event → Option Entry
entry w e = unless_refused (refusal w e) (accepted_entry w e)

-- rank r's journal with the entry, if it is r's
abbrev pub entered : ℕ → Option Entry → List JournalEntry → List JournalEntry
entered r None journal = journal
entered r (Some e) journal = if e.rank == r then journal ++ e.entry ∷ [] else journal

-- the rank that the map names for d, after an entry of this rank
abbrev pub named_after : World → ℕ → ℕ → JournalEntry → Option ℕ
named_after w d rank (JournalEntry.Made c) = if c == d then Some rank else named_of w d
named_after w d rank (JournalEntry.Gone c) = if c == d then None else named_of w d
named_after w d rank (JournalEntry.Notified x) = if is_inside w x d then Some (to_of w x) else named_of w d
named_after w d rank _ = named_of w d

abbrev pub named_by : World → ℕ → Option Entry → Option ℕ
named_by w d None = named_of w d
named_by w d (Some e) = named_after w d e.rank e.entry

-- the parents after an event that is accepted
abbrev pub parents_after : World → Event → List (Option ℕ)
parents_after w (Event.Made parent) = w.parents ++ Some parent ∷ []
parents_after w (Event.Gone d) = slice_set w.parents d None
parents_after w _ = w.parents

-- what an event leaves of the world
pub record IsRecorded (w : World) (e : Event) : Type 0 where
  -- journals only grow, by the event's entry
  pub journals : (r : ℕ) → journal_of (step w e).1 r ≡ entered r (entry w e) (journal_of w r)
  -- the map changes only by the entry
  pub map : (d : ℕ) → named_of (step w e).1 d ≡ named_by w d (entry w e)
  -- the tree changes only by directories that are made and removed
  pub parents : refusal w e ≡ None → (step w e).1.parents ≡ parents_after w e
  -- these never change
  pub limit : (step w e).1.limit ≡ w.limit
  pub ranks : (step w e).1.ranks ≡ w.ranks

abbrev pub is_exported : JournalEntry → Bool
is_exported (JournalEntry.Exported x) = true
is_exported _ = false

abbrev pub is_log : Option Entry → Bool
is_log None = false
is_log (Some e) = is_exported e.entry

-- the event logs an export
unfoldable pub logs_export : World → Event → Bool
logs_export w e = is_log (entry w e)

-- a directory is there if some journal has it as made and none as gone
abbrev pub IsThere : World → ℕ → Type 0
IsThere w d = ((r : ℕ) × (has w r (JournalEntry.Made d) ≡ true)) × ((r : ℕ) → has w r (JournalEntry.Gone d) ≡ false)

-- the journals say which directories are there
abbrev pub AreInJournals : World → Type 0
AreInJournals w = (d : ℕ) → (is_present w d ≡ true) ↔ IsThere w d

-- each export's directories were made
abbrev pub AreMade : World → Type 0
AreMade w = (x d : ℕ) → is_inside w x d ≡ true → d < length w.parents

-- a stopped rank's states are those that its journal holds
pub record IsRecovered (w : World) (r : ℕ) : Type 0 where
  pub exports : (x : ℕ) → from_of w x ≡ r → exporter_of w x ≡ exporter_by_journal w r x
  pub imports : (x : ℕ) → to_of w x ≡ r → importer_of w x ≡ importer_by_journal w r x

-- What a stop leaves, read off the states: what the journal holds of them.

-- of an exporter's state
abbrev pub exporter_at_stop : ExporterState → ExporterState
exporter_at_stop Logged = Logged
exporter_at_stop Done = Done
exporter_at_stop _ = Aborted

-- of an importer's state, from whether its journal has the export as dropped
abbrev pub importer_at_stop : Bool → ImporterState → ImporterState
importer_at_stop has_dropped Started = Started
importer_at_stop has_dropped Imported = Imported
importer_at_stop true Dropped = Dropped
importer_at_stop _ _ = Unknown
