-- Who owns, has authority over and serves a directory, by the journals.
use Rattle.std.specs.Prelude.{◌≡◌, ℕ, zero, suc, Bool, true, false, ◌&&◌, ◌||◌, not, ◌==◌, List, [], ◌∷◌}
use Rattle.std.specs.Prelude.{length, Option, Some, None, is_some, slice_index_or, if◌then◌else◌, ◌⊎◌}
use Rattle.std.specs.List.{list_any}
use Rattle.export_protocol.specs.declared.exporter.ExporterState.{ExporterState}
use Rattle.export_protocol.specs.declared.importer.ImporterState.{ImporterState}
use Rattle.export_protocol.specs.declared.journal.JournalEntry.{JournalEntry}
use Rattle.export_protocol.specs.declared.event.Request.{Request}
use Rattle.export_protocol.specs.Cluster.{World}
use Rattle.mds_types.specs.declared.order.Order.{Order}
use Rattle.export_protocol.specs.declared.exporter.ExporterState.TheVariants.{Freezing, Preparing, Exporting, Aborted}
use Rattle.export_protocol.specs.declared.importer.ImporterState.TheVariants.{Unknown}

-- Reads. What no export, rank or directory has is empty.

abbrev pub no_order : Order
no_order = record { from = 0; to = 0; dirs = [] }

abbrev pub order_in : List Order → ℕ → Order
order_in orders x = slice_index_or orders x no_order

abbrev pub is_among : List ℕ → ℕ → Bool
is_among ns n = list_any (λ m. m == n) ns

-- directory d is in export x
abbrev pub is_inside : World → ℕ → ℕ → Bool
is_inside w x d = is_among (order_in w.orders x).dirs d

abbrev pub from_of : World → ℕ → ℕ
from_of w x = (order_in w.orders x).from

abbrev pub to_of : World → ℕ → ℕ
to_of w x = (order_in w.orders x).to

abbrev pub exporter_of : World → ℕ → ExporterState
exporter_of w x = slice_index_or w.exporters x Aborted

abbrev pub importer_of : World → ℕ → ImporterState
importer_of w x = slice_index_or w.importers x Unknown

abbrev pub journal_of : World → ℕ → List JournalEntry
journal_of w r = slice_index_or w.journals r []

abbrev pub named_of : World → ℕ → Option ℕ
named_of w d = slice_index_or w.named d None

abbrev pub is_present : World → ℕ → Bool
is_present w d = is_some (slice_index_or w.parents d None)

abbrev pub request_of : World → ℕ → Option Request
request_of w t = slice_index_or w.tickets t None

-- Journals.

abbrev pub is_same : JournalEntry → JournalEntry → Bool
is_same (JournalEntry.Made d) (JournalEntry.Made e) = d == e
is_same (JournalEntry.Gone d) (JournalEntry.Gone e) = d == e
is_same (JournalEntry.Started x) (JournalEntry.Started y) = x == y
is_same (JournalEntry.Exported x) (JournalEntry.Exported y) = x == y
is_same (JournalEntry.Notified x) (JournalEntry.Notified y) = x == y
is_same (JournalEntry.Imported x) (JournalEntry.Imported y) = x == y
is_same (JournalEntry.Dropped x) (JournalEntry.Dropped y) = x == y
is_same _ _ = false

abbrev pub has_entry : List JournalEntry → JournalEntry → Bool
has_entry journal e = list_any (λ f. is_same f e) journal

-- rank r's journal has this entry
abbrev pub has : World → ℕ → JournalEntry → Bool
has w r e = has_entry (journal_of w r) e

-- whether d is owned after an entry, from whether it was before
abbrev pub owned_after : List Order → ℕ → Bool → JournalEntry → Bool
owned_after orders d owned (JournalEntry.Made c) = if c == d then true else owned
owned_after orders d owned (JournalEntry.Gone c) = if c == d then false else owned
owned_after orders d owned (JournalEntry.Exported x) = if is_among (order_in orders x).dirs d then false else owned
owned_after orders d owned (JournalEntry.Imported x) = if is_among (order_in orders x).dirs d then true else owned
owned_after orders d owned (JournalEntry.Started x) = owned
owned_after orders d owned (JournalEntry.Notified x) = owned
owned_after orders d owned (JournalEntry.Dropped x) = owned

abbrev pub owned_by : List Order → ℕ → Bool → List JournalEntry → Bool
owned_by orders d owned [] = owned
owned_by orders d owned (e ∷ es) = owned_by orders d (owned_after orders d owned e) es

-- rank r's journal owns d
abbrev pub owns : World → ℕ → ℕ → Bool
owns w r d = owned_by w.orders d false (journal_of w r)

-- rank r's journal has `Started(x)` with neither `Imported(x)` nor `Dropped(x)`
abbrev pub is_importing : World → ℕ → ℕ → Bool
is_importing w r x =
    has w r (JournalEntry.Started x) && not (has w r (JournalEntry.Imported x))
    && not (has w r (JournalEntry.Dropped x))

-- rank r is importing x, which its exporter's journal has as `Exported(x)`
abbrev pub is_taking_over : World → ℕ → ℕ → Bool
is_taking_over w r x = is_importing w r x && has w (from_of w x) (JournalEntry.Exported x)

-- rank r is an authority of d
abbrev pub IsAuthority : World → ℕ → ℕ → Type 0
IsAuthority w r d = (owns w r d ≡ true) ⊎ ((x : ℕ) × (is_taking_over w r x ≡ true) × (is_inside w x d ≡ true))

-- whether some number below n passes the test, and the least that does
abbrev pub any_below : ℕ → (ℕ → Bool) → Bool
any_below zero test = false
any_below (suc n) test = any_below n test || test n

abbrev pub or_else : {A : Type 0} → Option A → Option A → Option A
or_else None other = other
or_else (Some a) other = Some a

abbrev pub first_below : ℕ → (ℕ → Bool) → Option ℕ
first_below zero test = None
first_below (suc n) test = or_else (first_below n test) (if test n then Some n else None)

abbrev pub is_authority : World → ℕ → ℕ → Bool
is_authority w r d = owns w r d || any_below (length w.orders) (λ x. is_taking_over w r x && is_inside w x d)

-- the authority of d
unfoldable pub authority : World → ℕ → Option ℕ
authority w d = first_below w.ranks (λ r. is_authority w r d)

-- Exports.

-- the exporter holds back requests on the export's directories
abbrev pub is_holding : ExporterState → Bool
is_holding Freezing = true
is_holding Preparing = true
is_holding Exporting = true
is_holding _ = false

abbrev pub is_aborted : ExporterState → Bool
is_aborted Aborted = true
is_aborted _ = false

-- x isn't aborted, and its importer's journal has no `Imported(x)`
abbrev pub is_open : World → ℕ → Bool
is_open w x = not (is_aborted (exporter_of w x)) && not (has w (to_of w x) (JournalEntry.Imported x))

-- the open export that d is in
unfoldable pub open_export : World → ℕ → Option ℕ
open_export w d = first_below (length w.orders) (λ x. is_open w x && is_inside w x d)

-- rank r holds d back in its export x
abbrev pub is_held_in : World → ℕ → ℕ → ℕ → Bool
is_held_in w r d x = (from_of w x == r) && is_holding (exporter_of w x) && is_inside w x d

-- rank r serves d
unfoldable pub serves : World → ℕ → ℕ → Bool
serves w r d = owns w r d && not (any_below (length w.orders) (is_held_in w r d))

-- the export because of which rank r, the authority of d, doesn't serve it
unfoldable pub frozen_by : World → ℕ → ℕ → Option ℕ
frozen_by w r d = first_below (length w.orders) (λ x. is_held_in w r d x || (is_taking_over w r x && is_inside w x d))

abbrev pub is_stopped : World → ℕ → Bool
is_stopped w r = slice_index_or w.stopped r false

-- Requests.

abbrev pub runs_on : List ℕ → Option Request → Bool
runs_on dirs None = false
runs_on dirs (Some q) = is_among dirs q.dir
