-- What the tables of a cluster mean, and what always holds of them.
use Rattle.std.specs.Prelude.{◌≡◌, ◌≤◌, ◌<◌, ℕ, ◌+◌, suc, Bool, true, ◌&&◌, nat_lt, List, [], ◌∷◌, map, length, Option}
use Rattle.std.specs.Prelude.{None, Some, Result, Ok, Err, slice_get, slice_index_or, Vec, if◌then◌else◌, replicate}
use Rattle.std.specs.Prelude.{false, not, ◌==◌, ◌||◌, is_some}
use Rattle.export_protocol.specs.Cluster.{World}
use Rattle.export_machine.specs.Columns.{has_spare}
use Rattle.export_protocol.specs.Authority.{authority, open_export, is_among, order_in, from_of, exporter_of}
use Rattle.export_protocol.specs.Authority.{importer_of, has_entry}
use Rattle.export_protocol.specs.Step.{running_on, is_child, about, receiver, repeats, comes, is_before_log, happens}
use Rattle.export_protocol.specs.Step.{refusal}
use Rattle.export_protocol.specs.View.{IsReached}
use Rattle.export_protocol.specs.declared.event.Event.{Event}
use Rattle.export_protocol.specs.declared.event.Reply.{Reply}
use Rattle.export_protocol.specs.declared.event.Request.{Request}
use Rattle.export_protocol.specs.declared.exporter.ExporterState.{ExporterState}
use Rattle.export_protocol.specs.declared.importer.ImporterState.{ImporterState}
use Rattle.export_protocol.specs.declared.exporter.ExporterState.TheVariants.{Aborted}
use Rattle.export_protocol.specs.declared.importer.ImporterState.TheVariants.{Unknown, Discovered, Prepared, Dropped}
use Rattle.export_protocol.specs.declared.journal.JournalEntry.{JournalEntry}
use Rattle.export_protocol.specs.declared.message.Message.{Message}
use Rattle.mds_types.specs.declared.order.Order.{Order}
use Rattle.export_protocol.specs.declared.step_error.StepError.{StepError}
use Rattle.export_machine.specs.declared.records.Records.{Records}

abbrev pub world_of : Records → World
world_of r = record {
  limit = r.limit;
  ranks = r.ranks;
  parents = r.dirs.parents;
  journals = map (λ journal. journal.items) r.journals.items;
  orders = r.exports.orders;
  exporters = r.exports.exporters;
  importers = r.exports.importers;
  sent = r.sent.items;
  tickets = r.tickets.items;
  named = r.dirs.named;
  stopped = r.stopped.items;
  events = r.events;
}

-- The tables by directory, which the journals and states determine.

pub record Indexes : Type 0 where
  pub owners : List (Option ℕ)  -- its authority
  pub opened : List (Option ℕ)  -- the open export that it is in
  pub running : List ℕ  -- how many requests run on it
  pub children : List ℕ  -- how many children it has
  pub marks : List Bool  -- none, between the tests of lists
  pub tickets_at : List (List ℕ)  -- by rank: tickets that were given there
  pub open_at : List (List ℕ)  -- by rank: exports whose state there its journal didn't hold
  pub dropped : List Bool  -- by export: whether its importer's journal has it as dropped

abbrev pub indexes_of : Records → Indexes
indexes_of r =
    record {
      owners = r.dirs.owners;
      opened = r.dirs.opened;
      running = r.dirs.running;
      children = r.dirs.children;
      marks = r.marks.items;
      tickets_at = map (λ list. list.items) r.tickets_at.items;
      open_at = map (λ list. list.items) r.open_at.items;
      dropped = r.exports.dropped;
    }

-- how many places of a list pass the test
abbrev pub count_at : {A : Type 0} → (ℕ → A → Bool) → List A → ℕ
count_at test [] = 0
count_at test (a ∷ rest) = (if test 0 a then 1 else 0) + count_at (λ k. test (suc k)) rest

abbrev pub children_of : World → ℕ → ℕ
children_of w d = count_at (is_child d) w.parents

-- the ticket of each running request is among those of its rank
pub record AreByRank (ranks : ℕ) (tickets : List (Option Request)) (tickets_at : List (List ℕ)) : Type 0 where
  pub filed : (t : ℕ) (q : Request) → slice_index_or tickets t None ≡ Some q
      → is_among (slice_index_or tickets_at q.rank []) t ≡ true
  pub ranked : length tickets_at ≡ ranks

-- the states of an import that a stop forgets, where the journal doesn't have it as dropped
abbrev pub is_passing : ImporterState → Bool
is_passing Discovered = true
is_passing Prepared = true
is_passing Dropped = true
is_passing _ = false

-- the importer's journal has the export as dropped
abbrev pub has_dropped : List Order → List (List JournalEntry) → ℕ → Bool
has_dropped orders journals x = has_entry (slice_index_or journals (order_in orders x).to []) (JournalEntry.Dropped x)

-- each export whose state at a rank a stop of the rank would change is among those of the rank
pub record AreListed (ranks : ℕ) (orders : List Order) (exporters : List ExporterState)
    (importers : List ImporterState) (journals : List (List JournalEntry)) (open_at : List (List ℕ))
    (dropped : List Bool) : Type 0 where
  pub exports : (x : ℕ) → is_before_log (slice_index_or exporters x Aborted) ≡ true
      → is_among (slice_index_or open_at (order_in orders x).from []) x ≡ true
  pub imports : (x : ℕ) → is_passing (slice_index_or importers x Unknown) ≡ true
      → has_dropped orders journals x ≡ false → is_among (slice_index_or open_at (order_in orders x).to []) x ≡ true
  pub tells : (x : ℕ) → slice_index_or dropped x false ≡ has_dropped orders journals x
  pub ranked : length open_at ≡ ranks

-- a stop of the rank would change the export's state there
abbrev pub is_open_at : ℕ → List Order → List ExporterState → List ImporterState → List Bool → ℕ → Bool
is_open_at rank orders exporters importers dropped x =
    nat_lt x (length orders)
    && ((((order_in orders x).from == rank) && is_before_log (slice_index_or exporters x Aborted))
    || (((order_in orders x).to == rank) && is_passing (slice_index_or importers x Unknown)
    && not (slice_index_or dropped x false)))

pub record IsIndexed (w : World) (i : Indexes) : Type 0 where
  pub owners : (d : ℕ) → slice_index_or i.owners d None ≡ authority w d
  pub opened : (d : ℕ) → slice_index_or i.opened d None ≡ open_export w d
  pub running : (d : ℕ) → slice_index_or i.running d 0 ≡ running_on w (d ∷ [])
  pub children : (d : ℕ) → slice_index_or i.children d 0 ≡ children_of w d
  pub owner_places : length i.owners ≡ length w.parents
  pub opened_places : length i.opened ≡ length w.parents
  pub running_places : length i.running ≡ length w.parents
  pub children_places : length i.children ≡ length w.parents
  pub unmarked : i.marks ≡ replicate (length w.parents) false
  pub requests : AreByRank w.ranks w.tickets i.tickets_at
  pub listed : AreListed w.ranks w.orders w.exporters w.importers w.journals i.open_at i.dropped
  pub dropped_places : length i.dropped ≡ length w.orders

-- a directory that is there, and one whose parent is another directory with a mark

abbrev pub is_listed : List (Option ℕ) → ℕ → Bool
is_listed parents d = is_some (slice_index_or parents d None)

abbrev pub parent_marked : List Bool → ℕ → Option ℕ → Bool
parent_marked marks d None = false
parent_marked marks d (Some p) = slice_index_or marks p false && not (p == d)

-- some list of events led here, no message or ticket without an event, and the tables by directory are right
pub record IsKept (r : Records) : Type 0 where
  pub reached : IsReached (world_of r)
  pub indexed : IsIndexed (world_of r) (indexes_of r)
  pub distinct : (x : ℕ) → repeats (order_in (world_of r).orders x).dirs ≡ true → ⊥
  pub sent : length r.sent.items ≤ r.events
  pub tickets : length r.tickets.items ≤ r.events
  pub counted : r.events ≤ 1048576
  pub within : length r.dirs.parents ≤ r.limit
  pub few_dirs : r.limit ≤ 65536
  pub few_ranks : r.ranks ≤ 64

-- why a call is refused, if it is
abbrev pub cause_of : {A : Type 0} → Result A StepError → Option StepError
cause_of (Ok a) = None
cause_of (Err error) = Some error

abbrev pub lesser : Option ℕ → ℕ → ℕ
lesser None dir = dir
lesser (Some other) dir = if nat_lt other dir then other else dir

-- Room: where the lists of an event have a place each, the event asks for no memory.

abbrev pub is_spare : {T A : Type 0} → Option (Vec T A) → Bool
is_spare None = true
is_spare (Some list) = has_spare list

-- the list of this rank has a place
abbrev pub has_place : {T A : Type 0} → List (Vec T A) → ℕ → Bool
has_place lists rank = is_spare (slice_get lists rank)

-- the rank's journal and its list of exports have a place
abbrev pub has_entry_places : Records → Option ℕ → Bool
has_entry_places r None = true
has_entry_places r (Some rank) = has_place r.journals.items rank && has_place r.open_at.items rank

abbrev pub receiver_of : World → Option Message → Option ℕ
receiver_of w None = None
receiver_of w (Some message) = Some (receiver w message)

-- the rank in whose journal this event may be entered
unfoldable pub entered_at : World → Event → Option ℕ
entered_at w (Event.Made parent) = authority w parent
entered_at w (Event.Gone dir) = authority w dir
entered_at w (Event.Deliver message) = receiver_of w (slice_get w.sent message)
entered_at w (Event.Notify export) = Some (from_of w export)
entered_at w _ = None

abbrev pub has_dir_places : Records → Bool
has_dir_places r = r.dirs.spare && has_spare r.marks

-- for an export's row, for a message, and in this rank's list of open exports
abbrev pub has_export_places : Records → ℕ → Bool
has_export_places r rank = r.exports.spare && has_spare r.sent && has_place r.open_at.items rank

abbrev pub has_ticket_places : Records → ℕ → Bool
has_ticket_places r rank = has_spare r.tickets && has_place r.tickets_at.items rank

-- the lists of an event except the journal
abbrev pub has_list_places : Records → Event → Bool
has_list_places r (Event.Made parent) = has_dir_places r
has_list_places r (Event.Gone dir) = true
has_list_places r (Event.Begin rank dir) = has_ticket_places r rank
has_list_places r (Event.End ticket) = true
has_list_places r (Event.Start from to dirs) = has_export_places r from
has_list_places r (Event.Deliver message) = has_spare r.sent
has_list_places r (Event.Froze export) = has_spare r.sent
has_list_places r (Event.Notify export) = has_spare r.sent
has_list_places r (Event.Abort export) = has_spare r.sent
has_list_places r (Event.Stop rank) = true
has_list_places r (Event.Restart rank) = true
has_list_places r (Event.Ask export) = has_spare r.sent

unfoldable pub has_room : Records → Event → Bool
has_room r e = has_entry_places r (entered_at (world_of r) e) && has_list_places r e

-- What may happen, and what then happened.

-- no cause refuses the event, and there is room for it
pub record CanHappen (r : Records) (e : Event) : Type 0 where
  pub kept : IsKept r
  pub accepted : refusal (world_of r) e ≡ None
  pub room : has_room r e ≡ true

pub record HasHappened (old : Records) (e : Event) (reply : Reply) (new : Records) : Type 0 where
  pub effect : happens (world_of old) e ≡ record { reply = reply; world = world_of new }
  pub indexed : IsIndexed (world_of new) (indexes_of new)

-- What a rank can rely on where a message comes, and what it then did.

pub record CanReceive (r : Records) (message : Message) : Type 0 where
  pub kept : IsKept r
  pub sent : (number : ℕ) × (slice_get r.sent.items number ≡ Some message)
  pub spare : has_spare r.sent ≡ true
  pub place : has_place r.journals.items (receiver (world_of r) message) ≡ true
  pub listing : has_place r.open_at.items (receiver (world_of r) message) ≡ true
  pub few : r.events < 1048576

pub record IsReceived (old : Records) (message : Message) (reply : Reply) (new : Records) : Type 0 where
  pub effect : comes (world_of old) message ≡ record { reply = reply; world = world_of new }
  pub indexed : IsIndexed (world_of new) (indexes_of new)

-- What a contract sees of a cluster.

-- whether there is room for one more
pub record Room : Type 0 where
  pub dirs : Bool
  pub exports : Bool
  pub messages : Bool
  pub tickets : Bool
  pub requests : List Bool  -- by rank: for the ticket of a request there
  pub listings : List Bool  -- by rank: in its list of open exports
  pub entries : List Bool  -- by rank: in its journal, and for an export there

pub record State : Type 0 where
  pub world : World
  pub room : Room

-- by rank: whether both lists have a place
abbrev pub places_of : {S T A : Type 0} → List (Vec S A) → List (Vec T A) → List Bool
places_of [] lists = map (λ list. has_spare list) lists
places_of {T = T} (journal ∷ journals) [] = (has_spare journal && true) ∷ places_of {T = T} journals []
places_of (journal ∷ journals) (list ∷ lists) = (has_spare journal && has_spare list) ∷ places_of journals lists

abbrev pub state_of : Records → State
state_of r = record {
  world = world_of r;
  room = record {
    dirs = has_dir_places r;
    exports = r.exports.spare;
    messages = has_spare r.sent;
    tickets = has_spare r.tickets;
    requests = map (λ list. has_spare list) r.tickets_at.items;
    listings = map (λ list. has_spare list) r.open_at.items;
    entries = places_of r.journals.items r.open_at.items;
  };
}

abbrev pub is_ready_entry : Room → Option ℕ → Bool
is_ready_entry room None = true
is_ready_entry room (Some rank) = slice_index_or room.entries rank true

abbrev pub is_ready_list : Room → Event → Bool
is_ready_list room (Event.Made parent) = room.dirs
is_ready_list room (Event.Gone dir) = true
is_ready_list room (Event.Begin rank dir) = room.tickets && slice_index_or room.requests rank true
is_ready_list room (Event.End ticket) = true
is_ready_list room (Event.Start from to dirs) = room.exports && room.messages && slice_index_or room.listings from true
is_ready_list room (Event.Deliver message) = room.messages
is_ready_list room (Event.Froze export) = room.messages
is_ready_list room (Event.Notify export) = room.messages
is_ready_list room (Event.Abort export) = room.messages
is_ready_list room (Event.Stop rank) = true
is_ready_list room (Event.Restart rank) = true
is_ready_list room (Event.Ask export) = room.messages

-- where this event is accepted it takes no memory
unfoldable pub is_ready : State → Event → Bool
is_ready state e = is_ready_entry state.room (entered_at state.world e) && is_ready_list state.room e

-- the export that a message is about, and the rank that it is for
abbrev pub addressed : World → Option Message → Option (ℕ × ℕ)
addressed w None = None
addressed w (Some message) = Some (about message, receiver w message)

-- an export's states at its two ranks
abbrev pub states_of : World → ℕ → Option (ExporterState × ImporterState)
states_of w x = if nat_lt x (length w.orders) then Some (exporter_of w x, importer_of w x) else None

-- those of a new cluster
abbrev pub first_indexes : ℕ → Indexes
first_indexes ranks =
    record {
      owners = Some 0 ∷ [];
      opened = None ∷ [];
      running = 0 ∷ [];
      children = 0 ∷ [];
      marks = false ∷ [];
      tickets_at = replicate ranks [];
      open_at = replicate ranks [];
      dropped = [];
    }
