-- The events of a cluster: when each is refused, what it changes and what it answers.
use Rattle.std.specs.Prelude.{ℕ, zero, suc, ◌+◌, Bool, true, false, ◌&&◌, ◌||◌, not, ◌==◌, nat_le, List, [], ◌∷◌, ◌++◌}
use Rattle.std.specs.Prelude.{length, Option, Some, None, is_some, Result, Ok, Err, slice_get, slice_index_or}
use Rattle.std.specs.Prelude.{slice_set, if◌then◌else◌, count_by, replicate}
use Rattle.std.specs.List.{list_all}
use Rattle.export_protocol.specs.declared.exporter.ExporterState.{ExporterState}
use Rattle.export_protocol.specs.declared.importer.ImporterState.{ImporterState}
use Rattle.export_protocol.specs.declared.journal.JournalEntry.{JournalEntry}
use Rattle.export_protocol.specs.declared.message.Message.{Message}
use Rattle.export_protocol.specs.declared.moves.Transition.{Transition}
use Rattle.export_protocol.specs.declared.event.Request.{Request}
use Rattle.export_protocol.specs.declared.event.Event.{Event}
use Rattle.export_protocol.specs.declared.event.Event.TheVariants.{Begin, End, Start, Deliver, Froze, Notify, Abort}
use Rattle.export_protocol.specs.declared.event.Event.TheVariants.{Stop, Restart, Ask}
use Rattle.export_protocol.specs.Cluster.{World}
use Rattle.export_protocol.specs.declared.exporter.ExporterState.TheVariants.{Discovering, Freezing, Preparing}
use Rattle.export_protocol.specs.declared.exporter.ExporterState.TheVariants.{Exporting, Logged, Done, Aborted}
use Rattle.export_protocol.specs.declared.importer.ImporterState.TheVariants.{Unknown, Discovered, Prepared, Started}
use Rattle.export_protocol.specs.declared.importer.ImporterState.TheVariants.{Imported, Dropped}
use Rattle.export_protocol.specs.declared.message.Message.TheVariants.{Discover, DiscoverAck, Prep, PrepAck, ExportAck}
use Rattle.export_protocol.specs.declared.message.Message.TheVariants.{Finish, Cancel, Query}
use Rattle.export_protocol.specs.declared.event.Reply.{Reply}
use Rattle.export_protocol.specs.declared.event.Reply.TheVariants.{Ticket, Sent, Changed, Ignored}
use Rattle.export_protocol.specs.declared.step_error.StepError.{StepError}
use Rattle.export_protocol.specs.declared.step_error.StepError.TheVariants.{HistoryFull, NoDir, IsRoot, NotEmpty}
use Rattle.export_protocol.specs.declared.step_error.StepError.TheVariants.{TreeFull, NoRank, SameRank, NotConnected}
use Rattle.export_protocol.specs.declared.step_error.StepError.TheVariants.{ExportsFull, NoExport, NoMessage, NoTicket}
use Rattle.export_protocol.specs.declared.step_error.StepError.TheVariants.{Elsewhere, Busy, Frozen, NotYet, Late}
use Rattle.export_protocol.specs.Authority.{order_in, is_among, is_inside, from_of, to_of, exporter_of, importer_of}
use Rattle.export_protocol.specs.Authority.{journal_of, is_present, request_of, has, authority, open_export, frozen_by}
use Rattle.export_protocol.specs.Authority.{is_stopped, runs_on, or_else}

-- Refusals. The first cause in the list is the answer.

abbrev pub first : List (Option StepError) → Option StepError
first [] = None
first (cause ∷ causes) = or_else cause (first causes)

abbrev pub when : Bool → StepError → Option StepError
when true refusal = Some refusal
when false refusal = None

abbrev pub history_limit : ℕ
history_limit = 1_048_576

abbrev pub export_limit : ℕ
export_limit = 65_536

abbrev pub no_dir : World → ℕ → Option StepError
no_dir w d = when (not (is_present w d)) NoDir

abbrev pub no_rank : World → ℕ → Option StepError
no_rank w r = when (nat_le w.ranks r) NoRank

abbrev pub no_export : World → ℕ → Option StepError
no_export w x = when (nat_le (length w.orders) x) NoExport

abbrev pub rank_stopped : World → ℕ → Option StepError
rank_stopped w r = when (is_stopped w r) (StepError.Stopped r)

abbrev pub busy : Option ℕ → Option StepError
busy None = None
busy (Some x) = Some (Busy x)

abbrev pub held : Option ℕ → Option StepError
held None = None
held (Some x) = Some (Frozen x)

-- a directory that is there has an authority
abbrev pub held_at : World → ℕ → Option ℕ → Option StepError
held_at w d None = Some NoDir
held_at w d (Some r) = held (frozen_by w r d)

abbrev pub authority_stopped : World → Option ℕ → Option StepError
authority_stopped w None = Some NoDir
authority_stopped w (Some r) = rank_stopped w r

-- r isn't the authority
abbrev pub elsewhere : ℕ → Option ℕ → Option StepError
elsewhere r None = Some NoDir
elsewhere r (Some a) = when (not (a == r)) (Elsewhere a)

-- r is the authority of d, or another is
abbrev pub not_served : World → ℕ → ℕ → Option ℕ → Option StepError
not_served w r d None = Some NoDir
not_served w r d (Some a) = if a == r then held (frozen_by w r d) else Some (Elsewhere a)

abbrev pub is_child : ℕ → ℕ → Option ℕ → Bool
is_child parent d None = false
is_child parent d (Some p) = (p == parent) && not (d == parent)

-- the test at some place of a list
abbrev pub any_at : {A : Type 0} → (ℕ → A → Bool) → List A → Bool
any_at test [] = false
any_at test (a ∷ rest) = test 0 a || any_at (λ k. test (suc k)) rest

abbrev pub running_on : World → List ℕ → ℕ
running_on w dirs = count_by (runs_on dirs) w.tickets

abbrev pub not_yet : ℕ → Option StepError
not_yet n = when (not (n == 0)) (NotYet n)

-- the state is none of those that the event wants
abbrev pub late : Bool → ExporterState → Option StepError
late is_wanted state = when (not is_wanted) (Late state)

abbrev pub is_freezing : ExporterState → Bool
is_freezing Freezing = true
is_freezing _ = false

abbrev pub is_logged : ExporterState → Bool
is_logged Logged = true
is_logged _ = false

-- the states before the log entry
abbrev pub is_before_log : ExporterState → Bool
is_before_log Discovering = true
is_before_log Freezing = true
is_before_log Preparing = true
is_before_log Exporting = true
is_before_log _ = false

abbrev pub is_started : ImporterState → Bool
is_started Started = true
is_started _ = false

abbrev pub is_running : Option Request → Bool
is_running request = is_some request

-- a directory is in the list twice
abbrev pub repeats : List ℕ → Bool
repeats [] = false
repeats (d ∷ ds) = is_among ds d || repeats ds

abbrev pub parent_among : List ℕ → ℕ → Option ℕ → Bool
parent_among dirs d None = false
parent_among dirs d (Some p) = is_among dirs p && not (p == d)

-- Only one of the directories has no parent among them: then any two are joined by a chain of them.
abbrev pub is_connected : World → List ℕ → Bool
is_connected w dirs =
    not (repeats dirs) && (count_by (λ d. not (parent_among dirs d (slice_index_or w.parents d None))) dirs == 1)

abbrev pub cannot_leave : World → ℕ → ℕ → Option StepError
cannot_leave w from d = first (busy (open_export w d) ∷ elsewhere from (authority w d) ∷ [])

-- of the directories below n that are in the list, the least that can't leave
abbrev pub least_fault : World → ℕ → List ℕ → ℕ → Option StepError
least_fault w from dirs zero = None
least_fault w from dirs (suc n) =
    or_else (least_fault w from dirs n) (if is_among dirs n then cannot_leave w from n else None)

abbrev pub is_root : ℕ → Bool
is_root d = d == 0

-- the causes for which an event is refused, in their order
unfoldable pub causes : World → Event → List (Option StepError)
causes w (Event.Made parent) =
    no_dir w parent ∷ when (nat_le w.limit (length w.parents)) TreeFull
    ∷ held_at w parent (authority w parent) ∷ authority_stopped w (authority w parent) ∷ []
causes w (Event.Gone d) =
    when (is_root d) IsRoot ∷ no_dir w d ∷ when (any_at (is_child d) w.parents) NotEmpty
    ∷ busy (open_export w d) ∷ not_yet (running_on w (d ∷ [])) ∷ authority_stopped w (authority w d) ∷ []
causes w (Begin rank d) =
    no_rank w rank ∷ rank_stopped w rank ∷ no_dir w d ∷ not_served w rank d (authority w d) ∷ []
causes w (End ticket) = when (not (is_running (request_of w ticket))) NoTicket ∷ []
causes w (Start from to dirs) =
    no_rank w from ∷ no_rank w to ∷ rank_stopped w from ∷ when (from == to) SameRank
    ∷ when (not (list_all (is_present w) dirs)) NoDir ∷ when (not (is_connected w dirs)) NotConnected
    ∷ least_fault w from dirs (length w.parents) ∷ when (nat_le export_limit (length w.orders)) ExportsFull ∷ []
causes w (Deliver message) = when (nat_le (length w.sent) message) NoMessage ∷ []
causes w (Froze x) =
    no_export w x ∷ rank_stopped w (from_of w x) ∷ late (is_freezing (exporter_of w x)) (exporter_of w x)
    ∷ not_yet (running_on w (order_in w.orders x).dirs) ∷ []
causes w (Notify x) =
    no_export w x ∷ rank_stopped w (from_of w x) ∷ late (is_logged (exporter_of w x)) (exporter_of w x) ∷ []
causes w (Abort x) =
    no_export w x ∷ rank_stopped w (from_of w x) ∷ late (is_before_log (exporter_of w x)) (exporter_of w x) ∷ []
causes w (Stop rank) = no_rank w rank ∷ rank_stopped w rank ∷ []
causes w (Restart rank) = no_rank w rank ∷ []
causes w (Ask x) =
    no_export w x ∷ rank_stopped w (to_of w x) ∷ late (is_started (importer_of w x)) (exporter_of w x) ∷ []

-- Effects and replies.

pub record Outcome : Type 0 where
  pub reply : Reply
  pub world : World

abbrev pub changed : World → Outcome
changed w = record { reply = Changed; world = w }

abbrev pub ignored : World → Outcome
ignored w = record { reply = Ignored; world = w }

abbrev pub sends : World → Message → Outcome
sends w m = record { reply = Sent (length w.sent); world = record w { sent = w.sent ++ m ∷ [] } }

abbrev pub exporter_to : World → ℕ → ExporterState → World
exporter_to w x state = record w { exporters = slice_set w.exporters x state }

abbrev pub importer_to : World → ℕ → ImporterState → World
importer_to w x state = record w { importers = slice_set w.importers x state }

abbrev pub journals : World → ℕ → JournalEntry → World
journals w rank e = record w { journals = slice_set w.journals rank (journal_of w rank ++ e ∷ []) }

abbrev pub journaled_by : World → Option ℕ → JournalEntry → World
journaled_by w None e = w
journaled_by w (Some rank) e = journals w rank e

-- a list with each element changed by its place
abbrev pub map_at : {A B : Type 0} → (ℕ → A → B) → List A → List B
map_at f [] = []
map_at f (a ∷ rest) = f 0 a ∷ map_at (λ k. f (suc k)) rest

-- the map names the importer for each directory of the export
abbrev pub names_importer : World → ℕ → World
names_importer w x =
    record w { named = map_at (λ d rank. if is_inside w x d then Some (to_of w x) else rank) w.named }

-- Messages.

-- the export that a message is about
abbrev pub about : Message → ℕ
about (Discover x) = x
about (DiscoverAck x) = x
about (Prep x) = x
about (PrepAck x) = x
about (Message.Export x) = x
about (ExportAck x) = x
about (Finish x) = x
about (Cancel x) = x
about (Query x) = x

-- the rank that a message is for
abbrev pub receiver : World → Message → ℕ
receiver w (Discover x) = to_of w x
receiver w (DiscoverAck x) = from_of w x
receiver w (Prep x) = to_of w x
receiver w (PrepAck x) = from_of w x
receiver w (Message.Export x) = to_of w x
receiver w (ExportAck x) = from_of w x
receiver w (Finish x) = to_of w x
receiver w (Cancel x) = to_of w x
receiver w (Query x) = from_of w x

abbrev pub exporting : ExporterState → Option JournalEntry → Option Message → Option Transition
exporting state e m = Some (record { exporter = Some state; importer = None; entry = e; sends = m })

abbrev pub importing : ImporterState → Option JournalEntry → Option Message → Option Transition
importing state e m = Some (record { exporter = None; importer = Some state; entry = e; sends = m })

abbrev pub telling : Message → Option Transition
telling m = Some (record { exporter = None; importer = None; entry = None; sends = Some m })

-- The table of messages: a message, the states of its export at exporter and importer (a variable: any), the next state
-- of its receiver, what that journals, what it sends. In every other state a message does nothing.
abbrev pub move : Message → ExporterState → ImporterState → Option Transition
move (Discover x) e Unknown = importing Discovered None (Some (DiscoverAck x))
move (DiscoverAck x) Discovering i = exporting Freezing None None
move (Prep x) e Discovered = importing Prepared None (Some (PrepAck x))
move (PrepAck x) Preparing i = exporting Exporting None (Some (Message.Export x))
move (Message.Export x) e Prepared = importing Started (Some (JournalEntry.Started x)) (Some (ExportAck x))
move (ExportAck x) Exporting i = exporting Logged (Some (JournalEntry.Exported x)) None
move (Finish x) e Started = importing Imported (Some (JournalEntry.Imported x)) None
move (Cancel x) e Unknown = importing Dropped None None
move (Cancel x) e Discovered = importing Dropped None None
move (Cancel x) e Prepared = importing Dropped None None
move (Cancel x) e Started = importing Dropped (Some (JournalEntry.Dropped x)) None
move (Query x) Done i = telling (Finish x)
move (Query x) Aborted i = telling (Cancel x)
move _ _ _ = None

-- A move's effect, part by part.

abbrev pub exporter_moves : World → ℕ → Option ExporterState → World
exporter_moves w x None = w
exporter_moves w x (Some state) = exporter_to w x state

abbrev pub importer_moves : World → ℕ → Option ImporterState → World
importer_moves w x None = w
importer_moves w x (Some state) = importer_to w x state

abbrev pub notes : World → ℕ → Option JournalEntry → World
notes w rank None = w
notes w rank (Some e) = journals w rank e

abbrev pub replies : World → Option Message → Outcome
replies w None = changed w
replies w (Some m) = sends w m

abbrev pub moved : World → ℕ → ℕ → Transition → Outcome
moved w x rank v = replies (notes (importer_moves (exporter_moves w x v.exporter) x v.importer) rank v.entry) v.sends

abbrev pub acts : World → Message → Option Transition → Outcome
acts w m None = ignored w
acts w m (Some v) = moved w (about m) (receiver w m) v

-- what a message does at the rank that it is for
abbrev pub comes : World → Message → Outcome
comes w m = acts w m (move m (exporter_of w (about m)) (importer_of w (about m)))

abbrev pub delivered : World → Option Message → Outcome
delivered w None = ignored w
delivered w (Some m) = if is_stopped w (receiver w m) then ignored w else comes w m

-- Stops. What a rank knows then is in its journal.

-- an exporter's and an importer's state by the entries of the journal
abbrev pub exporter_by_journal : World → ℕ → ℕ → ExporterState
exporter_by_journal w rank x =
    if has w rank (JournalEntry.Notified x) then Done
    else (if has w rank (JournalEntry.Exported x) then Logged else Aborted)

abbrev pub importer_by_journal : World → ℕ → ℕ → ImporterState
importer_by_journal w rank x =
    if has w rank (JournalEntry.Imported x) then Imported
    else (if has w rank (JournalEntry.Dropped x) then Dropped
    else (if has w rank (JournalEntry.Started x) then Started else Unknown))

-- the rank's states of its exports and imports are those that its journal holds
abbrev pub recovered : World → ℕ → World
recovered w rank = record w {
  exporters = map_at (λ x state. if from_of w x == rank then exporter_by_journal w rank x else state) w.exporters;
  importers = map_at (λ x state. if to_of w x == rank then importer_by_journal w rank x else state) w.importers;
}

abbrev pub ends_at : ℕ → Option Request → Option Request
ends_at rank None = None
ends_at rank (Some q) = if q.rank == rank then None else Some q

-- a stop ends the rank's requests, too
abbrev pub stops : World → ℕ → World
stops w rank = record (recovered w rank) {
  tickets = map_at (λ t request. ends_at rank request) w.tickets;
  stopped = slice_set w.stopped rank true;
}

abbrev pub restarts : World → ℕ → World
restarts w rank = record (recovered w rank) { stopped = slice_set w.stopped rank false }

unfoldable pub happens : World → Event → Outcome
happens w (Event.Made parent) =
    record {
      reply = Reply.Dir (length w.parents);
      world = record (journaled_by w (authority w parent) (JournalEntry.Made (length w.parents))) {
        parents = w.parents ++ Some parent ∷ [];
        named = w.named ++ authority w parent ∷ [];
      };
    }
happens w (Event.Gone d) =
    changed (record (journaled_by w (authority w d) (JournalEntry.Gone d)) {
      parents = slice_set w.parents d None;
      named = slice_set w.named d None;
    })
happens w (Begin rank d) =
    record {
      reply = Ticket (length w.tickets);
      world = record w { tickets = w.tickets ++ Some (record { rank = rank; dir = d }) ∷ [] };
    }
happens w (End ticket) = changed (record w { tickets = slice_set w.tickets ticket None })
happens w (Start from to dirs) =
    record {
      reply = Reply.Export (length w.orders) (length w.sent);
      world = record w {
        orders = w.orders ++ record { from = from; to = to; dirs = dirs } ∷ [];
        exporters = w.exporters ++ Discovering ∷ [];
        importers = w.importers ++ Unknown ∷ [];
        sent = w.sent ++ Discover (length w.orders) ∷ [];
      };
    }
happens w (Deliver message) = delivered w (slice_get w.sent message)
happens w (Froze x) = sends (exporter_to w x Preparing) (Prep x)
happens w (Notify x) =
    sends (names_importer (journals (exporter_to w x Done) (from_of w x) (JournalEntry.Notified x)) x) (Finish x)
happens w (Abort x) = sends (exporter_to w x Aborted) (Cancel x)
happens w (Stop rank) = changed (stops w rank)
happens w (Restart rank) = if is_stopped w rank then changed (restarts w rank) else ignored w
happens w (Ask x) = sends w (Query x)

-- Steps. A refused event changes nothing.

abbrev pub counted : World → World
counted w = record w { events = w.events + 1 }

abbrev pub answered : World → Outcome → Option StepError → Result Reply StepError × World
answered w outcome None = (Ok outcome.reply, counted outcome.world)
answered w outcome (Some refusal) = (Err refusal, w)

-- the answer of an event that is refused: the first cause
unfoldable pub refusal : World → Event → Option StepError
refusal w e = first (when (nat_le history_limit w.events) HistoryFull ∷ causes w e)

unfoldable pub step : World → Event → Result Reply StepError × World
step w e = answered w (happens w e) (refusal w e)

-- the state after a list of events
abbrev pub run : World → List Event → World
run w [] = w
run w (e ∷ es) = run (step w e).1 es

-- the answers to a list of events
abbrev pub answers : World → List Event → List (Result Reply StepError)
answers w [] = []
answers w (e ∷ es) = (step w e).0 ∷ answers (step w e).1 es

-- Directory 0 is there, and rank 0 has it.
unfoldable pub start : ℕ → ℕ → World
start limit ranks = record {
  limit = limit;
  ranks = ranks;
  parents = Some 0 ∷ [];
  journals = slice_set (replicate ranks []) 0 (JournalEntry.Made 0 ∷ []);
  orders = [];
  exporters = [];
  importers = [];
  sent = [];
  tickets = [];
  named = Some 0 ∷ [];
  stopped = replicate ranks false;
  events = 0;
}
