-- What exports have left: their states and their messages, and what the journals of ranks have.
use Rattle.std.specs.List.{list_any}
use Rattle.std.specs.Option.{option_map}
use Rattle.std.specs.Prelude.{ℕ, ◌==◌, Bool, false, List, ◌∷◌, ◌++◌, filter, length, map, slice_index_or}
use Rattle.std.specs.Prelude.{Option, Some, None, Result}
use Rattle.dir_pins.specs.Pins.{below}
use Rattle.export_protocol.specs.Authority.{exporter_of, from_of, importer_of, journal_of, order_in, to_of}
use Rattle.export_protocol.specs.Step.{about, no_export, no_rank}
use Rattle.export_protocol.specs.declared.event.Event.TheVariants.{Deliver}
use Rattle.export_protocol.specs.declared.journal.JournalEntry.{JournalEntry}
use Rattle.export_protocol.specs.declared.message.Message.{Message}
use Rattle.export_protocol.specs.declared.message.Message.TheVariants.{Discover}
use Rattle.export_protocol.specs.declared.step_error.StepError.{StepError}
use Rattle.mds_board.specs.declared.board_error.BoardError.{BoardError}
use Rattle.mds_board.specs.declared.board_error.BoardError.TheVariants.{Step as StepRefused}
use Rattle.mds_board.specs.declared.change.Change.{Change}
use Rattle.mds_board.specs.declared.change.Change.TheVariants.{Step}
use Rattle.mds_board.specs.declared.entry.Entry.{Entry}
use Rattle.mds_board.specs.History.{World}
use Rattle.script_board.specs.declared.export_fact.ExportFact.{ExportFact}
use Rattle.script_board.specs.declared.export_fact.ExportFact.TheVariants as fact
use Rattle.script_board.specs.declared.fault.Fault.{Fault}
use Rattle.script_board.specs.Board.{BoardData}
use Rattle.script_board.specs.Fault.{unless}

-- the message that comes to its rank by a change, if one does
abbrev pub message_come : Change → Option ℕ
message_come (Step (Deliver m)) = Some m
message_come _ = None

abbrev pub is_that : ℕ → Option ℕ → Bool
is_that m None = false
is_that m (Some n) = n == m

abbrev pub brings : ℕ → Entry → Bool
brings m e = is_that m (message_come e.change)

-- whether a message was delivered, even if it did nothing then
abbrev pub was_delivered : World → ℕ → Bool
was_delivered w m = list_any (brings m) w.history

abbrev pub sent_message : World → ℕ → Message
sent_message w m = slice_index_or w.state.cluster.sent m (Discover 0)

abbrev pub is_message_of : World → ℕ → ℕ → Bool
is_message_of w x m = about (sent_message w m) == x

-- the numbers of the messages about an export, in the order in which they were sent
abbrev pub messages_of : World → ℕ → List ℕ
messages_of w x = filter (is_message_of w x) (below (length w.state.cluster.sent))

abbrev pub message_fact : World → ℕ → ExportFact
message_fact w m = fact.Sent m (sent_message w m) (was_delivered w m)

-- an export: its two ranks, its state at each, its directories and its messages
abbrev pub facts_of : World → ℕ → List ExportFact
facts_of w x =
    fact.Way x (from_of w.state.cluster x) (to_of w.state.cluster x)
    ∷ fact.Exporter (exporter_of w.state.cluster x) ∷ fact.Importer (importer_of w.state.cluster x)
    ∷ map fact.Moves (order_in w.state.cluster.orders x).dirs ++ map (message_fact w) (messages_of w x)

abbrev pub refused_step : Option StepError → Option BoardError
refused_step refusal = option_map StepRefused refusal

-- an export that was started
abbrev pub export_facts : BoardData → ℕ → Result (List ExportFact) Fault
export_facts b x = unless (refused_step (no_export b.world.state.cluster x)) (facts_of b.world x)

-- the journal of an active rank, the oldest entry first
abbrev pub journal_entries : BoardData → ℕ → Result (List JournalEntry) Fault
journal_entries b rank =
    unless (refused_step (no_rank b.world.state.cluster rank)) (journal_of b.world.state.cluster rank)
