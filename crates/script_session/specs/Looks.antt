-- What the commands `export` and `journal` print.
use Rattle.std.specs.Prelude.{ℕ, Bool, true, false, List, [], ◌∷◌, ◌++◌, codes, decimal, map, Result, Ok, Err}
use Rattle.mds_types.specs.Refusal.{stage_word}
use Rattle.export_protocol.specs.Refused.{stage_of}
use Rattle.export_protocol.specs.declared.importer.ImporterState.{ImporterState}
use Rattle.export_protocol.specs.declared.importer.ImporterState.TheVariants as importer
use Rattle.export_protocol.specs.declared.journal.JournalEntry.{JournalEntry}
use Rattle.export_protocol.specs.declared.journal.JournalEntry.TheVariants as entry
use Rattle.export_protocol.specs.declared.message.Message.{Message}
use Rattle.export_protocol.specs.declared.message.Message.TheVariants as message
use Rattle.script_board.specs.declared.export_fact.ExportFact.{ExportFact}
use Rattle.script_board.specs.declared.export_fact.ExportFact.TheVariants as fact
use Rattle.script_board.specs.declared.fault.Fault.{Fault}
use Rattle.script_board.specs.Board.{BoardData}
use Rattle.script_session.specs.Move.{dir_path}

abbrev pub importer_word : ImporterState → List ℕ
importer_word importer.Unknown = codes "unknown"
importer_word importer.Discovered = codes "discovered"
importer_word importer.Prepared = codes "prepared"
importer_word importer.Started = codes "started"
importer_word importer.Imported = codes "imported"
importer_word importer.Dropped = codes "dropped"

-- what a message says
abbrev pub message_word : Message → List ℕ
message_word (message.Discover x) = codes "Discover"
message_word (message.DiscoverAck x) = codes "DiscoverAck"
message_word (message.Prep x) = codes "Prep"
message_word (message.PrepAck x) = codes "PrepAck"
message_word (message.Export x) = codes "Export"
message_word (message.ExportAck x) = codes "ExportAck"
message_word (message.Finish x) = codes "Finish"
message_word (message.Cancel x) = codes "Cancel"
message_word (message.Query x) = codes "Query"

abbrev pub delivery_word : Bool → List ℕ
delivery_word true = codes "delivered"
delivery_word false = codes "sent"

abbrev pub ranks_line : ℕ → ℕ → ℕ → List ℕ
ranks_line x from to =
    codes "export " ++ decimal x ++ codes " from " ++ decimal from ++ codes " to " ++ decimal to ++ 10 ∷ []

-- the state at one of the ranks
abbrev pub state_line : List ℕ → List ℕ → List ℕ
state_line side word = side ++ codes " " ++ word ++ 10 ∷ []

-- a directory by its number, and its path as long as it is there
abbrev pub moves_line : BoardData → ℕ → List ℕ
moves_line b d = codes "dir " ++ decimal d ++ codes " " ++ dir_path b d ++ 10 ∷ []

abbrev pub message_line : ℕ → List ℕ → List ℕ → List ℕ
message_line m kind told = codes "message " ++ decimal m ++ codes " " ++ kind ++ codes " " ++ told ++ 10 ∷ []

-- the line on one fact of an export
abbrev pub fact_line : BoardData → ExportFact → List ℕ
fact_line b (fact.Way x from to) = ranks_line x from to
fact_line b (fact.Exporter state) = state_line (codes "exporter") (stage_word (stage_of state))
fact_line b (fact.Importer state) = state_line (codes "importer") (importer_word state)
fact_line b (fact.Moves d) = moves_line b d
fact_line b (fact.Sent m kind is_delivered) = message_line m (message_word kind) (delivery_word is_delivered)

-- an entry of a rank's journal that names a directory, or an export
abbrev pub dir_entry_line : BoardData → ℕ → List ℕ → ℕ → List ℕ
dir_entry_line b rank word d =
    codes "journal " ++ decimal rank ++ codes " " ++ word
    ++ codes " " ++ decimal d ++ codes " " ++ dir_path b d ++ 10 ∷ []

abbrev pub export_entry_line : ℕ → List ℕ → ℕ → List ℕ
export_entry_line rank word x =
    codes "journal " ++ decimal rank ++ codes " " ++ word ++ codes " " ++ decimal x ++ 10 ∷ []

-- the line on an entry of a rank's journal
abbrev pub entry_line : BoardData → ℕ → JournalEntry → List ℕ
entry_line b rank (entry.Made d) = dir_entry_line b rank (codes "Made") d
entry_line b rank (entry.Gone d) = dir_entry_line b rank (codes "Gone") d
entry_line b rank (entry.Started x) = export_entry_line rank (codes "Started") x
entry_line b rank (entry.Exported x) = export_entry_line rank (codes "Exported") x
entry_line b rank (entry.Notified x) = export_entry_line rank (codes "Notified") x
entry_line b rank (entry.Imported x) = export_entry_line rank (codes "Imported") x
entry_line b rank (entry.Dropped x) = export_entry_line rank (codes "Dropped") x

-- a line for each of these
abbrev pub listed : {A : Type 0} → (A → List ℕ) → Result (List A) Fault → Result (List (List ℕ)) Fault
listed line (Ok found) = Ok (map line found)
listed line (Err fault) = Err fault
