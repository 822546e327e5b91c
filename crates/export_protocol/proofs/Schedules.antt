-- Worked schedules: the definitions compute the answers.
use Rattle.std.proofs.Common.{◌≡◌, true, false, List, [], ◌∷◌, Some, Ok, Err, refl}
use Rattle.export_protocol.specs.declared.journal.JournalEntry.{JournalEntry}
use Rattle.export_protocol.specs.Authority.{authority, serves, open_export, frozen_by, journal_of, named_of}
use Rattle.export_protocol.specs.declared.event.Event.{Event}
use Rattle.export_protocol.specs.declared.event.Reply.{Reply}
use Rattle.export_protocol.specs.declared.step_error.StepError.{StepError}
use Rattle.export_protocol.specs.Step.{causes, refusal, happens, step, run, answers, start}
use Rattle.export_protocol.specs.declared.event.Event.TheVariants.{Begin, End, Start, Deliver, Froze, Notify, Abort, Stop, Restart, Ask}
use Rattle.export_protocol.specs.declared.event.Reply.TheVariants.{Dir, Ticket, Sent, Changed, Ignored}
use Rattle.export_protocol.specs.declared.step_error.StepError.TheVariants.{Elsewhere, Frozen, Late, NotYet, NoTicket}
use Rattle.export_protocol.specs.declared.step_error.StepError.TheVariants.{NoMessage, NoExport, SameRank, NotConnected, Busy}
use Rattle.export_protocol.specs.declared.exporter.ExporterState.TheVariants.{Discovering, Aborted}

-- A: whole
abbrev whole : List Event
whole = Event.Made 0 ∷ Start 0 1 (1 ∷ []) ∷ Deliver 0 ∷ Deliver 1 ∷ Froze 0 ∷ Deliver 2 ∷ Deliver 3 ∷ Deliver 4 ∷ Deliver 5 ∷ Begin 0 1 ∷
    Begin 1 1 ∷ Notify 0 ∷ Deliver 6 ∷ Begin 1 1 ∷ []

whole_answers : answers (start 4 2) whole ≡ Ok (Dir 1) ∷ Ok (Reply.Export 0 0) ∷ Ok (Sent 1) ∷ Ok Changed ∷ Ok (Sent 2) ∷ Ok (Sent 3) ∷ Ok
    (Sent 4) ∷ Ok (Sent 5) ∷ Ok Changed ∷ Err (Elsewhere 1) ∷ Err (Frozen 0) ∷ Ok (Sent 6) ∷ Ok Changed ∷ Ok (Ticket 0) ∷ []
unfolding step refusal causes happens start authority serves open_export frozen_by
whole_answers = refl

whole_0 : journal_of (run (start 4 2) whole) 0 ≡ JournalEntry.Made 0 ∷ JournalEntry.Made 1 ∷ JournalEntry.Exported 0 ∷ JournalEntry.Notified 0 ∷ []
unfolding step refusal causes happens start authority serves open_export frozen_by
whole_0 = refl

whole_1 : journal_of (run (start 4 2) whole) 1 ≡ JournalEntry.Started 0 ∷ JournalEntry.Imported 0 ∷ []
unfolding step refusal causes happens start authority serves open_export frozen_by
whole_1 = refl

whole_2 : authority (run (start 4 2) whole) 1 ≡ Some 1
unfolding step refusal causes happens start authority serves open_export frozen_by
whole_2 = refl

whole_3 : named_of (run (start 4 2) whole) 1 ≡ Some 1
unfolding step refusal causes happens start authority serves open_export frozen_by
whole_3 = refl

-- A, between log and notify
abbrev window : List Event
window = Event.Made 0 ∷ Start 0 1 (1 ∷ []) ∷ Deliver 0 ∷ Deliver 1 ∷ Froze 0 ∷ Deliver 2 ∷ Deliver 3 ∷ Deliver 4 ∷ Deliver 5 ∷ []

window_answers : answers (start 4 2) window ≡ Ok (Dir 1) ∷ Ok (Reply.Export 0 0) ∷ Ok (Sent 1) ∷ Ok Changed ∷ Ok (Sent 2) ∷ Ok (Sent 3) ∷ Ok
    (Sent 4) ∷ Ok (Sent 5) ∷ Ok Changed ∷ []
unfolding step refusal causes happens start authority serves open_export frozen_by
window_answers = refl

window_0 : named_of (run (start 4 2) window) 1 ≡ Some 0
unfolding step refusal causes happens start authority serves open_export frozen_by
window_0 = refl

window_1 : authority (run (start 4 2) window) 1 ≡ Some 1
unfolding step refusal causes happens start authority serves open_export frozen_by
window_1 = refl

window_2 : serves (run (start 4 2) window) 1 1 ≡ false
unfolding step refusal causes happens start authority serves open_export frozen_by
window_2 = refl

-- B: aborted
abbrev aborted : List Event
aborted = Event.Made 0 ∷ Start 0 1 (1 ∷ []) ∷ Deliver 0 ∷ Deliver 1 ∷ Froze 0 ∷ Deliver 2 ∷ Deliver 3 ∷ Deliver 4 ∷ Abort 0 ∷ Deliver 5 ∷
    Deliver 6 ∷ Abort 0 ∷ []

aborted_answers : answers (start 4 2) aborted ≡ Ok (Dir 1) ∷ Ok (Reply.Export 0 0) ∷ Ok (Sent 1) ∷ Ok Changed ∷ Ok (Sent 2) ∷ Ok (Sent 3) ∷
    Ok (Sent 4) ∷ Ok (Sent 5) ∷ Ok (Sent 6) ∷ Ok Ignored ∷ Ok Changed ∷ Err (Late Aborted) ∷ []
unfolding step refusal causes happens start authority serves open_export frozen_by
aborted_answers = refl

aborted_0 : authority (run (start 4 2) aborted) 1 ≡ Some 0
unfolding step refusal causes happens start authority serves open_export frozen_by
aborted_0 = refl

aborted_1 : journal_of (run (start 4 2) aborted) 0 ≡ JournalEntry.Made 0 ∷ JournalEntry.Made 1 ∷ []
unfolding step refusal causes happens start authority serves open_export frozen_by
aborted_1 = refl

aborted_2 : journal_of (run (start 4 2) aborted) 1 ≡ JournalEntry.Started 0 ∷ JournalEntry.Dropped 0 ∷ []
unfolding step refusal causes happens start authority serves open_export frozen_by
aborted_2 = refl

-- C: repeated, and back
abbrev again : List Event
again = Event.Made 0 ∷ Start 0 1 (1 ∷ []) ∷ Deliver 0 ∷ Deliver 1 ∷ Froze 0 ∷ Deliver 2 ∷ Deliver 3 ∷ Deliver 4 ∷ Deliver 4 ∷ Deliver 5 ∷
    Notify 0 ∷ Deliver 6 ∷ Start 1 0 (1 ∷ []) ∷ Deliver 7 ∷ Deliver 8 ∷ Froze 1 ∷ Deliver 9 ∷ Deliver 10 ∷ Deliver 11 ∷ Deliver 12 ∷ Notify
    1 ∷ Deliver 13 ∷ Deliver 6 ∷ []

again_answers : answers (start 4 2) again ≡ Ok (Dir 1) ∷ Ok (Reply.Export 0 0) ∷ Ok (Sent 1) ∷ Ok Changed ∷ Ok (Sent 2) ∷ Ok (Sent 3) ∷ Ok
    (Sent 4) ∷ Ok (Sent 5) ∷ Ok Ignored ∷ Ok Changed ∷ Ok (Sent 6) ∷ Ok Changed ∷ Ok (Reply.Export 1 7) ∷ Ok (Sent 8) ∷ Ok Changed ∷ Ok
    (Sent 9) ∷ Ok (Sent 10) ∷ Ok (Sent 11) ∷ Ok (Sent 12) ∷ Ok Changed ∷ Ok (Sent 13) ∷ Ok Changed ∷ Ok Ignored ∷ []
unfolding step refusal causes happens start authority serves open_export frozen_by
again_answers = refl

again_0 : authority (run (start 4 2) again) 1 ≡ Some 0
unfolding step refusal causes happens start authority serves open_export frozen_by
again_0 = refl

again_1 : serves (run (start 4 2) again) 0 1 ≡ true
unfolding step refusal causes happens start authority serves open_export frozen_by
again_1 = refl

-- D: requests
abbrev requests : List Event
requests = Event.Made 0 ∷ Begin 0 1 ∷ Start 0 1 (1 ∷ []) ∷ Deliver 0 ∷ Deliver 1 ∷ Froze 0 ∷ Begin 0 1 ∷ End 0 ∷ Froze 0 ∷ []

requests_answers : answers (start 4 2) requests ≡ Ok (Dir 1) ∷ Ok (Ticket 0) ∷ Ok (Reply.Export 0 0) ∷ Ok (Sent 1) ∷ Ok Changed ∷ Err
    (NotYet 1) ∷ Err (Frozen 0) ∷ Ok Changed ∷ Ok (Sent 2) ∷ []
unfolding step refusal causes happens start authority serves open_export frozen_by
requests_answers = refl

-- E: cancelled before it was discovered
abbrev at_once : List Event
at_once = Event.Made 0 ∷ Start 0 1 (1 ∷ []) ∷ Abort 0 ∷ Deliver 1 ∷ Deliver 0 ∷ []

at_once_answers : answers (start 4 2) at_once ≡ Ok (Dir 1) ∷ Ok (Reply.Export 0 0) ∷ Ok (Sent 1) ∷ Ok Changed ∷ Ok Ignored ∷ []
unfolding step refusal causes happens start authority serves open_export frozen_by
at_once_answers = refl

-- refusals
abbrev refused : List Event
refused = Event.Made 0 ∷ Start 0 1 ([]) ∷ Start 0 0 (1 ∷ []) ∷ Start 1 0 (1 ∷ []) ∷ Start 0 1 (1 ∷ []) ∷ Start 0 1 (0 ∷ 1 ∷ []) ∷ Notify 0 ∷
    Deliver 9 ∷ Notify 7 ∷ []

refused_answers : answers (start 4 2) refused ≡ Ok (Dir 1) ∷ Err NotConnected ∷ Err SameRank ∷ Err (Elsewhere 0) ∷ Ok (Reply.Export 0 0) ∷
    Err (Busy 0) ∷ Err (Late Discovering) ∷ Err NoMessage ∷ Err NoExport ∷ []
unfolding step refusal causes happens start authority serves open_export frozen_by
refused_answers = refl

-- F
abbrev stop_logged : List Event
stop_logged = Event.Made 0 ∷ Start 0 1 (1 ∷ []) ∷ Deliver 0 ∷ Deliver 1 ∷ Froze 0 ∷ Deliver 2 ∷ Deliver 3 ∷ Deliver 4 ∷ Deliver 5 ∷ Stop 0 ∷
    Notify 0 ∷ Restart 0 ∷ Notify 0 ∷ Deliver 6 ∷ []

stop_logged_answers : answers (start 4 2) stop_logged
    ≡ Ok (Dir 1) ∷ Ok (Reply.Export 0 0) ∷ Ok (Sent 1) ∷ Ok Changed ∷ Ok (Sent 2) ∷ Ok (Sent 3) ∷ Ok (Sent 4) ∷ Ok (Sent 5) ∷ Ok Changed ∷
    Ok Changed ∷ Err (StepError.Stopped 0) ∷ Ok Changed ∷ Ok (Sent 6) ∷ Ok Changed ∷ []
unfolding step refusal causes happens start authority serves open_export frozen_by
stop_logged_answers = refl

stop_logged_0 : serves (run (start 4 2) stop_logged) 1 1 ≡ true
unfolding step refusal causes happens start authority serves open_export frozen_by
stop_logged_0 = refl

-- G
abbrev stop_exporting : List Event
stop_exporting = Event.Made 0 ∷ Start 0 1 (1 ∷ []) ∷ Deliver 0 ∷ Deliver 1 ∷ Froze 0 ∷ Deliver 2 ∷ Deliver 3 ∷ Deliver 4 ∷ Stop 0 ∷ Ask 0 ∷
    Deliver 6 ∷ Restart 0 ∷ Deliver 6 ∷ Deliver 7 ∷ Deliver 5 ∷ []

stop_exporting_answers : answers (start 4 2) stop_exporting
    ≡ Ok (Dir 1) ∷ Ok (Reply.Export 0 0) ∷ Ok (Sent 1) ∷ Ok Changed ∷ Ok (Sent 2) ∷ Ok (Sent 3) ∷ Ok (Sent 4) ∷ Ok (Sent 5) ∷ Ok Changed ∷
    Ok (Sent 6) ∷ Ok Ignored ∷ Ok Changed ∷ Ok (Sent 7) ∷ Ok Changed ∷ Ok Ignored ∷ []
unfolding step refusal causes happens start authority serves open_export frozen_by
stop_exporting_answers = refl

stop_exporting_0 : serves (run (start 4 2) stop_exporting) 0 1 ≡ true
unfolding step refusal causes happens start authority serves open_export frozen_by
stop_exporting_0 = refl

stop_exporting_1 : journal_of (run (start 4 2) stop_exporting) 1 ≡ JournalEntry.Started 0 ∷ JournalEntry.Dropped 0 ∷ []
unfolding step refusal causes happens start authority serves open_export frozen_by
stop_exporting_1 = refl

-- H
abbrev stop_importer : List Event
stop_importer = Event.Made 0 ∷ Start 0 1 (1 ∷ []) ∷ Deliver 0 ∷ Deliver 1 ∷ Froze 0 ∷ Deliver 2 ∷ Deliver 3 ∷ Deliver 4 ∷ Deliver 5 ∷ Notify
    0 ∷ Stop 1 ∷ Restart 1 ∷ Ask 0 ∷ Deliver 7 ∷ Deliver 8 ∷ Deliver 6 ∷ []

stop_importer_answers : answers (start 4 2) stop_importer
    ≡ Ok (Dir 1) ∷ Ok (Reply.Export 0 0) ∷ Ok (Sent 1) ∷ Ok Changed ∷ Ok (Sent 2) ∷ Ok (Sent 3) ∷ Ok (Sent 4) ∷ Ok (Sent 5) ∷ Ok Changed ∷
    Ok (Sent 6) ∷ Ok Changed ∷ Ok Changed ∷ Ok (Sent 7) ∷ Ok (Sent 8) ∷ Ok Changed ∷ Ok Ignored ∷ []
unfolding step refusal causes happens start authority serves open_export frozen_by
stop_importer_answers = refl

stop_importer_0 : serves (run (start 4 2) stop_importer) 1 1 ≡ true
unfolding step refusal causes happens start authority serves open_export frozen_by
stop_importer_0 = refl

stop_importer_1 : journal_of (run (start 4 2) stop_importer) 1 ≡ JournalEntry.Started 0 ∷ JournalEntry.Imported 0 ∷ []
unfolding step refusal causes happens start authority serves open_export frozen_by
stop_importer_1 = refl

-- I
abbrev stop_prepared : List Event
stop_prepared = Event.Made 0 ∷ Start 0 1 (1 ∷ []) ∷ Deliver 0 ∷ Deliver 1 ∷ Froze 0 ∷ Deliver 2 ∷ Stop 1 ∷ Restart 1 ∷ Deliver 3 ∷ Deliver 4
    ∷ Abort 0 ∷ Deliver 5 ∷ []

stop_prepared_answers : answers (start 4 2) stop_prepared
    ≡ Ok (Dir 1) ∷ Ok (Reply.Export 0 0) ∷ Ok (Sent 1) ∷ Ok Changed ∷ Ok (Sent 2) ∷ Ok (Sent 3) ∷ Ok Changed ∷ Ok Changed ∷ Ok (Sent 4) ∷ Ok
    Ignored ∷ Ok (Sent 5) ∷ Ok Changed ∷ []
unfolding step refusal causes happens start authority serves open_export frozen_by
stop_prepared_answers = refl

stop_prepared_0 : serves (run (start 4 2) stop_prepared) 0 1 ≡ true
unfolding step refusal causes happens start authority serves open_export frozen_by
stop_prepared_0 = refl

-- J
abbrev stop_requests : List Event
stop_requests = Event.Made 0 ∷ Begin 0 1 ∷ Stop 0 ∷ End 0 ∷ Begin 0 1 ∷ Restart 0 ∷ Begin 0 1 ∷ Restart 0 ∷ []

stop_requests_answers : answers (start 4 2) stop_requests
    ≡ Ok (Dir 1) ∷ Ok (Ticket 0) ∷ Ok Changed ∷ Err NoTicket ∷ Err (StepError.Stopped 0) ∷ Ok Changed ∷ Ok (Ticket 1) ∷ Ok Ignored ∷ []
unfolding step refusal causes happens start authority serves open_export frozen_by
stop_requests_answers = refl
