-- Where memory suffices, a line other than `go`, `plan`, `move` and `traffic` has one answer.
use Rattle.std.proofs.Common.{◌≡◌, ℕ, Bool, true, false, List, refl, sym, ap, ◌∙◌, inl, inr, Option, Some, None, Result, Ok, Err}
use Rattle.export_protocol.specs.declared.event.Reply.{Reply}
use Rattle.script_engine.specs.Answers.{Answer, IsDetermined}
use Rattle.script_commands.specs.Commands as line
use Rattle.script_commands.specs.Commands.{Asked, Command, asked}
use Rattle.script_board.specs.declared.fault.Fault.{Fault}
use Rattle.script_board.specs.Board.{BoardData}
use Rattle.script_session.specs.Does.{Changes, Does, IsQuiet, Meaning, Moves, Plans, Prints, Reports}
use Rattle.script_session.specs.Does.{Serves, Steps, Traffics, cause, failure, is_function, meaning}
use Rattle.script_session.specs.Outcome.{answer_to, held, is_determined, is_sure, line_outcome, outcome, outcome_at, printed, replied, silent, told}
use Rattle.script_session.specs.Printed.{Printed}
use Rattle.script_session.specs.Session.{DoesAt, IsDone, IsTold, SessionData, answers, asked_cause, cause_at}

quiet_outcome : (r : Result BoardData Fault) (p : Printed) (ample : Bool) (new : BoardData) → IsQuiet r p ample new → silent r ≡ Ok (p, new)
quiet_outcome r p ample new h = ap silent h.0 ∙ ap (λ (x : Printed). Ok (x, new)) (sym h.1)

does_outcome : (b : BoardData) (m : Meaning) (p : Printed) (ample : Bool) (new : BoardData) → is_function m ≡ true → Does b m p ample new
    → outcome b m ≡ Ok (p, new)
does_outcome b (Changes change) p ample new sure h = quiet_outcome _ p ample new h
does_outcome b (Prints print) p ample new sure h = ap (printed b) h.1 ∙ (λ i. Ok (sym h.2 i, sym h.4 i))
does_outcome b (Reports report) p ample new sure h = λ i. Ok (sym h.0 i, sym h.2 i)
does_outcome b (Steps step) p ample new sure h = ap replied h.1 ∙ ap (λ (x : Printed). Ok (x, new)) (sym h.2)
does_outcome b Serves p ample new sure h = cc
does_outcome b Plans p ample new sure h = cc
does_outcome b Moves p ample new sure h = cc
does_outcome b Traffics p ample new sure h = cc

silent_fault : (r : Result BoardData Fault) (fault : Fault) → failure r ≡ Some fault → silent r ≡ Err fault
silent_fault (Ok b) fault h = cc
silent_fault (Err e) fault h = cc

printed_fault : (b : BoardData) (r : Result (List (List ℕ)) Fault) (fault : Fault) → failure r ≡ Some fault → printed b r ≡ Err fault
printed_fault b (Ok lines) fault h = cc
printed_fault b (Err e) fault h = cc

replied_fault : (r : Result (Reply × BoardData) Fault) (fault : Fault) → failure r ≡ Some fault → replied r ≡ Err fault
replied_fault (Ok done) fault h = cc
replied_fault (Err e) fault h = cc

cause_outcome : (b : BoardData) (m : Meaning) (fault : Fault) → is_function m ≡ true → cause b m ≡ Some fault → outcome b m ≡ Err fault
cause_outcome b (Changes change) fault sure h = silent_fault _ fault h
cause_outcome b (Prints print) fault sure h = printed_fault b _ fault h
cause_outcome b (Reports report) fault sure h = cc
cause_outcome b (Steps step) fault sure h = replied_fault _ fault h
cause_outcome b Serves fault sure h = cc
cause_outcome b Plans fault sure h = cc
cause_outcome b Moves fault sure h = cc
cause_outcome b Traffics fault sure h = cc

does_outcome_at : (limit : ℕ) (o : Option BoardData) (c : Command) (p : Printed) (ample : Bool) (new : BoardData)
    → is_determined (line.Asks c) ≡ true → DoesAt limit o c p ample new → outcome_at limit o c ≡ Ok (p, new)
does_outcome_at limit (Some b) c p ample new sure h = does_outcome b (meaning c) p ample new sure h
does_outcome_at limit None c p ample new sure h = quiet_outcome _ p ample new h

cause_outcome_at : (limit : ℕ) (o : Option BoardData) (c : Command) (fault : Fault) → is_determined (line.Asks c) ≡ true
    → cause_at limit o c ≡ Some fault → outcome_at limit o c ≡ Err fault
cause_outcome_at limit (Some b) c fault sure h = cause_outcome b (meaning c) fault sure h
cause_outcome_at limit None c fault sure h = silent_fault _ fault h

-- what is done is the outcome
pub done_line : (s : SessionData) (what : Asked) (p : Printed) (ample : Bool) (mid : SessionData) → is_determined what ≡ true
    → IsDone s what p ample mid → line_outcome s what ≡ Ok (p, mid)
done_line s line.Nothing p ample mid sure h = λ i. Ok (sym h.0 i, sym h.2 i)
done_line s line.Syntax p ample mid sure h = absurd h
done_line s (line.Asks c) p ample mid sure h =
    ap (held s) (does_outcome_at s.limit s.board c p ample h.0 sure h.1) ∙ ap (λ (x : SessionData). Ok (p, x)) (sym h.2)

-- a cause that applies is the outcome
pub fault_line : (s : SessionData) (what : Asked) (fault : Fault) → is_determined what ≡ true → asked_cause s what ≡ Some fault
    → line_outcome s what ≡ Err fault
fault_line s line.Nothing fault sure h = cc
fault_line s line.Syntax fault sure h = cc
fault_line s (line.Asks c) fault sure h = ap (held s) (cause_outcome_at s.limit s.board c fault sure h)

same_told : (s new : SessionData) (number : ℕ) (p : Printed) (ample : Bool) (mid : SessionData) (a : Answer) → IsTold number p ample mid a new → a.ample ≡ true
    → (ample ≡ true) × ((a, new) ≡ told s number (Ok (p, mid)))
same_told s new number p ample mid a (inl (inl is)) suffices =
    let all : ample ≡ true = ap (λ (x : Answer). x.ample) (sym is.0) ∙ suffices in
    (all, rw (is.0, is.1, all) refl)
same_told s new number p ample mid a (inl (inr is)) suffices = let no : false ≡ true = rw (is.0) at suffices in cc
same_told s new number p ample mid a (inr cut) suffices = let no : false ≡ true = rw (cut.2) at suffices in cc

pub session_determined : IsDetermined is_sure answers answer_to
session_determined old new number bytes a sure (inl (p, ample, mid, done, is)) suffices =
    let same = same_told old new number p ample mid a is suffices in
    same.1 ∙ ap (told old number) (sym (done_line old (asked bytes) p ample mid sure done))
session_determined old new number bytes a sure (inr (inl (fault, stands, is, same))) suffices =
    rw (is, same, fault_line old (asked bytes) fault sure stands) refl
session_determined old new number bytes a sure (inr (inr (none, is, same))) suffices = let no : false ≡ true = rw (is) at suffices in cc
