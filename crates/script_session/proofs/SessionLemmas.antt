-- What a session answers.
use Rattle.std.proofs.Common.{◌≡◌, ◌==◌, ℕ, ◌<◌, Bool, true, false, cond, List, refl, sym, ap, subst, ◌∙◌, ◌⊎◌, inl, inr, length, take, Option, Some, None}
use Rattle.script_commands.specs.Commands.{Asked, asked}
use Rattle.script_engine.specs.Answers.{Answer, Takes, fault_text, no_room}
use Rattle.script_board.specs.declared.fault.Fault.{Fault}
use Rattle.script_board.specs.declared.fault.Fault.TheVariants.{Memory}
use Rattle.script_board.specs.Board.{BoardData}
use Rattle.script_session.specs.declared.done.Done.{Done}
use Rattle.script_session.specs.declared.done.Done.TheVariants.{Served, Planned, Lines, Carried}
use Rattle.script_session.specs.Does.{IsCaused}
use Rattle.script_session.specs.Done.{refused_by, shown_at}
use Rattle.script_session.specs.Fault.{words}
use Rattle.script_session.specs.Printed.{Printed}
use Rattle.script_session.specs.Session.{IsDone, IsTold, SessionData, answers, asked_cause, cut_answer, done_answer, fault_answer, out_of_memory, published}

pub answered : (old mid new : SessionData) (number : ℕ) (bytes : List ℕ) (what : Asked) (p : Printed) (ample : Bool) (a : Answer)
    → asked bytes ≡ what → IsDone old what p ample mid → IsTold number p ample mid a new
    → Takes answers old number bytes a new
answered old mid new number bytes what p ample a same done told =
    inl (inl (p, ample, mid, subst (λ (w : Asked). IsDone old w p ample mid) (sym same) done, told))

pub answered_fault : (old new : SessionData) (number : ℕ) (bytes : List ℕ) (what : Asked) (fault : Fault) → asked bytes ≡ what → new ≡ old
    → IsCaused (asked_cause old what) fault
    → (a : Answer) × Takes answers old number bytes a new × (false ≡ a.accepted) × (fault_text number (words fault) ≡ a.text)
answered_fault old new number bytes what fault asks same (inl due) =
    (fault_answer number fault, inl (inr (inl (fault, ap (asked_cause old) asks ∙ due, refl, same))), refl, refl)
answered_fault old new number bytes what fault asks same (inr memory) =
    (out_of_memory number, inl (inr (inr (ap (asked_cause old) asks ∙ memory.1, refl, same))), refl, rw (memory.0) refl)

-- the fields of the line found no room
pub answered_no_room : (old new : SessionData) (number : ℕ) (bytes : List ℕ) (fault : Fault) → new ≡ old → fault ≡ Memory
    → (a : Answer) × Takes answers old number bytes a new × (false ≡ a.accepted) × (fault_text number (words fault) ≡ a.text)
answered_no_room old new number bytes fault same memory = (no_room number, inr (refl, same), refl, rw memory refl)

pub shown_refused : (board : Option BoardData) (done : Done) → (shown_at board done).refused ≡ refused_by done
shown_refused None done = refl
shown_refused (Some b) (Served refused) = refl
shown_refused (Some b) Planned = refl
shown_refused (Some b) (Lines reply) = refl
shown_refused (Some b) (Carried refused reply) = refl

-- memory was refused for a line of the reply
pub told_cut : (number count : ℕ) (p : Printed) (ample : Bool) (mid new : SessionData) → count < length p.lines → new ≡ mid
    → IsTold number p ample mid (cut_answer number (take count p.lines)) new
told_cut number count p ample mid new inside same = inr (count, inside, refl, same)

-- the map isn't published
pub told_unpublished : (number : ℕ) (p : Printed) (ample : Bool) (mid new : SessionData) → new ≡ mid
    → IsTold number p ample mid (done_answer number p false) new
told_unpublished number p ample mid new same = inl (inr (refl, same))

-- a line that refused a request isn't accepted, and the map isn't published
pub told_refused : (number : ℕ) (p : Printed) (ample : Bool) (mid new : SessionData) → (length p.refused == 0) ≡ false → new ≡ mid
    → IsTold number p ample mid (done_answer number p ample) new
told_refused number p ample mid new some same = inl (inl (refl, same ∙ sym (ap (λ (b : Bool). cond b (published mid) mid) some)))

-- the line is accepted, and the map is published if memory suffices
pub told_accepted : (number : ℕ) (p : Printed) (ample : Bool) (mid new : SessionData) → (length p.refused == 0) ≡ true → (new ≡ published mid) ⊎ (new ≡ mid)
    → (a : Answer) × IsTold number p ample mid a new × (true ≡ a.accepted) × (a.text ≡ (done_answer number p ample).text)
told_accepted number p ample mid new none (inl all) =
    (done_answer number p ample, inl (inl (refl, all ∙ sym (ap (λ (b : Bool). cond b (published mid) mid) none))), sym none, refl)
told_accepted number p ample mid new none (inr same) = (done_answer number p false, inl (inr (refl, same)), sym none, refl)
