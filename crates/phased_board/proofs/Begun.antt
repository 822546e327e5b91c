-- A request that begins.
use Rattle.std.proofs.Common.{◌≡◌, ◌≤◌, ℕ, ◌+◌, List, [], ◌∷◌, ◌++◌, length, length-append, Option}
use Rattle.std.proofs.Common.{Some, true, Result, Ok, Err, refl, sym, ap, ◌∙◌, arith, append-nil}
use Rattle.export_protocol.specs.declared.event.Request.{Request}
use Rattle.std.specs.Prelude.{IfOk, OnErr}
use Rattle.export_protocol.specs.Step as machine
use Rattle.export_protocol.specs.declared.event.Event.TheVariants.{Begin}
use Rattle.export_protocol.specs.declared.event.Reply.TheVariants.{Ticket}
use Rattle.mds_board.specs.declared.board_error.BoardError.{BoardError}
use Rattle.mds_board.specs.declared.change.Answer.{Answer}
use Rattle.mds_board.specs.declared.change.Answer.TheVariants as answer
use Rattle.mds_board.specs.declared.change.Change.TheVariants.{Step}
use Rattle.mds_board.specs.State as state
use Rattle.mds_board.specs.State.{State}
use Rattle.mds_board.specs.Steps.{spelled}
use Rattle.phased_board.specs.Going.{WentOnWithStops}
use Rattle.mds_board.specs.History.{World, IsAnswer}
use Rattle.mds_board.specs.Stored.{began}
use Rattle.phased_board.specs.Begun.{IsBegun}
use Rattle.phased_board.proofs.Ended.{begin_reply, begin_tickets}

reply_is : (s : State) (r d : ℕ) → (machine.happens s.cluster (Begin r d)).reply ≡ Ticket (length s.cluster.tickets)
unfolding machine.happens
reply_is s r d = refl

-- the ticket is the number of those that were given before
pub ticket_is : (s : State) (r d t : ℕ) → answer.Reply (Ticket t) ≡ (state.happens s (Step (Begin r d))).reply → t ≡ length s.cluster.tickets
ticket_is s r d t a = let same : answer.Reply (Ticket t) ≡ answer.Reply (Ticket (length s.cluster.tickets)) = a ∙ begin_reply s r d in cc

given_of : (s : State) (r d t : ℕ) → answer.Reply (Ticket t) ≡ (state.happens s (Step (Begin r d))).reply
    → (machine.happens s.cluster (Begin r d)).reply ≡ Ticket t
given_of s r d t a = reply_is s r d ∙ ap (λ (n : ℕ). Ticket n) (sym (ticket_is s r d t a))

-- the history ends with the request's entry
entered : (old new : World) (r d t : ℕ) → IsAnswer old (Step (Begin r d)) (Ok (answer.Reply (Ticket t))) new → new.history ≡ old.history ++ began r d t ∷ []
entered old new r d t a =
    ap (λ (w : World). w.history) a.3 ∙ ap (λ (x : Answer). old.history ++ record { change = Step (Begin r d); reply = x } ∷ []) (sym a.2)

pub begun_now : (stops : List ℕ) (before old new : World) (rank dir : ℕ) (r : Result ℕ BoardError)
    → WentOnWithStops true true stops before old → IsAnswer old (Step (Begin rank dir)) (spelled (λ t. answer.Reply (Ticket t)) r) new
    → IfOk r (λ t. IsBegun before new.history rank dir t)
begun_now stops before old new rank dir (Err e) went a = tt
begun_now stops before old new rank dir (Ok t) went a = record {
  board = old;
  stops = stops;
  went = went;
  allowed = a.0;
  given = given_of old.state rank dir t a.2;
  kept = ([], append-nil (old.history ++ began rank dir t ∷ []) ∙ sym (entered old new rank dir t a));
}

-- the ticket is above those that were given
pub given_above : (old new : World) (rank dir : ℕ) (r : Result ℕ BoardError) (given : ℕ) → given ≤ length old.state.cluster.tickets
    → IsAnswer old (Step (Begin rank dir)) (spelled (λ t. answer.Reply (Ticket t)) r) new → IfOk r (λ t. given ≤ t)
given_above old new rank dir (Err e) given below a = tt
given_above old new rank dir (Ok t) given below a = let is = ticket_is old.state rank dir t a.2 in omega arith

-- with it they are below the next one
pub given_below : (old new : World) (rank dir : ℕ) (r : Result ℕ BoardError) (given after : ℕ) → given ≤ length new.state.cluster.tickets
    → IsAnswer old (Step (Begin rank dir)) (spelled (λ t. answer.Reply (Ticket t)) r) new → IfOk r (λ t. after ≡ t + 1) → OnErr r (after ≡ given)
    → after ≤ length new.state.cluster.tickets
given_below old new rank dir (Err e) given after below a next same = rw same below
given_below old new rank dir (Ok t) given after below a next same =
    let is = ticket_is old.state rank dir t a.2 in
    let one = ap (λ (w : World). length w.state.cluster.tickets) a.3 in
    let long = ap (λ (ts : List (Option Request)). length ts) (begin_tickets old.state rank dir)
    ∙ length-append old.state.cluster.tickets (Some (record { rank = rank; dir = dir }) ∷ []) in
    omega (arith, is, one, long, next)
