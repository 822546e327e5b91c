-- A rank that stops in a phase.
use Rattle.std.proofs.Common.{ℕ, true, List, [], ◌∷◌, ◌++◌, Result, Ok, Err, inl, inr, ◌≡◌, refl, subst, sym, ap, ◌∙◌, append-nil}
use Rattle.std.specs.Prelude.{IfErr, IsOk, OnOk}
use Rattle.std.specs.List.{Contains}
use mathlib.Core.List.{IsPrefix}
use Rattle.export_protocol.specs.declared.event.Event.TheVariants.{Stop}
use Rattle.export_protocol.specs.declared.event.Reply.{Reply}
use Rattle.mds_board.specs.declared.change.Answer.{Answer}
use Rattle.mds_board.specs.declared.change.Answer.TheVariants as answer
use Rattle.mds_board.specs.declared.change.Change.TheVariants.{Step}
use Rattle.mds_board.specs.declared.entry.Entry.{Entry}
use Rattle.mds_board.specs.History.{World, IsAnswer, entry_of}
use Rattle.phased_board.specs.Going.{WentOnWithStops}
use Rattle.mds_board.specs.declared.board_error.BoardError.{BoardError}
use Rattle.phased_board.specs.Moments.{IsMet}
use Rattle.phased_board.specs.Stops.{AreStopped, IsStopTold, IsStopped, IsToldWith, ranks_of}
use Rattle.phased_board.specs.declared.breaks.RankStop.{RankStop}
use Rattle.phased_board.proofs.Asking.{follows, met_later}
use Rattle.mds_board.specs.Steps.{spelled}
use Rattle.phased_board.proofs.Later.{met_now}

pub stopped_now : (stops : List ℕ) (before old new : World) (rank : ℕ) (reply : Answer) → WentOnWithStops true true stops before old
    → IsAnswer old (Step (Stop rank)) (Ok reply) new → IsStopped before new.history rank
stopped_now stops before old new rank reply went a = record {
  board = old;
  stops = stops;
  went = went;
  allowed = a.0;
  kept = ([], append-nil (old.history ++ entry_of old.state (Step (Stop rank)) ∷ []) ∙ sym (ap (λ (w : World). w.history) a.3));
}

pub stopped_by : (stops : List ℕ) (before old new : World) (rank : ℕ) (r : Result Reply BoardError) (u : Result Unit BoardError)
    → (IsOk u → IsOk r) → WentOnWithStops true true stops before old
    → IsAnswer old (Step (Stop rank)) (spelled answer.Reply r) new → OnOk u (IsStopped before new.history rank)
stopped_by stops before old new rank (Ok reply) (Ok done) same went a = stopped_now stops before old new rank (answer.Reply reply) went a
stopped_by stops before old new rank (Err e) (Ok done) same went a = let no = same refl in absurd (cc)
stopped_by stops before old new rank r (Err e) same went a = tt

pub refused_by : (stops : List ℕ) (before old new : World) (rank : ℕ) (r : Result Reply BoardError) (u : Result Unit BoardError)
    → IfErr u (λ e. r ≡ Err e) → WentOnWithStops true true stops before old
    → IsAnswer old (Step (Stop rank)) (spelled answer.Reply r) new → IfErr u (λ e. IsMet before new.history (Step (Stop rank)) e)
refused_by stops before old new rank r (Ok done) is went a = tt
refused_by stops before old new rank r (Err e) is went a =
    met_now stops before old new (Step (Stop rank)) answer.Reply (Err e) went
    (subst (λ (x : Result Reply BoardError). IsAnswer old (Step (Stop rank)) (spelled answer.Reply x) new) is a)

pub stopped_later : (before : World) (log longer : List Entry) (rank : ℕ) → IsPrefix log longer → IsStopped before log rank → IsStopped before longer rank
stopped_later before log longer rank more h = record {
  board = h.board;
  stops = h.stops;
  went = h.went;
  allowed = h.allowed;
  kept = follows (h.board.history ++ entry_of h.board.state (Step (Stop rank)) ∷ []) log longer h.kept more;
}

-- a stop that was told is told by a longer log, and by what is told of more stops
pub told_more : (before : World) (log longer : List Entry) (told next : Result Unit BoardError) (rank : ℕ) → IsPrefix log longer
    → ((e : BoardError) → IsToldWith told e → IsToldWith next e) → IsStopTold before log told rank → IsStopTold before longer next rank
told_more before log longer told next rank more kept (inl h) = inl (stopped_later before log longer rank more h)
told_more before log longer told next rank more kept (inr h) = inr (h.0, met_later before log longer (Step (Stop rank)) h.0 more h.1, kept h.0 h.2)

-- the refusal that is told is one of these stops'
abbrev pub IsMetOf : World → List Entry → List RankStop → Result Unit BoardError → Type 0
IsMetOf before log stops told = IfErr told (λ e. (rank : ℕ) × Contains (ranks_of stops) rank × IsMet before log (Step (Stop rank)) e)

pub met_more : (before : World) (log longer : List Entry) (stops : List RankStop) (told : Result Unit BoardError) → IsPrefix log longer
    → IsMetOf before log stops told → IsMetOf before longer stops told
met_more before log longer stops (Ok done) more h = tt
met_more before log longer stops (Err e) more h = (h.0, h.1, met_later before log longer (Step (Stop h.0)) e more h.2)

pub all_later : (rounds : ℕ) (before : World) (log longer : List Entry) (stops : List RankStop) (told : Result Unit BoardError) → IsPrefix log longer
    → AreStopped rounds before log stops told → AreStopped rounds before longer stops told
all_later rounds before log longer stops told more h = record {
  each = λ i d l one few. told_more before log longer told told _ more (λ e is. is) (h.each i d l one few);
  met = met_more before log longer stops told more h.met;
}
