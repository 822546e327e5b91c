-- What holds by a log holds by a longer one, and what a board answers holds by its own history.
use Rattle.std.proofs.Common.{ℕ, true, List, [], ◌∷◌, ◌++◌, Result, Ok, Err, sym, ap, ◌∙◌, append-nil}
use Rattle.std.specs.Prelude.{IfErr}
use mathlib.Core.List.{IsPrefix}
use Rattle.mds_board.specs.declared.board_error.BoardError.{BoardError}
use Rattle.mds_board.specs.declared.change.Answer.{Answer}
use Rattle.mds_board.specs.declared.change.Change.{Change}
use Rattle.mds_board.specs.Steps.{spelled}
use Rattle.phased_board.specs.Going.{WentOnWithStops}
use Rattle.phased_board.specs.Moments.{IsMet}
use Rattle.phased_board.proofs.Asking.{follows, met_later}
use Rattle.mds_board.specs.declared.entry.Entry.{Entry}
use Rattle.mds_board.specs.History.{World, IsAnswer}
use Rattle.mds_board.specs.Stored.{began}
use Rattle.phased_board.specs.Begun.{IsBegun, IsEndMet}

pub begun_later : (before : World) (log longer : List Entry) (rank dir ticket : ℕ) → IsPrefix log longer
    → IsBegun before log rank dir ticket → IsBegun before longer rank dir ticket
begun_later before log longer rank dir ticket more h =
    record {
      board = h.board;
      stops = h.stops;
      went = h.went;
      allowed = h.allowed;
      given = h.given;
      kept = follows (h.board.history ++ began rank dir ticket ∷ []) log longer h.kept more;
    }

pub end_later : (before : World) (log longer : List Entry) (ended : Result Unit BoardError) → IsPrefix log longer
    → IsEndMet before log ended → IsEndMet before longer ended
end_later before log longer (Ok done) more h = tt
end_later before log longer (Err e) more h = (h.0, met_later before log longer _ e more h.1, h.2)

pub met_now : {A : Type 0} → (stops : List ℕ) (before old new : World) (c : Change) (f : A → Answer) (r : Result A BoardError)
    → WentOnWithStops true true stops before old → IsAnswer old c (spelled f r) new
    → IfErr r (λ e. IsMet before new.history c e)
met_now stops before old new c f (Ok x) went a = tt
met_now stops before old new c f (Err e) went a = record {
  board = old;
  stops = stops;
  went = went;
  due = a.0;
  kept = ([], append-nil old.history ∙ sym (ap (λ (w : World). w.history) a.1));
}
