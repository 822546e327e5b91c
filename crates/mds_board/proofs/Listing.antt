-- Lists of commands and of events, one more at a time.
use Rattle.std.proofs.Common.{◌≡◌, List, [], ◌∷◌, ◌++◌, Result, refl, sym, ap, ◌∙◌, append_assoc, append-nil, subst}
use Rattle.mds_board.specs.declared.board_error.BoardError.{BoardError}
use Rattle.mds_board.specs.declared.change.Answer.{Answer}
use Rattle.export_protocol.specs.declared.event.Event.{Event}
use Rattle.mds_types.specs.Problem.{ProblemData}
use Rattle.mds_types.specs.declared.plan.Plan.{Plan}
use Rattle.mds_board.specs.Commands.{AreCarriedOut, IsCarriedOut}
use Rattle.mds_board.specs.declared.command.BoardCommand.{BoardCommand}
use Rattle.mds_board.specs.declared.entry.Entry.{Entry}
use Rattle.mds_board.specs.History.{World}
use Rattle.mds_board.specs.Promises.{cluster_event, cluster_events}

-- one more command
pub carried_next : (also : ProblemData → Plan → Type 0) (old between new : World) (cs : List BoardCommand)
    (answers : List (Result Answer BoardError)) (c : BoardCommand) (a : Result Answer BoardError)
    → AreCarriedOut also old cs answers between → IsCarriedOut also between c a new → AreCarriedOut also old (cs ++ c ∷ []) (answers ++ a ∷ []) new
carried_next also old between new [] [] c a same h = (new, subst (λ (w : World). IsCarriedOut also w c a new) same h, refl)
carried_next also old between new (d ∷ ds) (b ∷ bs) c a h last = (h.0, h.1, carried_next also h.0 between new ds bs c a h.2 last)
carried_next also old between new [] (b ∷ bs) c a h last = absurd h
carried_next also old between new (d ∷ ds) [] c a h last = absurd h

-- one more entry
pub events_next : (es : List Entry) (e : Entry) → cluster_events (es ++ e ∷ []) ≡ cluster_events es ++ cluster_event e.change
events_next [] e = append-nil (cluster_event e.change)
events_next (f ∷ fs) e = ap (λ (rest : List Event). cluster_event f.change ++ rest) (events_next fs e)
    ∙ sym (append_assoc (cluster_event f.change) (cluster_events fs) (cluster_event e.change))
