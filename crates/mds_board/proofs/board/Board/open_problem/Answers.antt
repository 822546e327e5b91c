use Rattle.std.proofs.Common.{◌∙◌, ◌++◌, ◌∷◌, [], List, ap}
use Rattle.mds_types.specs.Problem.{ProblemData}
use Rattle.mds_board.specs.declared.change.Answer.TheVariants as answer
use Rattle.mds_board.specs.declared.change.Change.TheVariants as change
use Rattle.mds_board.specs.declared.entry.Entry.{Entry}
use Rattle.mds_board.proofs.Replays.{keeps}
use Rattle.mds_board.proofs.board.Board.open_problem.Goals as goal

pub invariant_of-self-2 : goal.invariant_of-self-2
invariant_of-self-2 g c =
    keeps c.self.inside.state c.open_problem.new.self c.self.inside.history.entries c.keep.new.self.entries (change.Open)
    (answer.Problem c.in_ok-given.given) c.self.invariant c.in_ok-given.ensures.step
    (c.keep.ensures ∙ (ap (λ (p : ProblemData). c.reserve.new.self.entries
    ++ record { change = change.Open; reply = answer.Problem p } ∷ []) c.in_ok-given.ensures.twice
    ∙ ap (λ (es : List Entry). es ++ record { change = change.Open; reply = answer.Problem c.in_ok-given.given } ∷ [])
    c.reserve.ensures.same))
