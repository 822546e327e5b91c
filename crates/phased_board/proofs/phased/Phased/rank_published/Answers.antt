use Rattle.std.proofs.Common.{List, [], append-nil, subst, sym, ◌∙◌}
use mathlib.Core.List.{IsPrefix}
use Rattle.mds_board.specs.declared.entry.Entry.{Entry}
use Rattle.phased_board.proofs.Going.{went_any}
use Rattle.phased_board.specs.Stops.{ranks_of}
use Rattle.phased_board.proofs.phased.Phased.rank_published.Goals as goal

pub returns-clause-found : goal.returns-clause-found
returns-clause-found g c =
    let board = c.self.inside.board in
    record {
      board = board;
      stops = ranks_of g.K.Phase.stops;
      went = went_any g.K.Phase.requests g.K.Phase.exports (ranks_of g.K.Phase.stops) g.K.Phase.before board c.self.invariant.0.went;
      kept = subst (λ (l : List Entry). IsPrefix board.history l) (sym (c.show.ensures.seen ∙ c.self.invariant.2)) ([], append-nil board.history);
      named = c.rank_published.ensures;
    }
