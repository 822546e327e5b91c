use Rattle.phased_board.proofs.Going.{joins, stays}
use Rattle.phased_board.proofs.laws.went_joins.Goals as goal

pub returns : goal.returns
returns c = record { same = stays; joined = joins }
