use Rattle.phased_board.proofs.Full.{goes_between}
use Rattle.phased_board.proofs.laws.went_between.Goals as goal

pub returns : goal.returns
returns c = goes_between
