use Rattle.phased_board.proofs.Full.{full_at_last}
use Rattle.phased_board.proofs.laws.full_stays.Goals as goal

pub returns : goal.returns
returns c = full_at_last
