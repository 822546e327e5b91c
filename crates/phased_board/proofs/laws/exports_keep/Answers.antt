use Rattle.phased_board.proofs.Going.{all_keep}
use Rattle.phased_board.proofs.laws.exports_keep.Goals as goal

pub returns : goal.returns
returns c = all_keep
