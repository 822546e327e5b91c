use Rattle.phased_board.proofs.Going.{none_public, of_requests}
use Rattle.phased_board.proofs.laws.requests_keep.Goals as goal

pub returns : goal.returns
returns c = record { published = none_public; entries = of_requests }
