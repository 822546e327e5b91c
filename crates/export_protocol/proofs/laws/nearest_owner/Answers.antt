use Rattle.export_protocol.proofs.Walks.{promised_nearest}
use Rattle.export_protocol.proofs.laws.nearest_owner.Goals as goal

pub returns : goal.returns
returns c = λ limit ranks events some_rank. promised_nearest limit ranks some_rank events
