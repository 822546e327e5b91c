use Rattle.export_protocol.proofs.Resting.{is_recovered}
use Rattle.export_protocol.proofs.laws.recovered.Goals as goal

pub returns : goal.returns
returns c = λ w r h s. is_recovered w h r s
