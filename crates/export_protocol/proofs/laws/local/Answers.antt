use Rattle.export_protocol.proofs.Local.{is_local}
use Rattle.export_protocol.proofs.laws.local.Goals as goal

pub returns : goal.returns
returns c = λ w h. is_local w h
