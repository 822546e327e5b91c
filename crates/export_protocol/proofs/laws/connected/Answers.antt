use Rattle.export_protocol.proofs.Chains.{promised_connected, accepts_connected}
use Rattle.export_protocol.proofs.laws.connected.Goals as goal

pub returns-clause-tested : goal.returns-clause-tested
returns-clause-tested c = λ limit ranks events. promised_connected limit ranks events

pub returns-clause-accepted : goal.returns-clause-accepted
returns-clause-accepted c = λ w parent dirs reached are h. accepts_connected w reached parent dirs are h
