use Rattle.export_protocol.proofs.Runs.{reached_promised, reached_found, reached_absent}
use Rattle.export_protocol.proofs.laws.reached.Goals as goal

pub returns-clause-promised : goal.returns-clause-promised
returns-clause-promised c = λ w h. reached_promised w h

pub returns-clause-found : goal.returns-clause-found
returns-clause-found c = λ w r d h. reached_found w h r d

pub returns-clause-absent : goal.returns-clause-absent
returns-clause-absent c = λ w d h. reached_absent w h d
