use Rattle.export_protocol.proofs.Entries.{is_recorded}
use Rattle.export_protocol.proofs.Named.{never_memory}
use Rattle.export_protocol.proofs.Noted.{are_in_journals, are_made}
use Rattle.export_protocol.proofs.laws.recorded.Goals as goal

pub returns-clause-recorded : goal.returns-clause-recorded
returns-clause-recorded c = λ w e h. is_recorded w h e

pub returns-clause-there : goal.returns-clause-there
returns-clause-there c = λ w h. are_in_journals w h

pub returns-clause-made : goal.returns-clause-made
returns-clause-made c = λ w h. are_made w h

pub returns-clause-never_memory : goal.returns-clause-never_memory
returns-clause-never_memory c = λ w e. never_memory w e
