use Rattle.export_protocol.proofs.Theorem.{promised_authority, promised_served, promised_requests, promised_kept, promised_named, promised_gone}
use Rattle.export_protocol.proofs.Walks.{promised_ended}
use Rattle.export_protocol.proofs.laws.one_authority.Goals as goal

pub returns-clause-authority : goal.returns-clause-authority
returns-clause-authority c = λ limit ranks events some_rank. promised_authority limit ranks some_rank events

pub returns-clause-served : goal.returns-clause-served
returns-clause-served c = λ limit ranks events some_rank. promised_served limit ranks some_rank events

pub returns-clause-requests : goal.returns-clause-requests
returns-clause-requests c = λ limit ranks events some_rank. promised_requests limit ranks some_rank events

pub returns-clause-kept : goal.returns-clause-kept
returns-clause-kept c = λ limit ranks events e some_rank. promised_kept limit ranks some_rank events e

pub returns-clause-named : goal.returns-clause-named
returns-clause-named c = λ limit ranks events some_rank. promised_named limit ranks some_rank events

pub returns-clause-gone : goal.returns-clause-gone
returns-clause-gone c = λ limit ranks events some_rank. promised_gone limit ranks some_rank events

pub returns-clause-ended : goal.returns-clause-ended
returns-clause-ended c = λ limit ranks events. promised_ended limit ranks events
