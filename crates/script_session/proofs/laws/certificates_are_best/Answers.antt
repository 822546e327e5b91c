use Rattle.mds_types.specs.Certificate.{IsBest, IsCertified}
use Rattle.plan_text.specs.declared.certificate.Certificate.{Certificate}
use Rattle.script_session.proofs.ProofsLemmas.{at_board}
use Rattle.script_session.proofs.laws.certificates_are_best.Goals as goal

pub returns-clause-best : goal.returns-clause-best
returns-clause-best c = at_board (λ (it : Certificate). IsBest it.problem it.plan) c.all_best.ensures

pub returns-clause-certified : goal.returns-clause-certified
returns-clause-certified c = at_board (λ (it : Certificate). IsCertified it.problem it.plan) c.all_certified.ensures
