use Rattle.plan_text.proofs.CertificateSame.{certificate_same}
use Rattle.plan_text.proofs.laws.prefix_free.Goals as goal

pub returns : goal.returns
returns c = certificate_same
