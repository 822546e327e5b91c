use Rattle.dirtree.proofs.PathRoundTrip.{path_leads}
use Rattle.dirtree.proofs.laws.path_leads_back.Goals as goal

pub returns : goal.returns
returns c = path_leads
