use Rattle.heat_ledger.proofs.Shares.{fresh_shown}
use Rattle.heat_ledger.proofs.opening.open_share.Goals as goal

pub returns-clause-share : goal.returns-clause-share
returns-clause-share g c = fresh_shown g.J.Naming.limit c.args.unopened.counts c.requires.unopened.none
