use Rattle.heat_ledger.specs.Rows.{entry}
use Rattle.rank_threads.proofs.Counting.{hits_none}
use Rattle.rank_threads.proofs.serving.count.Goals as goal

pub returns-then-hits-eq0-clause-share : goal.returns-then-hits-eq0-clause-share
returns-then-hits-eq0-clause-share g c = hits_none c.args.share.now (entry c.args.dir c.args.kind)
