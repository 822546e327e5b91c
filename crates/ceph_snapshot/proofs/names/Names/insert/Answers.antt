use Rattle.std.proofs.Common.{Some}
use Rattle.ceph_snapshot.proofs.Lookups.{inserted}
use Rattle.ceph_snapshot.proofs.names.Names.insert.Goals as goal

pub returns-clause-put : goal.returns-clause-put
returns-clause-put c = λ other. inserted c.args.self.now.numbers c.insert.new.self c.args.path.items (Some c.args.number) c.in_ok-insert.ensures.updates other
