use Rattle.std.proofs.Common.{◌≢◌, length, rules}
use Rattle.ceph_dumps.proofs.hour_record.push_heat.Goals as goal

pub returns-in_default-clause-refused : goal.returns-in_default-clause-refused
returns-in_default-clause-refused c = λ other is.
    let some : length c.args.line.now ≢ 0 = search rules in
    (cc, λ fine. c.in_default.ensures (fine some))
