use Rattle.json.specs.Find.{as_number}
use Rattle.json.specs.Value.{value_view}
use Rattle.ceph_dumps.proofs.Figures.{whole_from}
use Rattle.ceph_dumps.proofs.member.whole_of.Goals as goal

pub returns : goal.returns
returns c = whole_from (as_number (value_view c.args.value.now)) c.as_i64.result c.as_i64.ensures
