use Rattle.ceph_dumps.proofs.Hours.{hour_back}
use Rattle.ceph_dumps.proofs.laws.hour_is_read_back.Goals as goal

pub returns : goal.returns
returns c = λ hour found fine. hour_back hour found fine
