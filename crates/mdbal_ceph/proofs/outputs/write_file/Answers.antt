use Rattle.mdbal_ceph.proofs.Written.{cut_one}
use Rattle.mdbal_ceph.proofs.outputs.write_file.Goals as goal

pub returns-in-Err-clause-cut : goal.returns-in-Err-clause-cut
returns-in-Err-clause-cut g c = cut_one _ _ _ _ _ c.unwritten.ensures c.in-Err.ensures.cut
