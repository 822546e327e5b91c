use Rattle.std.proofs.Common.{[]}
use Rattle.mdbal_ceph.proofs.Faults.{on_err}
use Rattle.mdbal_ceph.proofs.outputs.SystemOutputsOutputFiles.write_file.Goals as goal

pub returns-in_err-made-clause-cut : goal.returns-in_err-made-clause-cut
returns-in_err-made-clause-cut g c = on_err c.from_residual.result _ ([], tt)

pub returns-in_err-write_all-clause-cut : goal.returns-in_err-write_all-clause-cut
returns-in_err-write_all-clause-cut g c = on_err c.from_residual-in_err-write_all.result _ ([], tt)
