use Rattle.std.proofs.Common.{◌∙◌}
use Rattle.std.proofs.lemmas.Result.{err_from_is_err_and}
use Rattle.mdbal_ceph.specs.Causes.{Map}
use Rattle.mdbal_ceph.proofs.Faults.{no_bytes_in, refused_in}
use Rattle.mdbal_ceph.proofs.source.cluster_of.Goals as goal

pub returns-in_err-bytes-clause-failed : goal.returns-in_err-bytes-clause-failed
returns-in_err-bytes-clause-failed g c =
    let e = err_from_is_err_and c.from_residual-in_err-bytes.result c.from_residual-in_err-bytes.ensures.1 in
    rw (e.1, e.2) (no_bytes_in (g.F.Folder.reads c.args.inputs.now.files.now) g.D.DumpReader.says g.D.DumpReader.refuses c.args.folder.now
    Map _ _ tt tt (c.as_str-path.ensures.value ∙ c.in_ok-path.ensures) c.in_err-bytes.ensures.failed)

pub returns-clause-failed : goal.returns-clause-failed
returns-clause-failed g c =
    refused_in (g.F.Folder.reads c.args.inputs.now.files.now) g.D.DumpReader.says g.D.DumpReader.refuses c.args.folder.now Map _ _
    c.in-Err.error tt (c.as_str-path.ensures.value ∙ c.in_ok-path.ensures)
    (c.in_ok-bytes.bytes.items, c.in_ok-bytes.ensures.found, rw c.deref.ensures.value at c.in-Err.ensures.refused) c.refused.ensures
