use Rattle.std.proofs.Common.{◌∙◌, ap}
use Rattle.std.proofs.lemmas.Result.{err_from_is_err_and}
use Rattle.mdbal_ceph.specs.Causes.{Sample}
use Rattle.mdbal_ceph.specs.Dumps.{loads_file}
use Rattle.mdbal_ceph.proofs.Faults.{no_bytes_in, refused_in}
use Rattle.mdbal_ceph.proofs.source.loads_of.Goals as goal

pub returns-in_err-bytes-clause-failed : goal.returns-in_err-bytes-clause-failed
returns-in_err-bytes-clause-failed g c = λ rank sample.
    let e = err_from_is_err_and c.from_residual-in_err-bytes.result c.from_residual-in_err-bytes.ensures.1 in
    rw (e.1, e.2) (no_bytes_in (g.F.Folder.reads c.args.source.now.files.now) g.D.DumpReader.says g.D.DumpReader.refuses
    c.args.source.now.folder.now (Sample c.args.rank c.args.sample) _ _ (rank, sample) tt
    (c.as_str-path.ensures.value
    ∙ (c.in_ok-path.ensures ∙ ap (λ r. loads_file c.args.source.now.folder.now r c.args.sample) c.number.ensures.value))
    c.in_err-bytes.ensures.failed)

pub returns-in-Err-clause-failed : goal.returns-in-Err-clause-failed
returns-in-Err-clause-failed g c = λ rank sample.
    refused_in (g.F.Folder.reads c.args.source.now.files.now) g.D.DumpReader.says g.D.DumpReader.refuses c.args.source.now.folder.now
    (Sample c.args.rank c.args.sample) _ _ c.in-Err.error (rank, sample)
    (c.as_str-path.ensures.value
    ∙ (c.in_ok-path.ensures ∙ ap (λ r. loads_file c.args.source.now.folder.now r c.args.sample) c.number.ensures.value))
    (c.in_ok-bytes.bytes.items, c.in_ok-bytes.ensures.found, rw c.deref.ensures.value at c.in-Err.ensures.refused) c.refused.ensures
