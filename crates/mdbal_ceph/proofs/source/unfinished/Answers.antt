use Rattle.std.proofs.Common.{◌≡◌, refl, subst, sym}
use Rattle.mdbal_ceph.specs.Causes.{Complete, IsFileCause, Itself}
use Rattle.mdbal_ceph.specs.declared.no_result.FileFault.TheVariants as fault
use Rattle.mdbal_ceph.proofs.Faults.{file_in_folder}
use Rattle.mdbal_ceph.proofs.source.unfinished.Goals as goal

pub returns-in-Ok-false : goal.returns-in-Ok-false
returns-in-Ok-false g c =
    let reads = g.F.Folder.reads c.args.inputs.now.files.now in
    file_in_folder reads g.D.DumpReader.says g.D.DumpReader.refuses c.args.folder.now Itself _ (λ one. one ≡ fault.NoFolder) _ tt refl
    (λ one is. subst (IsFileCause reads g.D.DumpReader.says g.D.DumpReader.refuses c.args.folder.now Itself) (sym is)
    (tt, c.in-Ok-false.ensures.missing c.in-Ok-false.field-0-test)) c.named.ensures

pub returns-in_default : goal.returns-in_default
returns-in_default g c =
    let reads = g.F.Folder.reads c.args.inputs.now.files.now in
    file_in_folder reads g.D.DumpReader.says g.D.DumpReader.refuses c.args.folder.now Complete _ (λ one. one ≡ fault.Unfinished) _ tt c.requires.path
    (λ one is. subst (IsFileCause reads g.D.DumpReader.says g.D.DumpReader.refuses _ Complete) (sym is)
    (tt, rw c.requires.path at c.requires.missing)) c.named-in_default.ensures
