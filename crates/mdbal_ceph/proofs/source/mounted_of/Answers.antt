use Rattle.std.proofs.Common.{◌≡◌, ◌∙◌, ◌<◌, ◌^◌, ℕ, List, Err, ap, codes, inr, length, subst}
use Rattle.std.proofs.lemmas.Result.{err_from_is_err_and}
use Rattle.ceph_dumps.specs.declared.listing.ListedDir.{ListedDir}
use Rattle.mdbal_ceph.specs.Causes.{Numbers}
use Rattle.mdbal_ceph.specs.Dumps.{AreInodes, file_in}
use Rattle.mdbal_ceph.specs.Folder.{IsInFile}
use Rattle.mdbal_ceph.proofs.Faults.{growth_in, growth_of, refused_in, unread_in}
use Rattle.mdbal_ceph.proofs.source.mounted_of.Goals as goal

pub returns-in_err-bytes-clause-failed : goal.returns-in_err-bytes-clause-failed
returns-in_err-bytes-clause-failed g c =
    let e = err_from_is_err_and c.from_residual-in_err-bytes.result c.from_residual-in_err-bytes.ensures.1 in
    rw (e.1, e.2) (unread_in (g.F.Folder.reads c.args.inputs.now.files.now) g.D.DumpReader.says g.D.DumpReader.refuses c.args.folder.now
    Numbers _ _ tt (c.as_str-path.ensures.value ∙ c.in_ok-path.ensures) c.in_err-bytes.ensures.failed)

pub returns-clause-failed : goal.returns-clause-failed
returns-clause-failed g c =
    refused_in (g.F.Folder.reads c.args.inputs.now.files.now) g.D.DumpReader.says g.D.DumpReader.refuses c.args.folder.now Numbers _ _
    c.in-Err.error tt (c.as_str-path.ensures.value ∙ c.in_ok-path.ensures) (
      c.in-Some.bytes.items,
      rw c.in-Some.is at c.in_ok-bytes.ensures.found,
      λ number is. (rw c.deref.ensures.value at c.in-Err.ensures.refused) number (ap Err is),
    ) c.refused.ensures

pub returns-in_err-new-in-Ok-clause-failed : goal.returns-in_err-new-in-Ok-clause-failed
returns-in_err-new-in-Ok-clause-failed g c =
    let reads = g.F.Folder.reads c.args.inputs.now.files.now in
    let folder = c.args.folder.now in
    let listing : List ListedDir = c.in-Ok.listing.items in
    let name : c.as_str-path.result.now ≡ file_in folder (codes "inodes") = c.as_str-path.ensures.value ∙ c.in_ok-path.ensures in
    let many : Type 0 = 2 ^ 32 < length listing in
    let e = err_from_is_err_and c.from_residual-in_err-new-in-Ok.result c.from_residual-in_err-new-in-Ok.ensures.1 in
    rw (e.1, e.2)
    (growth_in reads g.D.DumpReader.says g.D.DumpReader.refuses folder many _
    (λ so. inr (record {
      numbers = listing;
      numbers_are = subst (λ (n : List ℕ). IsInFile reads AreInodes n listing) name (
        c.in-Some.bytes.items,
        rw c.in-Some.is at c.in_ok-bytes.ensures.found,
        rw c.deref.ensures.value at c.in-Ok.ensures.each,
      );
      many = so;
    }))
    (growth_of many _ c.in_err-new-in-Ok.ensures.many))
