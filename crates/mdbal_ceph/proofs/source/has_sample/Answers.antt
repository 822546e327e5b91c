use Rattle.std.proofs.Common.{◌∙◌, subst, sym}
use Rattle.mdbal_ceph.specs.Causes.{Counted, IsUnread}
use Rattle.mdbal_ceph.proofs.Faults.{named_weaker, unread_in}
use Rattle.mdbal_ceph.proofs.source.has_sample.Goals as goal

pub returns-clause-failed : goal.returns-clause-failed
returns-clause-failed g c =
    let reads = g.F.Folder.reads c.args.inputs.now.files.now in
    unread_in reads g.D.DumpReader.says g.D.DumpReader.refuses c.args.folder.now (Counted c.args.sample) _ _ c.requires
    (c.as_str-path.ensures.value ∙ c.in_ok-path.ensures)
    (named_weaker _ _ (IsUnread reads c.as_str-path.result.now) _
    (λ one is. subst (IsUnread reads c.as_str-path.result.now) (sym is.0) (c.in-Err.ensures.failed is.1)) c.unread.ensures)
