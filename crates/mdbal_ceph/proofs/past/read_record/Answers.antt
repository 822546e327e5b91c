use Rattle.std.proofs.Common.{ap, inl, subst, sym, Err}
use Rattle.mdbal_ceph.specs.NoResults.{IsRefusedFor}
use Rattle.mdbal_ceph.specs.NotMade.{IsRecordFault}
use Rattle.mdbal_ceph.proofs.Faults.{named_weaker}
use Rattle.mdbal_ceph.proofs.past.read_record.Goals as goal

pub returns-clause-failed : goal.returns-clause-failed
returns-clause-failed g c =
    let reads = g.F.Folder.reads c.args.inputs.now.files.now in
    inl (named_weaker c.args.name.now (IsRefusedFor c.in-Err.error) (IsRecordFault reads c.args.name.now) _
    (λ one is. subst (IsRecordFault reads c.args.name.now) (sym is) (
      c.in-Some.bytes.items,
      rw c.in-Some.is at c.in_ok-bytes.ensures.found,
      (c.in-Err.ensures.errors, λ number is_hour. (rw c.deref.ensures.value at c.in-Err.ensures.refused) number (ap Err is_hour)),
    ))
    c.refused.ensures)
