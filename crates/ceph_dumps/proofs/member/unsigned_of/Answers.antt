use Rattle.std.proofs.Common.{◌∙◌, sym}
use Rattle.json.specs.Find.{as_number}
use Rattle.json.specs.Value.{value_view}
use Rattle.ceph_dumps.proofs.Figures.{unsigned_if, unsigned_none}
use Rattle.ceph_dumps.proofs.member.unsigned_of.Goals as goal

pub returns-in-Some : goal.returns-in-Some
returns-in-Some c =
    c.within_32.ensures
    ∙ sym (unsigned_if (as_number (value_view c.args.value.now)) c.as_u64.result c.as_u64.ensures c.in-Some.number c.in-Some.is)

pub returns-in-None : goal.returns-in-None
returns-in-None c = sym (unsigned_none (as_number (value_view c.args.value.now)) c.as_u64.result c.as_u64.ensures c.in-None.is)
