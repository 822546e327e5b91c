use Rattle.std.proofs.Common.{refl, arith}
use Rattle.certificate_judge.proofs.ReadingLemmas.{not_nil}
use Rattle.certificate_judge.proofs.unjudged.Unjudged.ended.Goals as goal

pub returns-else-self-len-clause-fault : goal.returns-else-self-len-clause-fault
returns-else-self-len-clause-fault c =
    let u = c.args.self.now in
    (refl, not_nil u.bytes.items u.judged (omega (arith, u.within, u.bytes.ok.0, c.len.ensures, c.if-self-len.false)))
