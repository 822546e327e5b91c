use Rattle.std.proofs.Common.{inr, refl}
use Rattle.mdbal_ceph.specs.declared.no_result.NoResult.TheVariants as why
use Rattle.mdbal_ceph.proofs.answers.print_answer.Goals as goal

pub returns-in-Err-clause-said : goal.returns-in-Err-clause-said
returns-in-Err-clause-said g c = inr (refl, (why.Unprinted c.in-Err.error, tt, c.explain.ensures))
