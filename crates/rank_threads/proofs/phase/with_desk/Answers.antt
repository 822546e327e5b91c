use Rattle.rank_threads.proofs.Joining.{either_told}
use Rattle.rank_threads.proofs.Later.{deposit_later}
use Rattle.rank_threads.proofs.phase.with_desk.Goals as goal

pub returns-clause-told : goal.returns-clause-told
returns-clause-told g c was =
    either_told g.K.Phase.before c.deposit-last.new.known.seen c.args.ranks.deposited c.deposit-last.result c.first_refusal.result
    c.first_refusal.ensures.either
    (deposit_later g.K.Phase.before c.args.ranks.known.seen c.deposit-last.new.known.seen c.args.ranks.deposited
    c.deposit-last.ensures.seen.0 was) c.deposit-last.ensures.told
