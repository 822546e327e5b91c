use Rattle.std.proofs.Common.{◌-◌, ap}
use Rattle.std.proofs.lemmas.Bool.{le-leb, lt-leb}
use Rattle.std.proofs.lemmas.Nat.{one_shl}
use Rattle.mds_types.proofs.RankSetLemmas.{has_low_rank, low_ranks, all_ranks}
use Rattle.mds_types.proofs.rank_set.RankSet.among.Goals as goal

pub returns-clause-ranks : goal.returns-clause-ranks
returns-clause-ranks c =
    let mask = ap (λ n. n - 1) (one_shl c.args.active 64 c.if-active-ge-RANK_LIMIT.false) in
    rw (← c.self.view_is) (λ rank. has_low_rank c.self.inside.bits c.args.active _ rank mask)

pub returns-clause-bits : goal.returns-clause-bits
returns-clause-bits c =
    let mask = ap (λ n. n - 1) (one_shl c.args.active 64 c.if-active-ge-RANK_LIMIT.false) in
    rw (← c.self.view_is) (low_ranks c.self.inside.bits c.args.active _ mask (lt-leb 64 c.args.active c.if-active-ge-RANK_LIMIT.false))

pub returns-then-active-ge-RANK_LIMIT-clause-bits : goal.returns-then-active-ge-RANK_LIMIT-clause-bits
returns-then-active-ge-RANK_LIMIT-clause-bits c = rw (← c.self.view_is)
    (all_ranks c.self.inside.bits c.args.active (le-leb 64 c.args.active c.if-active-ge-RANK_LIMIT.true))
