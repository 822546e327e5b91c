use Rattle.std.proofs.Common.{◌≡◌, length, take, drop, ◌++◌, rules}
use Rattle.plan_checker.proofs.WrittenLemmas.{all_written}
use Rattle.rank_assign.proofs.assigned.ranks_of.Goals as goal

pub returns-clause-ranks : goal.returns-clause-ranks
returns-clause-ranks c =
    let new = c.give_ranks.new.rank in
    let whole : take (length c.loop-rank.rank.items) (c.give_ranks.new.rank ++ drop (length c.give_ranks.new.rank) c.loop-rank.rank.items)
    ≡ c.give_ranks.new.rank =
    all_written c.give_ranks.new.rank c.loop-rank.rank.items (length c.loop-rank.rank.items) (search rules) (search rules) in
    rw whole c.give_ranks.ensures
