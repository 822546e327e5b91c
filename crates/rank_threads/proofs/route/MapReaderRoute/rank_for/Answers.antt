use Rattle.std.proofs.Common.{[], append-nil, ◌∙◌}
use Rattle.rank_threads.proofs.Routing.{none_found, rank_found}
use Rattle.rank_threads.proofs.route.MapReaderRoute.rank_for.Goals as goal

pub returns-in-Rank-clause-found : goal.returns-in-Rank-clause-found
returns-in-Rank-clause-found g c =
    (c.find.new.self, c.find.ensures.prefix, ([], append-nil c.find.new.self), rank_found _ c.in-Rank.rank c.in-Rank.ensures.answer)

pub returns-in-NoDir-clause-found : goal.returns-in-NoDir-clause-found
returns-in-NoDir-clause-found g c =
    (c.find.new.self, c.find.ensures.prefix, ([], append-nil c.find.new.self), c.asked_rank.ensures ∙ none_found _ c.in-NoDir.ensures.answer)
