use Rattle.std.proofs.Common.{◌∙◌, ap}
use Rattle.heat_ledger.specs.Placed.{kept_at}
use Rattle.heat_ledger.proofs.places.KeptCounts.place_of.Goals as goal

pub returns-clause-same : goal.returns-clause-same
returns-clause-same c e = c.give_place.ensures.same e ∙ ap (kept_at c.args.self.now.counts.items) (c.reach.ensures.same e)
