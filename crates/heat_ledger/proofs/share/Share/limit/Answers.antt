use Rattle.heat_ledger.proofs.RowLemmas.{length-evens}
use Rattle.heat_ledger.proofs.share.Share.limit.Goals as goal

pub returns-clause-rows : goal.returns-clause-rows
returns-clause-rows g c =
    let s = c.self.invariant.2 in
    rw (← c.self.view_is) (s.as_hits, s.as_pending, length-evens c.self.inside.counts.begun g.J.Naming.limit s.as_begun)
