use Rattle.heat_ledger.proofs.RowLemmas.{length-evens}
use Rattle.heat_ledger.proofs.book.Book.limit.Goals as goal

pub returns-clause-rows : goal.returns-clause-rows
returns-clause-rows g c =
    let b = c.self.invariant.2 in
    rw (← c.self.view_is) (b.as_counted, length-evens c.self.inside.begun.items g.J.Naming.limit b.as_begun)
