use Rattle.std.specs.Prelude.{[]}
use Rattle.heat_ledger.specs.Rows.{sums}
use Rattle.heat_ledger.specs.Ledger.{spread}
use Rattle.heat_ledger.proofs.book.Book.deposit.Given as goal

abbrev pub ghosts-reissue : goal.ghosts-reissue
ghosts-reissue g a = record {
  parts = a.token.now.me.0.parts;
  amounts = sums a.token.now.me.0.amounts (spread a._told.now.pending);
  rest = [];
  extra = spread a._told.now.pending;
}
