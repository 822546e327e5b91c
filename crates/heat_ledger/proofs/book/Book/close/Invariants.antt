use Rattle.std.specs.Prelude.{[]}
use Rattle.heat_ledger.proofs.book.Book.close.Given as goal

abbrev pub ghosts-grant : goal.ghosts-grant
ghosts-grant g a = record { parts = a._told.now; amounts = a.authority.now.me.0.amounts; rest = []; extra = [] }
