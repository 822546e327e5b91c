use Rattle.std.specs.Prelude.{[]}
use Rattle.heat_ledger.specs.Rows.{differences}
use Rattle.heat_ledger.specs.Ledger.{laid_out}
use Rattle.heat_ledger.proofs.auditing.give_back.Given as goal

abbrev pub ghosts-grant : goal.ghosts-grant
ghosts-grant a = record {
  parts = a._told.now.0;
  amounts = laid_out a._told.now.1.now;
  rest = differences a.authority.now.me.0.amounts (laid_out a._told.now.1.now);
  extra = [];
}
