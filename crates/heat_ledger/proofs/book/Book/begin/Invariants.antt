use Rattle.std.specs.Prelude.{[]}
use Rattle.mds_types.specs.declared.kind.Kind.TheVariants.{Read}
use Rattle.heat_ledger.specs.Rows.{entry, sums}
use Rattle.heat_ledger.specs.Ledger.{unit, begun_slot}
use Rattle.heat_ledger.proofs.book.Book.begin.Given as goal

abbrev pub ghosts-reissue : goal.ghosts-reissue
ghosts-reissue g a = record {
  parts = a.token.now.me.0.parts;
  amounts = sums a.token.now.me.0.amounts (unit (begun_slot (entry a._told.now Read)));
  rest = [];
  extra = unit (begun_slot (entry a._told.now Read));
}
