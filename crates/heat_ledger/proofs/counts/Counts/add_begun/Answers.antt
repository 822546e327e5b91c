use Rattle.std.proofs.Common.{◌∙◌, refl, arith}
use Rattle.heat_ledger.proofs.RowLemmas.{raised_by_none}
use Rattle.heat_ledger.proofs.Placing.{same_data}
use Rattle.heat_ledger.proofs.counts.Counts.add_begun.Goals as goal

pub add-requires-clause-fits : goal.add-requires-clause-fits
add-requires-clause-fits c = record {
  hits = λ some. absurd (omega (arith, some));
  pending = λ some. absurd (omega (arith, some));
  begun = λ some. c.requires.fits;
}

pub returns : goal.returns
returns c = c.add.ensures ∙ same_data _ _ (raised_by_none c.args.self.now.hits c.args.entry) (raised_by_none c.args.self.now.pending c.args.entry) refl
