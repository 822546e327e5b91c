use Rattle.std.proofs.Common.{◌∙◌, refl, arith}
use Rattle.heat_ledger.proofs.RowLemmas.{raised_by_none}
use Rattle.heat_ledger.proofs.Placing.{same_data}
use Rattle.heat_ledger.proofs.counts.Counts.add_hits.Goals as goal

pub add-requires-clause-fits : goal.add-requires-clause-fits
add-requires-clause-fits c = record { hits = λ some. c.requires.fits.0; pending = λ some. c.requires.fits.1; begun = λ some. absurd (omega (arith, some)) }

pub returns : goal.returns
returns c = c.add.ensures ∙ same_data _ _ refl refl (raised_by_none c.args.self.now.begun c.args.entry)
