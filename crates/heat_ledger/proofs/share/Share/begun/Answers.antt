use Rattle.std.proofs.Common.{◌∙◌, ap, sym}
use Rattle.heat_ledger.specs.declared.places.EntryCounts.{EntryCounts}
use Rattle.heat_ledger.specs.Rows.{at}
use Rattle.heat_ledger.specs.Ledger.{ShareData}
use Rattle.heat_ledger.proofs.RowLemmas.{at_evens}
use Rattle.heat_ledger.proofs.share.Share.begun.Goals as goal

pub returns : goal.returns
returns g c =
    let begun = c.self.inside.counts.begun in
    ap (λ (x : EntryCounts). x.begun) c.of.ensures ∙ ap (at begun) c.entry_of.ensures ∙ sym (at_evens begun c.args.dir)
    ∙ ap (λ (s : ShareData). at s.begun c.args.dir) c.self.view_is
