use Rattle.std.proofs.Common.{◌≡◌, ◌∙◌, ap, sym, rules}
use Rattle.heat_ledger.specs.Rows.{at}
use Rattle.heat_ledger.specs.Ledger.{BookData}
use Rattle.heat_ledger.proofs.RowLemmas.{at_evens}
use Rattle.heat_ledger.proofs.book.Book.begun.Goals as goal

pub returns : goal.returns
returns g c =
    let begun = c.self.inside.begun.items in
    let found : c.unwrap_or.result ≡ at begun c.entry_of-entry.result = search rules in
    found ∙ ap (at begun) c.entry_of-entry.ensures ∙ sym (at_evens begun c.args.dir) ∙ ap (λ (b : BookData). at b.begun c.args.dir) c.self.view_is
