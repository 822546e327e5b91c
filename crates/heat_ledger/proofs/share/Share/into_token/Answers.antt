use Rattle.std.proofs.Common.{◌∙◌, ◌+◌, sym}
use Rattle.heat_ledger.proofs.RowLemmas.{at_evens}
use Rattle.heat_ledger.proofs.share.Share.into_token.Goals as goal

pub returns-clause-share : goal.returns-clause-share
returns-clause-share g c =
    let s = c.self.invariant.2 in
    let begun = c.self.inside.counts.begun in
    rw (← c.self.view_is) (record {
      holds = s.holds;
      weighs = s.weighs;
      known = s.known;
      begins = λ d. s.begins (d + d) ∙ sym (at_evens begun d);
    })
