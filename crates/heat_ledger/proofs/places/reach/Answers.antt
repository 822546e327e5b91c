use Rattle.std.proofs.Common.{rules, ◌≡◌, ℕ, ◌++◌, ◌∷◌, [], List, ◌∙◌, subst}
use Rattle.heat_ledger.specs.Rows.{at}
use Rattle.heat_ledger.specs.Placed.{placed}
use Rattle.heat_ledger.proofs.Padding.{at_push_zero}
use Rattle.heat_ledger.proofs.Placing.{placed_push}
use Rattle.heat_ledger.proofs.places.reach.Goals as goal

pub loop-places-preserved : goal.loop-places-preserved
loop-places-preserved c =
    let items = c.loop-places.places.items in
    let i = c.loop-places.invariant in
    let more : items ++ 0 ∷ [] ≡ c.push_reserved.new.self.items = search rules in (
      λ dir. subst (λ (l : List ℕ). at l dir ≡ at items dir) more (at_push_zero items dir) ∙ i.0 dir,
      subst (λ (l : List ℕ). placed l ≡ placed items) more (placed_push items) ∙ i.1,
      search rules,
      search rules,
    )
