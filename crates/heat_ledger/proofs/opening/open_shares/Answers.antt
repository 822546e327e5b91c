use Rattle.std.proofs.Common.{◌≡◌, ◌+◌, ◌-◌, ℕ, suc, [], ◌∷◌, ◌++◌, All, replicate, vec_len, rules, ap, ◌∙◌, subst, arith}
use Rattle.heat_ledger.specs.declared.tally.TokenState.{TokenState}
use Rattle.heat_ledger.specs.Tally.{authority_state, all_parts}
use Rattle.heat_ledger.specs.Opening.{IsUnopened, fresh_share}
use Rattle.heat_ledger.proofs.Closings.{all_left, replicate_more}
use Rattle.heat_ledger.proofs.opening.open_shares.Goals as goal

one_less : (v w : TokenState) (n m : ℕ) → v ≡ authority_state (all_parts - n) [] → w ≡ authority_state (v.parts - 1) [] → m ≡ n + 1
    → w ≡ authority_state (all_parts - m) []
one_less v w n m was now next = let p : v.parts ≡ all_parts - n = ap (λ (u : TokenState). u.parts) was in
    now ∙ ap (λ (n : ℕ). authority_state n []) (omega arith)

pub loop-unopened-preserved : goal.loop-unopened-preserved
loop-unopened-preserved g c =
    let inv = c.loop-unopened.invariant in
    let P = IsUnopened g.J.Naming.ledger (g.J.Naming.limit + g.J.Naming.limit) in
    let order : c.loop-unopened.unopened_shares.items ≡ c.pop.new.self.items ++ c.in-Some.unopened ∷ [] = search rules in
    let F = fresh_share g.J.Naming.limit in
    let items : c.push_reserved.new.self.items ≡ replicate (vec_len c.loop-unopened.shares) F
    ++ F ∷ [] = cc (inv.3, c.open_share.ensures.share, c.push_reserved.ensures.items) in
    let more : vec_len c.push_reserved.new.self ≡ vec_len c.loop-unopened.shares + 1 = search rules in (
      one_less c.loop-unopened.authority.me.0 c.open_share.new.authority.me.0 (vec_len c.loop-unopened.shares)
          (vec_len c.push_reserved.new.self) inv.0 c.open_share.ensures.authority more,
      search rules,
      search rules,
      items ∙ replicate_more (vec_len c.loop-unopened.shares) F
          ∙ ap (λ (n : ℕ). replicate n F) (let next : suc (vec_len c.loop-unopened.shares)
          ≡ vec_len c.push_reserved.new.self = omega (arith, more) in next),
      all_left P c.pop.new.self.items c.in-Some.unopened (subst (All P) order inv.4),
      search rules,
    )
