use Rattle.std.proofs.Common.{◌+◌, ◌∙◌, ◌≡◌, ◌-◌, [], rules, arith, ap}
use Rattle.heat_ledger.specs.declared.tally.TokenState.{TokenState}
use Rattle.heat_ledger.specs.Rows.{at}
use Rattle.heat_ledger.specs.Tally.{after_issue}
use Rattle.heat_ledger.specs.Ledger.{weight_of}
use Rattle.heat_ledger.proofs.RowLemmas.{at_evens}
use Rattle.heat_ledger.proofs.Closings.{closed, retired}
use Rattle.heat_ledger.proofs.book.Book.close.Goals as goal

pub grant-requires-clause-issues : goal.grant-requires-clause-issues
grant-requires-clause-issues g c =
    let b = c.self.inside in
    let w = c.gather.new.authority.me.0 in
    let left : b.shares - weight_of c.args.shares.items ≡ 0 = search rules in
    let same : c.learn.new.token.me.0 ≡ w = search rules in
    let z = closed (g.J.Naming.limit + g.J.Naming.limit) b.token.me.0 w b.shares b.counted.items b.begun.items c.args.shares.items
    c.self.invariant.2 c.gather.ensures.gathered c.gather.ensures.authority.0 c.gather.ensures.authority.1 c.learn.ensures.learned
    left in
    record {
      has_totals = ap (λ (h : TokenState). h.has_totals) same ∙ c.gather.ensures.authority.0;
      few = omega (arith, ap (λ (h : TokenState). h.parts) same, z.parts, c.self.invariant.2.parts);
      same = λ k. omega arith;
      backed = λ k. omega (arith, z.backed k, ap (λ (h : TokenState). at h.amounts k) same);
      left = λ k. omega arith;
    }

pub invariant_of-self-2 : goal.invariant_of-self-2
invariant_of-self-2 g c =
    let b = c.self.inside in
    let w = c.gather.new.authority.me.0 in
    let left : b.shares - weight_of c.args.shares.items ≡ 0 = search rules in
    let same : c.learn.new.token.me.0 ≡ w = search rules in
    let z = closed (g.J.Naming.limit + g.J.Naming.limit) b.token.me.0 w b.shares b.counted.items b.begun.items c.args.shares.items
    c.self.invariant.2 c.gather.ensures.gathered c.gather.ensures.authority.0 c.gather.ensures.authority.1 c.learn.ensures.learned
    left in
    let now : c.grant.new.authority.me.0 ≡ after_issue b.shares [] [] w = search rules in (
      search rules,
      search rules,
      retired (g.J.Naming.limit + g.J.Naming.limit) b.token.me.0 w c.grant.new.authority.me.0 b.shares b.counted.items b.begun.items
          c.self.invariant.2 c.gather.ensures.authority.0 c.gather.ensures.authority.1 z.parts now,
      search rules,
      search rules,
    )

pub returns-clause-begun : goal.returns-clause-begun
returns-clause-begun g c dir =
    let b = c.self.inside in
    let w = c.gather.new.authority.me.0 in
    let left : b.shares - weight_of c.args.shares.items ≡ 0 = search rules in
    let same : c.learn.new.token.me.0 ≡ w = search rules in
    let z = closed (g.J.Naming.limit + g.J.Naming.limit) b.token.me.0 w b.shares b.counted.items b.begun.items c.args.shares.items
    c.self.invariant.2 c.gather.ensures.gathered c.gather.ensures.authority.0 c.gather.ensures.authority.1 c.learn.ensures.learned
    left in
    at_evens b.begun.items dir ∙ z.begun dir
