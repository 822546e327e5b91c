use Rattle.std.proofs.Common.{◌≡◌, ◌+◌, ◌∙◌, rules, arith, subst, sym}
use Rattle.heat_ledger.specs.declared.tally.TokenState.{TokenState}
use Rattle.heat_ledger.specs.Counts.{sum_counts}
use Rattle.heat_ledger.specs.Tally.{both_of, IsLearned}
use Rattle.heat_ledger.specs.Ledger.{IsShare}
use Rattle.heat_ledger.proofs.Shares.{join_kept, join_fits, join_shown}
use Rattle.heat_ledger.proofs.share.Share.join.Goals as goal

pub join-requires-clause-fits : goal.join-requires-clause-fits
join-requires-clause-fits g c e =
    let s = c.self.inside in
    let t = c.other.inside in
    let met : c.merge.new.token.me.0 ≡ both_of s.token.me.0 t.token.me.0 = search rules in
    let l = subst IsLearned met c.learn.ensures.learned in
    let fit = (join_fits (g.J.Naming.limit + g.J.Naming.limit) s.token.me.0 t.token.me.0 s.weight t.weight s.counts t.counts
    c.self.invariant.2 c.other.invariant.2 l).1 e in
    record { hits = λ some. omega (arith, fit.0); pending = λ some. omega (arith, fit.1); begun = λ some. omega (arith, fit.2) }

pub invariant_of-self : goal.invariant_of-self
invariant_of-self g c =
    let s = c.self.inside in
    let t = c.other.inside in
    let met : c.merge.new.token.me.0 ≡ both_of s.token.me.0 t.token.me.0 = search rules in
    let now : both_of s.token.me.0 t.token.me.0 ≡ c.learn.new.token.me.0 = search rules in
    let l = subst IsLearned met c.learn.ensures.learned in (
      search rules,
      search rules,
      rw c.join.ensures (subst (λ (v : TokenState). IsShare (g.J.Naming.limit + g.J.Naming.limit) v (s.weight + t.weight) (sum_counts s.counts t.counts)) now
          (join_kept (g.J.Naming.limit + g.J.Naming.limit) s.token.me.0 t.token.me.0 s.weight t.weight s.counts t.counts c.self.invariant.2
          c.other.invariant.2 l)),
    )

pub returns : goal.returns
returns g c =
    let s = c.self.inside in
    let t = c.other.inside in
    let long = c.other.invariant.2.as_begun ∙ sym c.self.invariant.2.as_begun in
    join_shown s.weight t.weight s.counts t.counts c.join.new.self c.args.self.now c.args.other c.join.ensures long c.self.view_is c.other.view_is
