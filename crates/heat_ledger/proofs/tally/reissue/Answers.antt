use Rattle.std.proofs.Common.{◌≡◌, ℕ, List, [], rules, arith, ap, subst, ◌∙◌}
use Rattle.heat_ledger.specs.declared.tally.TokenState.{TokenState}
use Rattle.heat_ledger.specs.Rows.{at, sums}
use Rattle.heat_ledger.specs.Tally.{both_of, after_issue, IsLearned}
use Rattle.heat_ledger.proofs.RowLemmas.{at_sums}
use Rattle.heat_ledger.proofs.tally.reissue.Goals as goal

pub issue-requires-clause-issues : goal.issue-requires-clause-issues
issue-requires-clause-issues g c =
    let kp = c.args.authority.now.me.0 in
    let st = c.args.token.now.me.0 in
    let met : c.merge.new.token.me.0 ≡ both_of (after_issue 0 [] [] kp) st = search rules in
    let now : c.learn-2.new.token.me.0 ≡ both_of (after_issue 0 [] [] kp) st = search rules in
    let l = subst IsLearned met c.learn-2.ensures.learned in
    record {
      has_totals = search rules;
      few = search rules;
      same = λ k. omega (arith, c.requires.amounts k, ap (λ (v : TokenState). at v.amounts k) now, ap (λ (xs : List ℕ). at xs k) c.requires.rest);
      backed = λ k. c.requires.backed k (omega (arith, (l.within c.requires.authority.0 k).0, at_sums kp.totals [] k)) (c.learn.ensures.learned.backed k);
      left = λ k. omega (arith, ap (λ (xs : List ℕ). at xs k) c.requires.rest);
    }

pub returns-clause-backed : goal.returns-clause-backed
returns-clause-backed g c k =
    let kp = c.args.authority.now.me.0 in
    let st = c.args.token.now.me.0 in
    let met : c.merge.new.token.me.0 ≡ both_of (after_issue 0 [] [] kp) st = search rules in
    let l = subst IsLearned met c.learn-2.ensures.learned in
    let within = (l.within c.requires.authority.0 k).0 in
    let same = at_sums kp.totals [] k in
    c.requires.backed k (omega (arith, within, same)) (c.learn.ensures.learned.backed k)

pub returns-clause-totals : goal.returns-clause-totals
returns-clause-totals g c k =
    let kp = c.args.authority.now.me.0 in
    let st = c.args.token.now.me.0 in
    let extra = g.K.Amount.extra in
    let met : c.merge.new.token.me.0 ≡ both_of (after_issue 0 [] [] kp) st = search rules in
    let known : c.learn-3.new.token.me.0 ≡ after_issue g.K.Amount.parts g.K.Amount.rest extra c.merge.new.token.me.0 = search rules in
    let all = ap (λ (v : TokenState). at v.totals k) known ∙ ap (λ (v : TokenState). at (sums v.totals extra) k) met in
    let a = at_sums (sums kp.totals []) extra k in
    let b = at_sums kp.totals [] k in
    omega (arith, all, a, b)
