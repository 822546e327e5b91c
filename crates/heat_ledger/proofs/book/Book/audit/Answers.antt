use Rattle.std.proofs.Common.{◌+◌, ◌≡◌, ℕ, List, [], ap, sym, rules, arith, ◌∙◌}
use Rattle.heat_ledger.specs.declared.tally.TokenState.{TokenState}
use Rattle.mds_types.specs.declared.kind.Kind.TheVariants.{Read}
use Rattle.heat_ledger.specs.Rows.{at, entry}
use Rattle.heat_ledger.specs.Tally.{all_parts, after_issue}
use Rattle.heat_ledger.specs.Ledger.{BookData, ShareData, begun_slot, begun_of, weight_of}
use Rattle.heat_ledger.proofs.RowLemmas.{at_sums, at_evens}
use Rattle.heat_ledger.proofs.Books.{same_book}
use Rattle.heat_ledger.proofs.book.Book.audit.Goals as goal

pub invariant_of-self : goal.invariant_of-self
invariant_of-self g c =
    let b = c.self.inside in
    let x = c.audit_all.new.authority.me.0 in
    let z = c.issue-none.new.authority.me.0 in
    let e = c.audit_all.ensures.audited in
    let now : z ≡ after_issue 0 [] [] x = search rules in (
      search rules,
      search rules,
      same_book (g.J.Naming.limit + g.J.Naming.limit) b.token.me.0 z b.shares b.counted.items b.begun.items c.self.invariant.2
          (ap (λ (h : TokenState). h.has_totals) now ∙ e.has_totals) (ap (λ (h : TokenState). h.amounts) now)
          (let p = ap (λ (h : TokenState). h.parts) now in let q = e.parts in omega arith)
          (λ k. (let t = ap (λ (h : TokenState). at h.totals k) now in let a = at_sums x.totals [] k in let u = e.totals k in omega arith)),
      search rules,
      search rules,
    )

pub returns-clause-begun : goal.returns-clause-begun
returns-clause-begun g c dir =
    let b = c.self.inside in
    let e = entry dir Read in
    let k = begun_slot e in
    let all : weight_of c.args.shares.now.items ≡ b.shares = c.requires ∙ ap (λ (v : BookData). v.shares) (sym c.self.view_is) in
    let whole : b.token.me.0.parts + weight_of c.args.shares.now.items ≡ all_parts = omega (arith, c.self.invariant.2.parts, all) in
    let out : at b.token.me.0.amounts k ≡ 0 = ap (λ (l : List ℕ). at l k) c.self.invariant.2.all_out in
    let known = c.audit_all.ensures.audited.begun whole dir in
    let same = ap (λ (l : List ShareData). begun_of l dir) c.audit_all.ensures.shares.0 in
    omega (arith, out, known, same, c.self.invariant.2.begins e, at_evens b.begun.items dir)
