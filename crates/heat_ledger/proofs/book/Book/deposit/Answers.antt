use Rattle.std.proofs.Common.{◌+◌, ◌≡◌, ◌∙◌, ℕ, List, replicate, ap, sym, rules, subst}
use Rattle.heat_ledger.specs.declared.tally.TokenState.{TokenState}
use Rattle.heat_ledger.specs.Counts.{CountsData}
use Rattle.heat_ledger.specs.Rows.{sums}
use Rattle.heat_ledger.specs.Tally.{share_state}
use Rattle.heat_ledger.specs.Ledger.{spread, IsShare, IsBook}
use Rattle.heat_ledger.proofs.RowLemmas.{at_sums}
use Rattle.heat_ledger.proofs.Shares.{deposit_share}
use Rattle.heat_ledger.proofs.Books.{deposit_backed, deposit_book}
use Rattle.heat_ledger.proofs.book.Book.deposit.Goals as goal

-- counts of which none is pending
abbrev settled : CountsData → ℕ → CountsData
settled counts limit = record { hits = counts.hits; pending = replicate limit 0; begun = counts.begun }

pub reissue-requires-clause-amounts : goal.reissue-requires-clause-amounts
reissue-requires-clause-amounts g c k = at_sums c.share.inside.token.me.0.amounts (spread c.share.inside.counts.pending) k

pub reissue-requires-clause-backed : goal.reissue-requires-clause-backed
reissue-requires-clause-backed g c k under was = deposit_backed (g.J.Naming.limit + g.J.Naming.limit) c.share.inside.token.me.0
    c.share.inside.weight c.share.inside.counts c.share.invariant.2 k was

pub invariant_of-self : goal.invariant_of-self
invariant_of-self g c =
    let b = c.self.inside in
    let p = c.share.inside.counts.pending in
    let e = c.reissue.ensures in (
      search rules,
      search rules,
      subst (λ (l : List ℕ). IsBook (g.J.Naming.limit + g.J.Naming.limit) c.reissue.new.authority.me.0 b.shares l b.begun.items) (sym c.settle.ensures.into)
          (deposit_book (g.J.Naming.limit + g.J.Naming.limit) b.token.me.0 c.reissue.new.authority.me.0 b.shares b.counted.items
          b.begun.items p c.self.invariant.2 c.share.invariant.2.as_pending e.authority.0 e.authority.1 e.authority.2 e.totals),
      search rules,
      search rules,
    )

pub invariant_of-share : goal.invariant_of-share
invariant_of-share g c =
    let s = c.share.inside in
    let met : share_state s.token.me.0.parts (sums s.token.me.0.amounts (spread s.counts.pending)) ≡ c.reissue.new.token.me.0 = search rules in
    let zero : c.settle.new.self ≡ settled s.counts (g.J.Naming.limit + g.J.Naming.limit) = c.settle.ensures.zero
    ∙ ap (settled s.counts) c.share.invariant.2.as_pending in (
      search rules,
      search rules,
      subst (λ (v : CountsData). IsShare (g.J.Naming.limit + g.J.Naming.limit) c.reissue.new.token.me.0 s.weight v) (sym zero)
          (subst (λ (v : TokenState). IsShare (g.J.Naming.limit + g.J.Naming.limit) v s.weight
          (settled s.counts (g.J.Naming.limit + g.J.Naming.limit))) met
          (deposit_share (g.J.Naming.limit + g.J.Naming.limit) s.token.me.0 s.weight s.counts c.share.invariant.2)),
    )
