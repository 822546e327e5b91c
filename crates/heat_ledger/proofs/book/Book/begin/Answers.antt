use Rattle.std.proofs.Common.{◌≡◌, ◌<◌, ◌+◌, ◌∙◌, ℕ, List, length, ap, sym, rules, arith, subst}
use Rattle.heat_ledger.specs.declared.tally.TokenState.{TokenState}
use Rattle.heat_ledger.specs.Counts.{CountsData}
use Rattle.mds_types.specs.declared.kind.Kind.TheVariants.{Read}
use Rattle.heat_ledger.specs.Rows.{at, entry, sums, raised, raised_by, evens}
use Rattle.heat_ledger.specs.Tally.{share_state, most}
use Rattle.heat_ledger.specs.Ledger.{BookData, unit, begun_slot, IsShare}
use Rattle.heat_ledger.proofs.RowLemmas.{at_sums, at_within, at_evens, evens_raised_at}
use Rattle.heat_ledger.proofs.Shares.{begin_share, begin_shown}
use Rattle.heat_ledger.proofs.Books.{begin_backed, begin_book_at, begin_fits}
use Rattle.heat_ledger.proofs.book.Book.begin.Goals as goal

pub reissue-requires-clause-amounts : goal.reissue-requires-clause-amounts
reissue-requires-clause-amounts g c k = at_sums c.share.inside.token.me.0.amounts (unit (begun_slot (entry c.args.dir Read))) k

pub reissue-requires-clause-backed : goal.reissue-requires-clause-backed
reissue-requires-clause-backed g c k under was =
    let b = c.self.inside in
    let room : at b.begun.items (entry c.args.dir Read) < most =
    omega (
      arith,
      at_evens b.begun.items c.args.dir,
      subst (λ (b : BookData). at b.begun c.args.dir < most) (sym c.self.view_is)
          c.requires.room,
    ) in
    begin_backed (g.J.Naming.limit + g.J.Naming.limit) c.share.inside.token.me.0 b.token.me.0 c.share.inside.weight b.shares
    c.share.inside.counts b.counted.items b.begun.items (entry c.args.dir Read)
    c.share.invariant.2 c.self.invariant.2 room k under was

pub add_begun-requires-clause-fits : goal.add_begun-requires-clause-fits
add_begun-requires-clause-fits g c =
    rw c.entry_of-entry.ensures
    (begin_fits (g.J.Naming.limit + g.J.Naming.limit) c.share.inside.token.me.0 c.share.inside.weight c.share.inside.counts
    (entry c.args.dir Read) c.share.invariant.2
    (c.reissue.ensures.backed (begun_slot (entry c.args.dir Read))))

pub invariant_of-self : goal.invariant_of-self
invariant_of-self g c =
    let b = c.self.inside in
    let e = c.reissue.ensures in
    let d = entry c.args.dir Read in
    let row = c.entry_of-entry.result in
    let below : d < g.J.Naming.limit + g.J.Naming.limit = omega (arith, c.requires.inside) in
    let inside : row < length b.begun.items = omega (arith, c.entry_of-entry.ensures, below, c.self.invariant.2.as_begun) in
    let found : c.index_mut.result.now ≡ at b.begun.items row = c.index_mut.ensures.value ∙ at_within b.begun.items row c.index_mut.result.now inside in (
      search rules,
      search rules,
      begin_book_at (g.J.Naming.limit + g.J.Naming.limit) b.token.me.0 c.reissue.new.authority.me.0 b.shares d row c.index_mut.result.now
          b.counted.items b.begun.items c.self.invariant.2 e.authority.0 e.authority.1 e.authority.2 e.totals below c.entry_of-entry.ensures
          (found ∙ ap (at b.begun.items) c.entry_of-entry.ensures),
      search rules,
      search rules,
    )

pub invariant_of-share : goal.invariant_of-share
invariant_of-share g c =
    let s = c.share.inside in
    let d = entry c.args.dir Read in
    let n = g.J.Naming.limit + g.J.Naming.limit in
    let below : d < n = omega (arith, c.requires.inside) in
    let raises = subst (λ (e : ℕ). c.add_begun.new.self ≡ record s.counts { begun = raised_by s.counts.begun e 1 }) c.entry_of-entry.ensures
    c.add_begun.ensures in
    let met : share_state s.token.me.0.parts (sums s.token.me.0.amounts (unit (begun_slot d))) ≡ c.reissue.new.token.me.0 = search rules in (
      search rules,
      search rules,
      subst (λ (v : CountsData). IsShare n c.reissue.new.token.me.0 s.weight v) (sym raises)
          (subst (λ (v : TokenState). IsShare n v s.weight (record s.counts { begun = raised s.counts.begun d })) met
          (begin_share n s.token.me.0 s.weight d s.counts c.share.invariant.2 below)),
    )

abbrev with_begun : BookData → List ℕ → BookData
with_begun book begun = record book { begun = begun }

pub returns-clause-book : goal.returns-clause-book
returns-clause-book g c =
    let b = c.self.inside in
    let d = c.args.dir in
    let row = c.entry_of-entry.result in
    let inside : row < length b.begun.items = omega (arith, c.entry_of-entry.ensures, c.requires.inside, c.self.invariant.2.as_begun) in
    let found : c.index_mut.result.now ≡ at b.begun.items (d + d) = c.index_mut.ensures.value
    ∙ at_within b.begun.items row c.index_mut.result.now inside ∙ ap (at b.begun.items) c.entry_of-entry.ensures in
    let was : BookData = record { is_open = b.is_open; shares = b.shares; counted = b.counted.items; begun = evens b.begun.items } in
    ap (with_begun was) (evens_raised_at b.begun.items d row c.index_mut.result.now c.entry_of-entry.ensures found)
    ∙ ap (λ (b : BookData). with_begun b (raised b.begun d)) c.self.view_is

pub returns-clause-share : goal.returns-clause-share
returns-clause-share g c =
    let counts = c.share.inside.counts in
    let raises = subst (λ (e : ℕ). c.add_begun.new.self ≡ record counts { begun = raised_by counts.begun e 1 }) c.entry_of-entry.ensures c.add_begun.ensures in
    begin_shown c.share.inside.weight c.args.dir counts c.add_begun.new.self c.args.share.now raises c.share.view_is
