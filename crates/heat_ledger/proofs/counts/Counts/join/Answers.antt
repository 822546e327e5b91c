use Rattle.std.proofs.Common.{rules, ◌≡◌, ℕ, ◌<◌, length, sym, arith, subst}
use Rattle.heat_ledger.specs.declared.places.EntryCounts.{EntryCounts}
use Rattle.heat_ledger.specs.Rows.{at}
use Rattle.heat_ledger.specs.Counts.{DoFit, counts_of}
use Rattle.heat_ledger.proofs.RowLemmas.{at_within}
use Rattle.heat_ledger.proofs.Joins.{IsAdded, still, added_next, all_added, placed_below}
use Rattle.heat_ledger.proofs.counts.Counts.join.Goals as goal

pub add-requires-clause-inside : goal.add-requires-clause-inside
add-requires-clause-inside c =
    let kept = c.other.inside.kept in
    let here : c.loop-j.j < length kept.entries.items = search rules in
    let found : c.index.result.now ≡ at kept.entries.items c.loop-j.j = search (rules, at_within) in
    omega (arith, (placed_below kept c.args.other c.loop-j.j c.index.result.now c.other.invariant.0 c.other.view_is here found).0, c.loop-j.invariant.long.hits)

pub add-requires-clause-fits : goal.add-requires-clause-fits
add-requires-clause-fits c =
    let kept = c.other.inside.kept in
    let old = c.args.self.now in
    let here : c.loop-j.j < length kept.entries.items = search rules in
    let found : c.index.result.now ≡ at kept.entries.items c.loop-j.j = search (rules, at_within) in
    let was = still kept.places.items c.loop-j.self old c.args.other kept.entries.items c.loop-j.j c.other.invariant.0.entries here c.loop-j.invariant in
    let same : counts_of old c.index.result.now ≡ counts_of c.loop-j.self c.index.result.now =
    subst (λ (e : ℕ). counts_of old e ≡ counts_of c.loop-j.self e) (sym found) (sym was) in
    rw c.of.ensures (subst (λ (x : EntryCounts). DoFit x (counts_of c.args.other c.index.result.now)) same (c.requires.fits c.index.result.now))

pub loop-j-preserved : goal.loop-j-preserved
loop-j-preserved c =
    let kept = c.other.inside.kept in
    let here : c.loop-j.j < length kept.entries.items = search rules in
    let found : c.index.result.now ≡ at kept.entries.items c.loop-j.j = search (rules, at_within) in
    let below = placed_below kept c.args.other c.loop-j.j c.index.result.now c.other.invariant.0 c.other.view_is here found in
    added_next kept.places.items c.loop-j.self c.args.self.now c.args.other kept.entries.items c.add.new.self c.loop-j.j c.index.result.now
    c.of.result c.other.invariant.0.entries here found below c.of.ensures c.add.ensures c.loop-j.invariant

pub returns : goal.returns
returns c =
    let kept = c.other.inside.kept in
    let end : c.loop-j.j ≡ length kept.entries.items = search rules in
    all_added kept c.loop-j.self c.args.self.now c.args.other c.other.invariant.0 c.other.view_is c.requires.lengths
    (subst (IsAdded c.loop-j.self c.args.self.now c.args.other kept.entries.items) end c.loop-j.invariant)
