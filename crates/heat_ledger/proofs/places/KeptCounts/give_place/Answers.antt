use Rattle.std.proofs.Common.{rules, ◌≡◌, length, sym, ◌∙◌, arith}
use native.Mathlib.Decide.{ℕ_discrete}
use Rattle.heat_ledger.specs.Rows.{at}
use Rattle.heat_ledger.proofs.RowLemmas.{at_within}
use Rattle.heat_ledger.proofs.Placing.{placed_room, placed_next, next_same}
use Rattle.heat_ledger.proofs.Marks.{tracked_room, tracked_first}
use Rattle.heat_ledger.proofs.places.KeptCounts.give_place.Goals as goal

pub overflow_cast-len : goal.overflow_cast-len
overflow_cast-len c =
    let places = c.args.self.now.places.items in
    let found : c.index.result.now ≡ at places c.args.entry = search (rules, at_within) in
    omega (
      arith,
      placed_room places c.args.entry c.requires.inside (sym found ∙ c.if-index-eq0.true),
      c.requires.kept.counts.size,
      c.requires.kept.few,
      c.len.ensures,
    )

pub push_reserved-requires : goal.push_reserved-requires
push_reserved-requires c =
    let old = c.args.self.now in
    let found : c.index.result.now ≡ at old.places.items c.args.entry = search (rules, at_within) in
    omega (
      arith,
      tracked_room old.places.items old.entries.items c.args.entry c.requires.kept.entries c.requires.inside
          (sym found ∙ c.if-index-eq0.true),
      c.requires.kept.few,
      c.requires.kept.entries_room,
      old.entries.ok,
    )

pub push_reserved-requires-then-index-eq0 : goal.push_reserved-requires-then-index-eq0
push_reserved-requires-then-index-eq0 c =
    let old = c.args.self.now in
    let found : c.index.result.now ≡ at old.places.items c.args.entry = search (rules, at_within) in
    omega (
      arith,
      placed_room old.places.items c.args.entry c.requires.inside (sym found ∙ c.if-index-eq0.true),
      c.requires.kept.counts.size,
      c.requires.kept.few,
      c.requires.kept.counts_room,
      old.counts.ok,
    )

pub returns-then-index-eq0-clause-kept : goal.returns-then-index-eq0-clause-kept
returns-then-index-eq0-clause-kept c =
    let old = c.args.self.now in
    let a = c.requires.kept in
    let places = old.places.items in
    let found : c.index.result.now ≡ at places c.args.entry = search (rules, at_within) in
    let none = sym found ∙ c.if-index-eq0.true in
    let n : c.len.result ≡ length old.counts.items = search rules in
    record {
      counts = rw (c.push_reserved-then-index-eq0.ensures.items, n) (placed_next old.counts.items places c.args.entry a.counts c.requires.inside none);
      entries = rw c.push_reserved.ensures.items
          (tracked_first places old.entries.items c.args.entry c.len.result a.entries c.requires.inside none
          (omega (arith, n, a.counts.size)));
      small = a.small;
      few = search rules;
      places_room = a.places_room;
      entries_room = search rules;
      counts_room = search rules;
    }

pub returns-then-index-eq0-clause-same : goal.returns-then-index-eq0-clause-same
returns-then-index-eq0-clause-same c e =
    let old = c.args.self.now in
    let places = old.places.items in
    let found : c.index.result.now ≡ at places c.args.entry = search (rules, at_within) in
    let n : c.len.result ≡ length old.counts.items = search rules in
    rw (c.push_reserved-then-index-eq0.ensures.items, n)
    (next_same old.counts.items places c.args.entry e c.requires.kept.counts c.requires.inside (sym found ∙ c.if-index-eq0.true)
    (ℕ_discrete e c.args.entry))
