use Rattle.std.proofs.Common.{rules, ◌≡◌, ℕ, refl, sym, ap, ◌∙◌, arith}
use Rattle.std.proofs.lemmas.List.{get_or_read}
use Rattle.heat_ledger.specs.Rows.{at}
use Rattle.heat_ledger.specs.Placed.{data_of, kept_at, no_count}
use Rattle.heat_ledger.specs.declared.places.EntryCounts.{EntryCounts}
use Rattle.heat_ledger.proofs.Placing.{at_column, same_data, set_none, taken}
use Rattle.heat_ledger.proofs.places.KeptCounts.take_pending.Goals as goal

pub returns-then-place-gt0-clause-taken : goal.returns-then-place-gt0-clause-taken
returns-then-place-gt0-clause-taken c =
    let old = c.args.self.now in
    let place : c.unwrap_or-place.result ≡ at old.places.items c.args.entry = search rules in
    let read = get_or_read old.counts.items c.unwrap_or-place.result c.index_mut.result.now
    (omega (arith, place, c.requires.counts.inside c.args.entry)) c.index_mut.ensures.value no_count in
    taken old.limit old.counts.items old.places.items c.args.entry c.unwrap_or-place.result c.index_mut.result.now c.requires.counts
    c.requires.few place (search rules) read

pub returns-else-place-gt0-clause-taken : goal.returns-else-place-gt0-clause-taken
returns-else-place-gt0-clause-taken c =
    let old = c.args.self.now in
    let place : c.unwrap_or-place.result ≡ at old.places.items c.args.entry = search rules in
    let none : at old.places.items c.args.entry ≡ 0 = omega (arith, place, c.if-place-gt0.false) in
    same_data _ _ refl (sym (set_none (data_of old).pending c.args.entry
    (at_column (λ (x : EntryCounts). x.pending) old.limit old.counts.items old.places.items c.args.entry
    (ap (λ (x : EntryCounts). x.pending) c.requires.counts.none) ∙ ap (λ (p : ℕ). (kept_at old.counts.items p).pending) none
    ∙ ap (λ (x : EntryCounts). x.pending) c.requires.counts.none))) refl
