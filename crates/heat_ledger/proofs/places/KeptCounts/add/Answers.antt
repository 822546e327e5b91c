use Rattle.std.proofs.Common.{◌≡◌, ◌∙◌, ℕ, set, ap, sym, rules, arith, subst}
use Rattle.std.proofs.lemmas.List.{get_or_read}
use Rattle.heat_ledger.specs.declared.places.EntryCounts.{EntryCounts}
use Rattle.heat_ledger.specs.Counts.{DoFit, both_counts, counts_of}
use Rattle.heat_ledger.specs.Placed.{all_counts, data_of, kept_at, no_count}
use Rattle.heat_ledger.proofs.Placing.{counts_at, more_counts, placed_written}
use Rattle.heat_ledger.proofs.places.KeptCounts.add.Goals as goal

pub with-requires : goal.with-requires
with-requires c =
    let old = c.args.self.now in
    let now = c.place_of-place.new.self in
    let e = c.place_of-place.ensures in
    let read : c.index-had.result.now ≡ kept_at now.counts.items c.place_of-place.result =
    get_or_read now.counts.items c.place_of-place.result c.index-had.result.now
    (omega (arith, e.place.1, e.kept.counts.inside c.args.entry)) c.index-had.ensures no_count in
    let had : c.index-had.result.now ≡ counts_of (data_of old) c.args.entry = read ∙ ap (kept_at now.counts.items) e.place.1
    ∙ e.same c.args.entry ∙ counts_at old.limit old.counts.items old.places.items c.args.entry c.requires.kept.counts in
    subst (λ (x : EntryCounts). DoFit x c.args.more) (sym had) c.requires.fits

pub returns : goal.returns
returns c =
    let old = c.args.self.now in
    let now = c.place_of-place.new.self in
    let e = c.place_of-place.ensures in
    let read : c.index-had.result.now ≡ kept_at now.counts.items c.place_of-place.result =
    get_or_read now.counts.items c.place_of-place.result c.index-had.result.now
    (omega (arith, e.place.1, e.kept.counts.inside c.args.entry)) c.index-had.ensures no_count in
    let had : c.index-had.result.now ≡ counts_of (data_of old) c.args.entry = read ∙ ap (kept_at now.counts.items) e.place.1
    ∙ e.same c.args.entry ∙ counts_at old.limit old.counts.items old.places.items c.args.entry c.requires.kept.counts in
    record {
      kept = record {
        counts = placed_written now.counts.items now.places.items c.place_of-place.result c.with.result e.kept.counts e.place.0;
        entries = e.kept.entries;
        small = e.kept.small;
        few = e.kept.few;
        places_room = e.kept.places_room;
        entries_room = e.kept.entries_room;
        counts_room = search rules;
      };
      limit = e.limit;
      had = had;
      added = rw c.with.ensures (ap
          (λ (n : ℕ). all_counts n (set now.counts.items c.place_of-place.result (both_counts c.index-had.result.now c.args.more))
          now.places.items) e.limit ∙ more_counts old.limit old.counts.items old.places.items now.counts.items now.places.items c.args.entry
          c.place_of-place.result c.index-had.result.now c.args.more c.requires.kept.counts e.kept.counts c.requires.kept.few
          (omega (arith, e.kept.few, e.limit)) c.requires.inside e.same e.place.1 e.place.0 had);
    }
