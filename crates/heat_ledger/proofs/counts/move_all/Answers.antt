use Rattle.std.proofs.Common.{◌≡◌, ◌∙◌, ◌+◌, ◌<◌, ◌≤◌, ℕ, List, set, length, sym, ap, arith, rules, subst}
use native.Mathlib.Decide.{ℕ_discrete}
use Rattle.heat_ledger.specs.Rows.{at}
use Rattle.heat_ledger.specs.Counts.{CountsData}
use Rattle.heat_ledger.specs.declared.places.KeptCounts.{KeptCounts}
use Rattle.heat_ledger.specs.declared.places.EntryCounts.{EntryCounts}
use Rattle.heat_ledger.specs.Placed.{AreKeptCounts, data_of}
use Rattle.heat_ledger.specs.Touched.{IsTracked}
use Rattle.heat_ledger.proofs.RowLemmas.{at_within, moved_entry, emptied_entry, emptied_next}
use Rattle.heat_ledger.proofs.Marks.{tracked_inside, settled}
use Rattle.heat_ledger.proofs.Placing.{length_column}
use Rattle.heat_ledger.proofs.counts.move_all.Goals as goal

-- a noted entry is below the limit
below : (kept : KeptCounts) (noted : List ℕ) (j d : ℕ) → AreKeptCounts kept → IsTracked (data_of kept).pending noted → j < length noted
    → d ≡ at noted j → d < kept.limit
below kept noted j d a t inside found = omega (
  arith,
  found,
  tracked_inside (data_of kept).pending noted j t inside,
  length_column (λ (x : EntryCounts). x.pending) kept.limit kept.counts.items kept.places.items a.few,
)

pub index_mut-requires : goal.index_mut-requires
index_mut-requires c =
    let noted = c.args.touched.now.items in
    let inside : c.loop-j.j < length noted = search rules in
    let found : c.index-entry.result.now ≡ at noted c.loop-j.j = search (rules, at_within) in
    omega (
      arith,
      below c.args.kept.now noted c.loop-j.j c.index-entry.result.now c.requires.kept c.requires.tracked inside found,
      c.requires.length,
      c.loop-j.invariant.long,
    )

pub overflow_add-index_mut : goal.overflow_add-index_mut
overflow_add-index_mut c =
    let noted = c.args.touched.now.items in
    let d = c.index-entry.result.now in
    let inside : c.loop-j.j < length noted = search rules in
    let found : d ≡ at noted c.loop-j.j = search (rules, at_within) in
    let within : d < length c.loop-j.into.items = omega (
      arith,
      below c.args.kept.now noted c.loop-j.j d c.requires.kept c.requires.tracked inside found,
      c.requires.length,
      c.loop-j.invariant.long,
    ) in
    let here : c.index_mut.result.now ≡ at c.loop-j.into.items d = search (rules, at_within) in
    omega (arith, here, c.take_pending.ensures.count, c.loop-j.invariant.sums d, c.requires.fits d)

pub returns-clause-zero : goal.returns-clause-zero
returns-clause-zero c e =
    let i = c.loop-j.invariant in
    settled (data_of c.loop-j.kept).pending (data_of c.args.kept.now).pending c.args.touched.now.items e c.requires.tracked (i.less e)
    (λ k h. i.done k (search rules)) (ℕ_discrete (at (data_of c.loop-j.kept).pending e) 0)

pub returns-clause-sums : goal.returns-clause-sums
returns-clause-sums c e =
    let i = c.loop-j.invariant in
    omega (
      arith,
      i.sums e,
      settled (data_of c.loop-j.kept).pending (data_of c.args.kept.now).pending c.args.touched.now.items e
          c.requires.tracked (i.less e) (λ k h. i.done k (search rules)) (ℕ_discrete (at (data_of c.loop-j.kept).pending e) 0),
    )

pub loop-j-preserved : goal.loop-j-preserved
loop-j-preserved c =
    let d = c.index-entry.result.now in
    let j = c.loop-j.j in
    let noted = c.args.touched.now.items in
    let into = c.loop-j.into.items in
    let old = (data_of c.args.kept.now).pending in
    let from = (data_of c.loop-j.kept).pending in
    let i = c.loop-j.invariant in
    let v = c.index_mut.result.now + c.take_pending.result in
    let inside : j < length noted = search rules in
    let found : d ≡ at noted j = search (rules, at_within) in
    let within = below c.args.kept.now noted j d c.requires.kept c.requires.tracked inside found in
    let there : d < length from = omega (
      arith,
      within,
      i.limit,
      length_column (λ (x : EntryCounts). x.pending) c.loop-j.kept.limit c.loop-j.kept.counts.items c.loop-j.kept.places.items i.kept.few,
    )
    in
    let here : d < length into = omega (arith, within, i.long, c.requires.length) in
    let had : c.index_mut.result.now ≡ at into d = search (rules, at_within) in
    let sum : v ≡ at into d + at from d = omega (arith, had, c.take_pending.ensures.count) in
    let left : set from d 0 ≡ (data_of c.take_pending.new.self).pending = sym (ap (λ (v : CountsData). v.pending) c.take_pending.ensures.taken) in
    record {
      long = search rules;
      kept = c.take_pending.ensures.kept;
      limit = c.take_pending.ensures.limit ∙ i.limit;
      others = (
        ap (λ (v : CountsData). v.hits) c.take_pending.ensures.taken ∙ i.others.0,
        ap (λ (v : CountsData). v.begun) c.take_pending.ensures.taken ∙ i.others.1,
      );
      sums = λ e. subst (λ (l : List ℕ). at (set into d v) e + at l e ≡ at c.args.into.now.items e + at old e) left
          (moved_entry into from d v e here there sum ∙ i.sums e);
      less = λ e. subst (λ (l : List ℕ). at l e ≤ at old e) left (omega (arith, emptied_entry from d e there, i.less e));
      done = λ k less. subst (λ (l : List ℕ). at l (at noted k) ≡ 0) left (emptied_next from noted d j k found there (λ before. i.done k before) less);
    }
