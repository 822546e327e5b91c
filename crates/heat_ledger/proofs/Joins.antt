-- Counts that are added to others, entry by entry.
use Rattle.std.proofs.Common.{◌≡◌, ◌≢◌, ℕ, ◌+◌, ◌<◌, List, length, length-set, refl, sym, ap, ◌∙◌, arith, subst}
use Rattle.std.proofs.lemmas.List.{get_or-set_same, get_or-set_other}
use native.Mathlib.Decide.{ℕ_discrete}
use Rattle.heat_ledger.specs.declared.places.EntryCounts.{EntryCounts}
use Rattle.heat_ledger.specs.declared.places.KeptCounts.{KeptCounts}
use Rattle.heat_ledger.specs.Rows.{at, sums}
use Rattle.heat_ledger.specs.Counts.{CountsData, AreAsLong, counts_of, with_more, both_counts, sum_counts}
use Rattle.heat_ledger.specs.Placed.{AreKeptCounts, no_count, kept_at, column, data_of}
use Rattle.heat_ledger.specs.Touched.{IsTracked}
use Rattle.heat_ledger.proofs.RowLemmas.{sum_row}
use Rattle.heat_ledger.proofs.Marks.{tracked_apart, tracked_inside, tracked_others}
use Rattle.heat_ledger.proofs.Placing.{same_data, same_counts, counts_at, length_column}

-- the counts of the other list's entries up to here were added
pub record IsAdded (new old others : CountsData) (noted : List ℕ) (count : ℕ) : Type 0 where
  pub long : AreAsLong new others
  pub done : (k : ℕ) → k < count → counts_of new (at noted k) ≡ both_counts (counts_of old (at noted k)) (counts_of others (at noted k))
  pub rest : (e : ℕ) → ((k : ℕ) → k < count → at noted k ≢ e) → counts_of new e ≡ counts_of old e

-- the next entry's counts are as they were
pub still : (places : List ℕ) (new old others : CountsData) (noted : List ℕ) (j : ℕ) → IsTracked places noted → j < length noted
    → IsAdded new old others noted j → counts_of new (at noted j) ≡ counts_of old (at noted j)
still places new old others noted j t h was = was.rest (at noted j) (λ k less. tracked_apart places noted k j t less h)

with_same : (v : CountsData) (d : ℕ) (x : EntryCounts) → (d < length v.hits) × (d < length v.pending) × (d < length v.begun)
    → counts_of (with_more v d x) d ≡ both_counts (counts_of v d) x
with_same v d x h = same_counts _ _ (get_or-set_same v.hits d (at v.hits d + x.hits) 0 h.0)
    (get_or-set_same v.pending d (at v.pending d + x.pending) 0 h.1) (get_or-set_same v.begun d (at v.begun d + x.begun) 0 h.2)

with_other : (v : CountsData) (d : ℕ) (x : EntryCounts) (e : ℕ) → e ≢ d → counts_of (with_more v d x) e ≡ counts_of v e
with_other v d x e n = same_counts _ _ (get_or-set_other v.hits d e (at v.hits d + x.hits) 0 n)
    (get_or-set_other v.pending d e (at v.pending d + x.pending) 0 n) (get_or-set_other v.begun d e (at v.begun d + x.begun) 0 n)

-- one more entry's counts are added
pub added_next : (places : List ℕ) (counts old others : CountsData) (noted : List ℕ) (now : CountsData) (j d : ℕ) (x : EntryCounts)
    → IsTracked places noted → j < length noted → d ≡ at noted j
    → (d < length others.hits) × (d < length others.pending) × (d < length others.begun) → x ≡ counts_of others d
    → now ≡ with_more counts d x → IsAdded counts old others noted j → IsAdded now old others noted (j + 1)
added_next places counts old others noted now j d x t h is inside amount to was = subst (λ (v : CountsData). IsAdded v old others noted (j + 1)) (sym to) next
  where
    done : (k : ℕ) → k < j + 1 → Dec (k ≡ j) → counts_of (with_more counts d x) (at noted k)
        ≡ both_counts (counts_of old (at noted k)) (counts_of others (at noted k))
    done k less (yes e) =
        let same : counts_of counts d ≡ counts_of old d = subst (λ (y : ℕ). counts_of counts y ≡ counts_of old y) (sym is)
        (still places counts old others noted j t h was) in
        let l = was.long in
        subst (λ (y : ℕ). counts_of (with_more counts d x) y ≡ both_counts (counts_of old y) (counts_of others y)) (is ∙ ap (at noted) (sym e))
        (with_same counts d x (omega (arith, inside.0, l.hits), omega (arith, inside.1, l.pending), omega (arith, inside.2, l.begun))
        ∙ ap (λ (y : EntryCounts). both_counts y x) same ∙ ap (both_counts (counts_of old d)) amount)
    done k less (no n) =
        let before : k < j = omega arith in
        with_other counts d x (at noted k) (λ e. tracked_apart places noted k j t before h (e ∙ is)) ∙ was.done k before

    next : IsAdded (with_more counts d x) old others noted (j + 1)
    next = record {
      long = record {
        hits = length-set counts.hits d (at counts.hits d + x.hits) ∙ was.long.hits;
        pending = length-set counts.pending d (at counts.pending d + x.pending) ∙ was.long.pending;
        begun = length-set counts.begun d (at counts.begun d + x.begun) ∙ was.long.begun;
      };
      done = λ k less. done k less (ℕ_discrete k j);
      rest = λ e away. with_other counts d x e (λ s. away j (omega arith) (sym (s ∙ is))) ∙ was.rest e (λ k less. away k (omega arith));
    }

-- where the counts of all entries with a place were added, all counts were
pub all_added : (kept : KeptCounts) (new old others : CountsData) → AreKeptCounts kept → data_of kept ≡ others → AreAsLong old others
    → IsAdded new old others kept.entries.items (length kept.entries.items)
    → new ≡ sum_counts old others
all_added kept new old others a view long added =
    same_data _ _ (row (λ v. v.hits) (λ c. c.hits) (λ v e. refl) added.long.hits long.hits (λ x y. refl) refl)
    (row (λ v. v.pending) (λ c. c.pending) (λ v e. refl) added.long.pending long.pending (λ x y. refl) refl)
    (row (λ v. v.begun) (λ c. c.begun) (λ v e. refl) added.long.begun long.begun (λ x y. refl) refl)
  where
    noted : List ℕ
    noted = kept.entries.items

    -- an entry without a place has no count
    uncounted : (e : ℕ) → at kept.places.items e ≡ 0 → counts_of others e ≡ no_count
    uncounted e none = ap (λ (v : CountsData). counts_of v e) (sym view)
        ∙ sym (counts_at kept.limit kept.counts.items kept.places.items e a.counts) ∙ ap (kept_at kept.counts.items) none ∙ a.counts.none

    each : (f : EntryCounts → ℕ) → ((x y : EntryCounts) → f (both_counts x y) ≡ f x + f y) → f no_count ≡ 0 → (e : ℕ)
        → Dec (f (counts_of new e) ≡ f (counts_of old e) + f (counts_of others e))
        → f (counts_of new e) ≡ f (counts_of old e) + f (counts_of others e)
    each f adds zero e (yes s) = s
    each f adds zero e (no n) =
        let away : (k : ℕ) → k < length noted → at noted k ≢ e =
        (λ k h s. n (subst (λ (y : ℕ). f (counts_of new y) ≡ f (counts_of old y) + f (counts_of others y)) s
        (ap f (added.done k h) ∙ adds _ _))) in
        omega (arith, ap f (added.rest e away), ap f (uncounted e (tracked_others kept.places.items noted e a.entries away)), zero)

    row : (g : CountsData → List ℕ) (f : EntryCounts → ℕ) → ((v : CountsData) (e : ℕ) → f (counts_of v e) ≡ at (g v) e)
        → length (g new) ≡ length (g others) → length (g old) ≡ length (g others) → ((x y : EntryCounts) → f (both_counts x y) ≡ f x + f y)
        → f no_count ≡ 0 → g new ≡ sums (g old) (g others)
    row g f is grown long adds zero =
        sum_row (g new) (g old) (g others) (grown ∙ sym long) (sym long)
        (λ e. omega (
          arith,
          is new e,
          is old e,
          is others e,
          each f adds zero e (ℕ_discrete (f (counts_of new e)) (f (counts_of old e) + f (counts_of others e))),
        ))

-- an entry that has a place is below the limit
pub placed_below : (kept : KeptCounts) (others : CountsData) (j d : ℕ) → AreKeptCounts kept → data_of kept ≡ others
    → j < length kept.entries.items → d ≡ at kept.entries.items j
    → (d < length others.hits) × (d < length others.pending) × (d < length others.begun)
placed_below kept others j d a view h is = subst (λ (v : CountsData). (d < length v.hits) × (d < length v.pending) × (d < length v.begun))
    view (below (λ c. c.hits), below (λ c. c.pending), below (λ c. c.begun))
  where
    below : (f : EntryCounts → ℕ) → d < length (column f kept.limit kept.counts.items kept.places.items)
    below f = omega (
      arith,
      is,
      tracked_inside kept.places.items kept.entries.items j a.entries h,
      length_column f kept.limit kept.counts.items kept.places.items a.few,
      a.few,
    )
