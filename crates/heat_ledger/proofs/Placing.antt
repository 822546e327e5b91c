-- Counts at places.
use Rattle.std.proofs.Common.{◌≡◌, ◌≢◌, ℕ, zero, suc, ◌+◌, ◌<◌, ◌≤◌, List, [], ◌∷◌, ◌++◌, map, set, length, refl, sym, ap, ◌∙◌, arith, length-set}
use Rattle.std.proofs.lemmas.List.{length-map, length_push, get_or-set_same, get_or-set_other, get_or_past, set-get_or}
use native.Mathlib.Decide.{ℕ_discrete}
use Rattle.heat_ledger.specs.declared.places.EntryCounts.{EntryCounts}
use Rattle.heat_ledger.specs.Rows.{at}
use Rattle.heat_ledger.specs.Counts.{CountsData, counts_of, with_more, both_counts}
use Rattle.heat_ledger.specs.Placed.{placed, no_count, kept_at, column, all_counts, IsPlaced}
use Rattle.heat_ledger.proofs.RowLemmas.{same_rows}
use Rattle.heat_ledger.proofs.Padding.{at_padded, length_padded}

abbrev three : List ℕ → List ℕ → List ℕ → CountsData
three hits pending begun = record { hits = hits; pending = pending; begun = begun }

-- three equal columns are equal together
pub same_data : (v w : CountsData) → v.hits ≡ w.hits → v.pending ≡ w.pending → v.begun ≡ w.begun → v ≡ w
same_data v w hits pending begun = ap (λ (l : List ℕ). three l v.pending v.begun) hits ∙ ap (λ (l : List ℕ). three w.hits l v.begun) pending
    ∙ ap (λ (l : List ℕ). three w.hits w.pending l) begun

abbrev entry : ℕ → ℕ → ℕ → EntryCounts
entry hits pending begun = record { hits = hits; pending = pending; begun = begun }

-- three equal counts are equal together
pub same_counts : (x y : EntryCounts) → x.hits ≡ y.hits → x.pending ≡ y.pending → x.begun ≡ y.begun → x ≡ y
same_counts x y hits pending begun = ap (λ (n : ℕ). entry n x.pending x.begun) hits ∙ ap (λ (n : ℕ). entry y.hits n x.begun) pending
    ∙ ap (λ (n : ℕ). entry y.hits y.pending n) begun

at_map : (f : EntryCounts → ℕ) (kept : List EntryCounts) (places : List ℕ) (e : ℕ) → f (kept_at kept 0) ≡ 0
    → at (map (λ place. f (kept_at kept place)) places) e ≡ f (kept_at kept (at places e))
at_map f kept [] e none = sym none
at_map f kept (p ∷ ps) zero none = refl
at_map f kept (p ∷ ps) (suc e) none = at_map f kept ps e none

pub at_column : (f : EntryCounts → ℕ) (n : ℕ) (kept : List EntryCounts) (places : List ℕ) (e : ℕ) → f (kept_at kept 0) ≡ 0
    → at (column f n kept places) e ≡ f (kept_at kept (at places e))
at_column f n kept places e none = at_padded n (map (λ place. f (kept_at kept place)) places) e ∙ at_map f kept places e none

pub length_column : (f : EntryCounts → ℕ) (n : ℕ) (kept : List EntryCounts) (places : List ℕ) → length places ≤ n → length (column f n kept places) ≡ n
length_column f n kept places few = length_padded n (map (λ place. f (kept_at kept place)) places)
    (omega (arith, length-map places (λ (place : ℕ). f (kept_at kept place))))

-- the counts at an entry's place are its own
pub counts_at : (n : ℕ) (kept : List EntryCounts) (places : List ℕ) (e : ℕ) → IsPlaced kept places
    → kept_at kept (at places e) ≡ counts_of (all_counts n kept places) e
counts_at n kept places e p = same_counts _ _ (one (λ c. c.hits) refl) (one (λ c. c.pending) refl) (one (λ c. c.begun) refl)
  where
    one : (f : EntryCounts → ℕ) → f no_count ≡ 0 → f (kept_at kept (at places e)) ≡ at (column f n kept places) e
    one f none = sym (at_column f n kept places e (ap f p.none ∙ none))

-- one entry's count changes
column_set : (f : EntryCounts → ℕ) (n : ℕ) (kept : List EntryCounts) (places : List ℕ) (now : List EntryCounts) (given : List ℕ) (d v : ℕ)
    → f (kept_at kept 0) ≡ 0 → f (kept_at now 0) ≡ 0 → length places ≤ n → length given ≤ n → d < n
    → f (kept_at now (at given d)) ≡ v → ((e : ℕ) → e ≢ d → kept_at now (at given e) ≡ kept_at kept (at places e))
    → column f n now given ≡ set (column f n kept places) d v
column_set f n kept places now given d v z y few within inside here other =
    same_rows (column f n now given) (set old d v) (length_column f n now given within ∙ sym (length-set old d v ∙ long))
    (λ e. at_column f n now given e y ∙ each e (ℕ_discrete e d))
  where
    old : List ℕ
    old = column f n kept places

    long : length (column f n kept places) ≡ n
    long = length_column f n kept places few

    each : (e : ℕ) → Dec (e ≡ d) → f (kept_at now (at given e)) ≡ at (set (column f n kept places) d v) e
    each e (yes s) = ap (λ (k : ℕ). f (kept_at now (at given k))) s ∙ here
        ∙ sym (ap (at (set (column f n kept places) d v)) s ∙ get_or-set_same (column f n kept places) d v 0 (omega (arith, long)))
    each e (no m) = ap f (other e m) ∙ sym (at_column f n kept places e z) ∙ sym (get_or-set_other (column f n kept places) d e v 0 m)

-- one entry's counts change
counts_set : (n : ℕ) (kept : List EntryCounts) (places : List ℕ) (now : List EntryCounts) (given : List ℕ) (d : ℕ) (x : EntryCounts)
    → IsPlaced kept places → IsPlaced now given → length places ≤ n → length given ≤ n → d < n
    → kept_at now (at given d) ≡ x → ((e : ℕ) → e ≢ d → kept_at now (at given e) ≡ kept_at kept (at places e))
    → all_counts n now given ≡ three (set (column (λ c. c.hits) n kept places) d x.hits)
    (set (column (λ c. c.pending) n kept places) d x.pending) (set (column (λ c. c.begun) n kept places) d x.begun)
counts_set n kept places now given d x p q few within inside here other =
    same_data _ _ (one (λ c. c.hits) refl) (one (λ c. c.pending) refl) (one (λ c. c.begun) refl)
  where
    one : (f : EntryCounts → ℕ) → f no_count ≡ 0 → column f n now given ≡ set (column f n kept places) d (f x)
    one f none = column_set f n kept places now given d (f x) (ap f p.none ∙ none) (ap f q.none ∙ none) few within inside (ap f here) other

pub placed_push : (ps : List ℕ) → placed (ps ++ 0 ∷ []) ≡ placed ps
placed_push [] = refl
placed_push (zero ∷ ps) = placed_push ps
placed_push (suc p ∷ ps) = omega (arith, placed_push ps)

placed_le : (ps : List ℕ) → placed ps ≤ length ps
placed_le [] = omega arith
placed_le (zero ∷ ps) = omega (arith, placed_le ps)
placed_le (suc p ∷ ps) = omega (arith, placed_le ps)

-- where some entry has no place there is room for one
pub placed_room : (ps : List ℕ) (d : ℕ) → d < length ps → at ps d ≡ 0 → placed ps < length ps
placed_room [] d inside none = absurd (omega arith)
placed_room (zero ∷ ps) zero inside none = omega (arith, placed_le ps)
placed_room (suc p ∷ ps) zero inside none = absurd (omega arith)
placed_room (zero ∷ ps) (suc d) inside none = omega (arith, placed_room ps d (omega arith) none)
placed_room (suc p ∷ ps) (suc d) inside none = omega (arith, placed_room ps d (omega arith) none)

placed_set : (ps : List ℕ) (d v : ℕ) → d < length ps → at ps d ≡ 0 → 1 ≤ v → placed (set ps d v) ≡ 1 + placed ps
placed_set [] d v inside none some = absurd (omega arith)
placed_set (zero ∷ ps) zero zero inside none some = absurd (omega arith)
placed_set (zero ∷ ps) zero (suc v) inside none some = refl
placed_set (suc p ∷ ps) zero v inside none some = absurd (omega arith)
placed_set (zero ∷ ps) (suc d) v inside none some = placed_set ps d v (omega arith) none some
placed_set (suc p ∷ ps) (suc d) v inside none some = omega (arith, placed_set ps d v (omega arith) none some)

kept_push : (kept : List EntryCounts) (place : ℕ) → kept_at (kept ++ no_count ∷ []) place ≡ kept_at kept place
kept_push [] zero = refl
kept_push [] (suc p) = refl
kept_push (x ∷ xs) zero = refl
kept_push (x ∷ xs) (suc p) = kept_push xs p

-- an entry gets the next place
pub placed_next : (kept : List EntryCounts) (ps : List ℕ) (d : ℕ) → IsPlaced kept ps → d < length ps → at ps d ≡ 0
    → IsPlaced (kept ++ no_count ∷ []) (set ps d (length kept))
placed_next kept ps d p within without = record {
  none = kept_push kept 0 ∙ p.none;
  size = omega (arith, length_push kept no_count, placed_set ps d (length kept) within without (omega (arith, p.size)), p.size);
  inside = λ e. inside e (ℕ_discrete e d);
  apart = λ e f m s. apart e f m s (ℕ_discrete e d) (ℕ_discrete f d);
}
  where
    n : ℕ
    n = length kept

    inside : (e : ℕ) → Dec (e ≡ d) → at (set ps d (length kept)) e < length (kept ++ no_count ∷ [])
    inside e (yes s) = omega (arith, ap (at (set ps d n)) s, get_or-set_same ps d n 0 within, length_push kept no_count)
    inside e (no m) = omega (arith, get_or-set_other ps d e n 0 m, p.inside e, length_push kept no_count)

    apart : (e f : ℕ) → e ≢ f → at (set ps d (length kept)) e ≡ at (set ps d (length kept)) f → Dec (e ≡ d) → Dec (f ≡ d) → at (set ps d (length kept)) e ≡ 0
    apart e f m s (yes a) (yes b) = absurd (m (a ∙ sym b))
    apart e f m s (yes a) (no b) = absurd (omega (arith, s, ap (at (set ps d n)) a, get_or-set_same ps d n 0 within, get_or-set_other ps d f n 0 b, p.inside f))
    apart e f m s (no a) (yes b) = absurd (omega (arith, s, ap (at (set ps d n)) b, get_or-set_same ps d n 0 within, get_or-set_other ps d e n 0 a, p.inside e))
    apart e f m s (no a) (no b) = get_or-set_other ps d e n 0 a ∙ p.apart e f m (sym (get_or-set_other ps d e n 0 a) ∙ s ∙ get_or-set_other ps d f n 0 b)

-- and no count changes by that
pub next_same : (kept : List EntryCounts) (ps : List ℕ) (d e : ℕ) → IsPlaced kept ps → d < length ps → at ps d ≡ 0 → Dec (e ≡ d)
    → kept_at (kept ++ no_count ∷ []) (at (set ps d (length kept)) e) ≡ kept_at kept (at ps e)
next_same kept ps d e p within without (yes s) =
    let a : at (set ps d (length kept)) e ≡ length kept = ap (at (set ps d (length kept))) s ∙ get_or-set_same ps d (length kept) 0 within in
    let b : kept_at kept (at ps e) ≡ no_count = ap (kept_at kept) (ap (at ps) s ∙ without) ∙ p.none in
    kept_push kept (at (set ps d (length kept)) e) ∙ ap (kept_at kept) a ∙ get_or_past kept (length kept) no_count (omega arith) ∙ sym b
next_same kept ps d e p within without (no m) = kept_push kept (at (set ps d (length kept)) e) ∙ ap (kept_at kept) (get_or-set_other ps d e (length kept) 0 m)

-- counts at a place other than 0 are written
pub placed_written : (kept : List EntryCounts) (ps : List ℕ) (place : ℕ) (x : EntryCounts) → IsPlaced kept ps → 1 ≤ place → IsPlaced (set kept place x) ps
placed_written kept ps place x p some = record {
  none = get_or-set_other kept place 0 x no_count (λ e. absurd (omega arith)) ∙ p.none;
  size = length-set kept place x ∙ p.size;
  inside = λ d. omega (arith, p.inside d, length-set kept place x);
  apart = p.apart;
}

-- an entry's counts are written at its place, which it has or was given
written : (n : ℕ) (kept : List EntryCounts) (places : List ℕ) (now : List EntryCounts) (given : List ℕ) (d place : ℕ) (x : EntryCounts)
    → IsPlaced kept places → IsPlaced now given → length places ≤ n → length given ≤ n → d < n
    → ((e : ℕ) → kept_at now (at given e) ≡ kept_at kept (at places e)) → place ≡ at given d → 1 ≤ place
    → all_counts n (set now place x) given ≡ three (set (column (λ c. c.hits) n kept places) d x.hits)
    (set (column (λ c. c.pending) n kept places) d x.pending) (set (column (λ c. c.begun) n kept places) d x.begun)
written n kept places now given d place x p q few within inside still is some =
    counts_set n kept places (set now place x) given d x p (placed_written now given place x q some) few within inside
    (ap (kept_at (set now place x)) (sym is) ∙ get_or-set_same now place x no_count (omega (arith, q.inside d)))
    (λ e m. get_or-set_other now place (at given e) x no_count (λ s. absurd (omega (arith, q.apart e d m (s ∙ is), s))) ∙ still e)

-- an entry has more, at the place that it has now
pub more_counts : (n : ℕ) (kept : List EntryCounts) (places : List ℕ) (now : List EntryCounts) (given : List ℕ) (d place : ℕ)
    (had more : EntryCounts) → IsPlaced kept places → IsPlaced now given → length places ≤ n → length given ≤ n → d < n
    → ((e : ℕ) → kept_at now (at given e) ≡ kept_at kept (at places e)) → place ≡ at given d → 1 ≤ place → had ≡ counts_of (all_counts n kept places) d
    → all_counts n (set now place (both_counts had more)) given ≡ with_more (all_counts n kept places) d more
more_counts n kept places now given d place had more p q few within inside still is some was =
    written n kept places now given d place (both_counts had more) p q few within inside still is some
    ∙ ap (λ (x : EntryCounts). three (set v.hits d (x.hits + more.hits)) (set v.pending d (x.pending + more.pending))
    (set v.begun d (x.begun + more.begun))) was
  where
    v : CountsData
    v = all_counts n kept places

-- where there is no count, writing none changes nothing
pub set_none : (xs : List ℕ) (d : ℕ) → at xs d ≡ 0 → set xs d 0 ≡ xs
set_none xs d none = ap (set xs d) (sym none) ∙ set-get_or xs d 0

-- an entry that has a place is one below the limit
has_place : (places : List ℕ) (d : ℕ) → 1 ≤ at places d → d < length places
has_place [] d some = absurd (omega arith)
has_place (p ∷ ps) zero some = omega arith
has_place (p ∷ ps) (suc d) some = omega (arith, has_place ps d some)

-- an entry's pending hits are taken
pub taken : (n : ℕ) (kept : List EntryCounts) (places : List ℕ) (d place : ℕ) (x : EntryCounts) → IsPlaced kept places → length places ≤ n
    → place ≡ at places d → 1 ≤ place → x ≡ kept_at kept place
    → all_counts n (set kept place (record x { pending = 0 })) places
    ≡ record (all_counts n kept places) { pending = set (column (λ c. c.pending) n kept places) d 0 }
taken n kept places d place x p few is some had =
    written n kept places kept places d place (record x { pending = 0 }) p p few few (omega (arith, has_place places d (omega arith), few))
    (λ e. refl) is some ∙ same_data _ _ (same (λ c. c.hits) refl) refl (same (λ c. c.begun) refl)
  where
    same : (f : EntryCounts → ℕ) → f no_count ≡ 0 → set (column f n kept places) d (f x) ≡ column f n kept places
    same f none = ap (λ (y : EntryCounts). set (column f n kept places) d (f y)) (had ∙ ap (kept_at kept) is)
        ∙ ap (set (column f n kept places) d) (sym (at_column f n kept places d (ap f p.none ∙ none)))
        ∙ set-get_or (column f n kept places) d 0
