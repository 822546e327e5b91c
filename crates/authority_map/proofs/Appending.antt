-- Runs of the first directories go on with whole runs of others.
use Rattle.std.proofs.Common.{◌≡◌, ◌≢◌, ◌⊎◌, ℕ, ◌+◌, ◌-◌, ◌<◌, ◌≤◌, ◌++◌, true, false, List, length}
use Rattle.std.proofs.Common.{get_or, slice_index, min, ◌↔◌, take, drop, sym, ap, ◌∙◌, arith, subst, inl, inr}
use Rattle.std.proofs.lemmas.List.{get_or_append_left, get_or-append_right, get_or-drop, get_or-take, get_or_past, length-append, length-drop, length-take-le}
use Rattle.std.proofs.lemmas.Bool.Decides.{leb_tells}
use native.Mathlib.Decide.{ℕ_discrete}
use lib.Dec.{leb}
use Rattle.authority_map.specs.Runs.{IsIn, AreStarts, AreRuns, AreBefore, HasCells, HasFirst}
use Rattle.authority_map.proofs.RunLemmas.{not_sooner, rises_to}

-- `count` numbers of a list, from `first` on
abbrev pub some_of : List ℕ → ℕ → ℕ → List ℕ
some_of xs first count = take count (drop first xs)

pub some_length : (xs : List ℕ) (first count : ℕ) → first + count ≤ length xs → length (some_of xs first count) ≡ count
some_length xs first count fits = length-take-le count (drop first xs) (omega (arith, length-drop first xs, fits))

some_item : (xs : List ℕ) (first count k : ℕ) → k < count → get_or (some_of xs first count) k 0 ≡ get_or xs (first + k) 0
some_item xs first count k h = get_or-take count (drop first xs) k 0 h ∙ get_or-drop first xs k 0

no_sooner : (starts : List ℕ) → AreStarts starts → (i j : ℕ) → i ≤ j → j < length starts → get_or starts i 0 ≤ get_or starts j 0
no_sooner starts order i j le h = step (ℕ_discrete i j)
  where
    step : Dec (i ≡ j) → get_or starts i 0 ≤ get_or starts j 0
    step (yes e) = rw e (omega arith)
    step (no n) = omega (arith, rises_to starts order i j (omega (arith, le, n)) h)

-- The runs made so far end at the directory mid, with the cell of run; then count runs follow. The last of them, or
-- run itself where there is none, has the directory before end.
pub record IsPiece (starts : List ℕ) (run count mid end : ℕ) : Type 0 where
  pub there : run + count < length starts
  pub seam : 0 < count → get_or starts (run + 1) 0 ≡ mid
  pub single : count ≡ 0 → mid ≡ end
  pub within : mid ≤ end
  pub reach : get_or starts (run + count) 0 < end
  pub until : run + count + 1 < length starts → end ≤ get_or starts (run + count + 1) 0

pub piece : (limit : ℕ) (starts cells : List ℕ) → AreRuns limit starts cells → (run last first end stop : ℕ) → IsIn starts run first
    → IsIn starts last (end - 1) → first < end → end ≤ limit
    → ((dir : ℕ) → (slice_index starts run ≤ dir) × (dir < stop) ↔ (dir < limit) × IsIn starts run dir)
    → IsPiece starts run (last + 1 - (run + 1)) (min stop end) end
piece limit starts cells runs run last first end stop p q less few inside = record {
  there = omega (arith, le, q.there);
  seam = λ some. omega (arith, stop_is some, early some);
  single = λ none. omega (arith, whole (omega (arith, none, le)));
  within = omega arith;
  reach = omega (arith, q.from, ap (λ (n : ℕ). get_or starts n 0) at, less);
  until = λ h. omega (arith, q.until (omega (arith, h, at)), ap (λ (n : ℕ). get_or starts (n + 1) 0) at, less);
}
  where
    le : run ≤ last
    le = not_sooner starts runs.order run last first (end - 1) p q (omega (arith, less))

    at : run + (last + 1 - (run + 1)) ≡ last
    at = omega (arith, le)

    early : 0 < last + 1 - (run + 1) → get_or starts (run + 1) 0 < end
    early some = omega (arith, no_sooner starts runs.order (run + 1) last (omega (arith, some)) q.there, q.from, less)

    stop_is : 0 < last + 1 - (run + 1) → get_or starts (run + 1) 0 ≡ stop
    stop_is some =
        let next : run + 1 < length starts = omega (arith, some, q.there) in
        let rise : get_or starts run 0 < get_or starts (run + 1) 0 = runs.order.rising run next in
        let before : get_or starts (run + 1) 0 - 1 < stop =
        ((inside (get_or starts (run + 1) 0 - 1)).1 (
          omega (arith, early some, few),
          record { there = p.there; from = omega (arith, rise); until = λ h. omega (arith, rise) },
        )).1 in
        elim (leb_tells stop (get_or starts (run + 1) 0)) [
          | inl past ↦ omega (arith, past.1, before, rise)
          | inr less ↦ absurd (omega (arith, (((inside (get_or starts (run + 1) 0)).0 (omega (arith, rise), less.1)).1).until next))
        ]

    whole : run ≡ last → end ≤ stop
    whole e =
        let in_run : IsIn starts run (end - 1) = subst (λ (n : ℕ). IsIn starts n (end - 1)) (sym e) q in
        omega (arith, ((inside (end - 1)).1 (omega (arith, less, few), in_run)).1)

module _ (limit : ℕ) (starts cells made filled : List ℕ) (run count mid end : ℕ) (old : AreRuns limit starts cells)
    (runs : AreRuns limit made filled) (before : AreBefore mid made) (piece : IsPiece starts run count mid end) where
  abbrev all : List ℕ
  all = made ++ some_of starts (run + 1) count

  abbrev all_cells : List ℕ
  all_cells = filled ++ some_of cells (run + 1) count

  pub more : length (some_of starts (run + 1) count) ≡ count
  more = some_length starts (run + 1) count (omega (arith, piece.there))

  pub more_cells : length (some_of cells (run + 1) count) ≡ count
  more_cells = some_length cells (run + 1) count (omega (arith, piece.there, old.sized))

  pub longer : length all ≡ length made + count
  longer = length-append made (some_of starts (run + 1) count) ∙ ap (λ (n : ℕ). length made + n) more

  pub longer_cells : length all_cells ≡ length made + count
  longer_cells = length-append filled (some_of cells (run + 1) count) ∙ omega (arith, more_cells, runs.sized)

  left : (k : ℕ) → k < length made → get_or all k 0 ≡ get_or made k 0
  left k h = get_or_append_left made (some_of starts (run + 1) count) 0 k h

  left_cell : (k : ℕ) → k < length made → get_or all_cells k 0 ≡ get_or filled k 0
  left_cell k h = get_or_append_left filled (some_of cells (run + 1) count) 0 k (omega (arith, h, runs.sized))

  -- the run of old at a place after those made so far
  abbrev from_old : ℕ → ℕ
  from_old k = run + 1 + (k - length made)

  right : (k : ℕ) → length made ≤ k → k < length made + count → get_or all k 0 ≡ get_or starts (from_old k) 0
  right k le h = get_or-append_right made (some_of starts (run + 1) count) (length made) k 0 refl_length le
      ∙ some_item starts (run + 1) count (k - length made) (omega (arith, le, h))
    where
      refl_length : length made ≡ length made
      refl_length = cc

  right_cell : (k : ℕ) → length made ≤ k → k < length made + count → get_or all_cells k 0 ≡ get_or cells (from_old k) 0
  right_cell k le h = get_or-append_right filled (some_of cells (run + 1) count) (length made) k 0 runs.sized le
      ∙ some_item cells (run + 1) count (k - length made) (omega (arith, le, h))

  start_at : (k j : ℕ) → length made ≤ k → k < length made + count → from_old k ≡ j → get_or all k 0 ≡ get_or starts j 0
  start_at k j le h e = right k le h ∙ ap (λ (n : ℕ). get_or starts n 0) e

  cell_at : (k j : ℕ) → length made ≤ k → k < length made + count → from_old k ≡ j → get_or all_cells k 0 ≡ get_or cells j 0
  cell_at k j le h e = right_cell k le h ∙ ap (λ (n : ℕ). get_or cells n 0) e

  abbrev Sides : ℕ → ℕ → Type 0
  Sides n k = ((leb n k ≡ true) × (n ≤ k)) ⊎ ((leb n k ≡ false) × (k < n))

  rising : (k : ℕ) → k + 1 < length all → Sides (length made) (k + 1) → Dec (k + 1 ≡ length made) → get_or all k 0 < get_or all (k + 1) 0
  rising k h (inr less) d = omega (arith, left k (omega (arith, less.1)), left (k + 1) less.1, runs.order.rising k less.1)
  rising k h (inl le) (yes e) =
      let some : 0 < count = omega (arith, h, longer, e) in
      omega (
        arith,
        left k (omega (arith, e)),
        before k (omega (arith, e)),
        start_at (k + 1) (run + 1) le.1 (omega (arith, e, some)) (omega (arith, e)),
        piece.seam some,
      )
  rising k h (inl le) (no n) =
      let at : length made ≤ k = omega (arith, le.1, n) in
      let j : from_old k + 1 < length starts = omega (arith, at, h, longer, piece.there) in
      omega (
        arith,
        right k at (omega (arith, h, longer)),
        start_at (k + 1) (from_old k + 1) (omega (arith, at)) (omega (arith, h, longer)) (omega (arith, at)),
        old.order.rising (from_old k) j,
      )

  below : (k : ℕ) → k < length all → Sides (length made) k → get_or all k 0 < limit
  below k h (inr less) = omega (arith, left k less.1, runs.below k less.1)
  below k h (inl le) = omega (arith, right k le.1 (omega (arith, h, longer)), old.below (from_old k) (omega (arith, le.1, h, longer, piece.there)))

  tame : (k : ℕ) → Sides (length made) k → Sides (length made + count) k → get_or all_cells k 0 ≤ 64
  tame k (inr less) s = omega (arith, left_cell k less.1, runs.small k)
  tame k (inl le) (inr less) = omega (arith, right_cell k le.1 less.1, old.small (from_old k))
  tame k (inl le) (inl past) = omega (arith, get_or_past all_cells k 0 (omega (arith, past.1, longer_cells)))

  soon : (k : ℕ) → k < length all → Sides (length made) k → get_or all k 0 < end
  soon k h (inr less) = omega (arith, left k less.1, before k less.1, piece.within)
  soon k h (inl le) =
      let j : from_old k ≤ run + count = omega (arith, le.1, h, longer) in
      omega (arith, right k le.1 (omega (arith, h, longer)), no_sooner starts old.order (from_old k) (run + count) j piece.there, piece.reach)

  pub before_appended : AreBefore end all
  before_appended k h = soon k h (leb_tells (length made) k)

  pub runs_appended : AreRuns limit all all_cells
  runs_appended = record {
    order = record {
      some = omega (arith, longer, runs.order.some);
      first = left 0 (omega (arith, runs.order.some)) ∙ runs.order.first;
      rising = λ k h. rising k h (leb_tells (length made) (k + 1)) (ℕ_discrete (k + 1) (length made));
    };
    sized = longer_cells ∙ sym longer;
    below = λ k h. below k h (leb_tells (length made) k);
    small = λ k. tame k (leb_tells (length made) k) (leb_tells (length made + count) k);
  }

  -- a directory in one of the runs made so far is before mid
  stays : (k d : ℕ) → IsIn all k d → d < end → k < length made → Dec (k + 1 ≡ length made) → IsIn made k d × (d < mid)
  stays k d i h less (no n) =
      let next : k + 1 < length made = omega (arith, less, n) in
      let limited : d < get_or made (k + 1) 0 = omega (arith, i.until (omega (arith, next, longer)), left (k + 1) next) in
      (record { there = less; from = omega (arith, i.from, left k less); until = λ l. limited }, omega (arith, limited, before (k + 1) next))
  stays k d i h less (yes e) = (
    record { there = less; from = omega (arith, i.from, left k less); until = λ l. absurd (omega (arith, l, e)) },
    last (ℕ_discrete count 0),
  )
    where
      last : Dec (count ≡ 0) → d < mid
      last (yes none) = omega (arith, h, piece.single none)
      last (no n) =
          let some : 0 < count = omega (arith, n) in
          omega (
            arith,
            i.until (omega (arith, e, longer, some)),
            start_at (k + 1) (run + 1) (omega (arith, e)) (omega (arith, e, some)) (omega (arith, e)),
            piece.seam some,
          )

  in_old : (k d : ℕ) → IsIn all k d → d < end → length made ≤ k → Dec (from_old k ≡ run + count) → IsIn starts (from_old k) d
  in_old k d i h le (yes e) =
      let l : k < length made + count = omega (arith, i.there, longer) in
      record {
        there = omega (arith, e, piece.there);
        from = omega (arith, i.from, right k le l);
        until = λ n. omega (arith, h, piece.until (omega (arith, n, e)), ap (λ (j : ℕ). get_or starts (j + 1) 0) e);
      }
  in_old k d i h le (no n) =
      let l : k < length made + count = omega (arith, i.there, longer) in
      let next : k + 1 < length made + count = omega (arith, l, le, n) in
      record {
        there = omega (arith, le, l, piece.there);
        from = omega (arith, i.from, right k le l);
        until = λ m. omega (arith, i.until (omega (arith, next, longer)), start_at (k + 1) (from_old k + 1) (omega (arith, le)) next (omega (arith, le)));
      }

  each : (now want : ℕ → ℕ) → HasCells limit starts cells now 0 0 → HasFirst mid made filled want
      → ((d : ℕ) → run + 1 < length starts → get_or starts (run + 1) 0 ≤ d → d < end → want d ≡ now d) → end ≤ limit
      → (k d : ℕ) → d < end → IsIn all k d → Sides (length made) k → get_or all_cells k 0 ≡ want d
  each now want has first same few k d h i (inr less) =
      let s = stays k d i h less.1 (ℕ_discrete (k + 1) (length made)) in
      left_cell k less.1 ∙ first.each k d s.1 s.0
  each now want has first same few k d h i (inl le) =
      let l : k < length made + count = omega (arith, i.there, longer) in
      let inside : IsIn starts (from_old k) d = in_old k d i h le.1 (ℕ_discrete (from_old k) (run + count)) in
      let after : get_or starts (run + 1) 0 ≤ d = omega (arith, no_sooner starts old.order (run + 1) (from_old k) (omega arith) inside.there, inside.from) in
      right_cell k le.1 l ∙ (has.each (from_old k) d (omega (arith, h, few)) inside ∙ sym (same d (omega (arith, inside.there)) after h))

  apart_old : (now : ℕ → ℕ) → HasCells limit starts cells now 0 0 → (j : ℕ) → j + 1 < length starts → get_or cells j 0 ≢ get_or cells (j + 1) 0
  apart_old now has j h =
      let later : 0 < get_or starts (j + 1) 0 = omega (arith, old.order.rising j h) in
      has.apart j h (λ e. absurd (omega (arith, e, later))) (λ e. absurd (omega (arith, e, later)))

  apart : (now want : ℕ → ℕ) → HasCells limit starts cells now 0 0 → HasFirst mid made filled want → get_or filled (length filled - 1) 0 ≡ get_or cells run 0
      → (k : ℕ) → k + 1 < length all → Sides (length made) (k + 1) → Dec (k + 1 ≡ length made) → get_or all_cells k 0 ≢ get_or all_cells (k + 1) 0
  apart now want has first ends k h (inr less) d = λ e.
      first.apart k less.1 (sym (left_cell k (omega (arith, less.1))) ∙ (e ∙ left_cell (k + 1) less.1))
  apart now want has first ends k h (inl le) (yes s) = λ e.
      let some : 0 < count = omega (arith, h, longer, s) in
      let last : length filled - 1 ≡ k = omega (arith, s, runs.sized) in
      let here : get_or all_cells k 0 ≡ get_or cells run 0 = left_cell k (omega (arith, s)) ∙ (sym (ap (λ (n : ℕ). get_or filled n 0) last) ∙ ends) in
      let next : get_or all_cells (k + 1) 0 ≡ get_or cells (run + 1) 0 = cell_at (k + 1) (run + 1) le.1 (omega (arith, s, some)) (omega (arith, s)) in
      apart_old now has run (omega (arith, some, piece.there)) (sym here ∙ (e ∙ next))
  apart now want has first ends k h (inl le) (no n) = λ e.
      let at : length made ≤ k = omega (arith, le.1, n) in
      let l : k + 1 < length made + count = omega (arith, h, longer) in
      let next : get_or all_cells (k + 1) 0 ≡ get_or cells (from_old k + 1) 0 = cell_at (k + 1) (from_old k + 1) le.1 l (omega (arith, at)) in
      apart_old now has (from_old k) (omega (arith, at, l, piece.there)) (sym (right_cell k at (omega (arith, l))) ∙ (e ∙ next))

  pub cells_appended : (now want : ℕ → ℕ) → HasCells limit starts cells now 0 0 → HasFirst mid made filled want
      → get_or filled (length filled - 1) 0 ≡ get_or cells run 0
      → ((d : ℕ) → run + 1 < length starts → get_or starts (run + 1) 0 ≤ d → d < end → want d ≡ now d) → end ≤ limit → HasFirst end all all_cells want
  cells_appended now want has first ends same few = record {
    each = λ k d h i. each now want has first same few k d h i (leb_tells (length made) k);
    apart = λ k h. apart now want has first ends k h (leb_tells (length made) (k + 1)) (ℕ_discrete (k + 1) (length made));
  }
