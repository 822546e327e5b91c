-- A run is cut in two, or two that are alike are united.
use Rattle.std.proofs.Common.{◌≡◌, ◌≢◌, ◌⊎◌, ℕ, ◌+◌, ◌-◌, ◌*◌, ◌/◌, ◌<◌, ◌≤◌, true, false, List, length, get_or, insert, sym, ap, ◌∙◌, arith, subst, inl, inr}
use Rattle.std.proofs.lemmas.List.Edits.{length-insert, get_or-insert_below, get_or-insert_at, get_or-insert_above}
use Rattle.std.proofs.lemmas.Bool.Decides.{leb_tells}
use native.Mathlib.Decide.{ℕ_discrete}
use lib.Dec.{leb}
use Rattle.authority_map.specs.Runs.{IsIn, IsIndex, IsOneMore, AreRuns, StartsAt, HasCells}
use Rattle.authority_map.proofs.RunLemmas.{one_run, rises_to}

-- a place is before another, at it or after it
data Side (place : ℕ) : ℕ → Type 0 where
  Before : (j : ℕ) → j < place → Side place j
  Here : Side place place
  After : (k : ℕ) → place ≤ k → Side place (k + 1)

side : (place j : ℕ) → Side place j
side place j = step (ℕ_discrete j place) (leb_tells place j)
  where
    step : Dec (j ≡ place) → ((leb place j ≡ true) × (place ≤ j)) ⊎ ((leb place j ≡ false) × (j < place)) → Side place j
    step (yes e) o = subst (Side place) (sym e) Here
    step (no n) (inr less) = Before j less.1
    step (no n) (inl le) = let e : (j - 1) + 1 ≡ j = omega (arith, le.1, n) in subst (Side place) e (After (j - 1) (omega (arith, le.1, n)))

module _ (limit : ℕ) (starts cells : List ℕ) (run dir : ℕ) (runs : AreRuns limit starts cells) (inside : IsIn starts run dir)
    (later : get_or starts run 0 < dir) (below : dir < limit) where
  abbrev more : List ℕ
  more = insert starts (run + 1) dir

  abbrev filled : List ℕ
  filled = insert cells (run + 1) (get_or cells run 0)

  room : run + 1 ≤ length starts
  room = omega (arith, inside.there)

  room_too : run + 1 ≤ length cells
  room_too = omega (arith, inside.there, runs.sized)

  longer : length more ≡ length starts + 1
  longer = length-insert starts (run + 1) dir room

  start_before : (k : ℕ) → k < run + 1 → get_or more k 0 ≡ get_or starts k 0
  start_before k h = get_or-insert_below starts (run + 1) dir 0 k h room

  start_here : get_or more (run + 1) 0 ≡ dir
  start_here = get_or-insert_at starts (run + 1) dir 0 room

  start_after : (k : ℕ) → run + 1 ≤ k → get_or more (k + 1) 0 ≡ get_or starts k 0
  start_after k h = get_or-insert_above starts (run + 1) dir 0 k h room

  cell_before : (k : ℕ) → k < run + 1 → get_or filled k 0 ≡ get_or cells k 0
  cell_before k h = get_or-insert_below cells (run + 1) (get_or cells run 0) 0 k h room_too

  cell_here : get_or filled (run + 1) 0 ≡ get_or cells run 0
  cell_here = get_or-insert_at cells (run + 1) (get_or cells run 0) 0 room_too

  cell_after : (k : ℕ) → run + 1 ≤ k → get_or filled (k + 1) 0 ≡ get_or cells k 0
  cell_after k h = get_or-insert_above cells (run + 1) (get_or cells run 0) 0 k h room_too

  pub runs_cut : AreRuns limit more filled
  runs_cut = record {
    order = record {
      some = omega (arith, longer);
      first = start_before 0 (omega arith) ∙ runs.order.first;
      rising = λ k h. rising k h (side (run + 1) k) (ℕ_discrete k run);
    };
    sized = length-insert cells (run + 1) (get_or cells run 0) room_too ∙ ap (λ (n : ℕ). n + 1) runs.sized ∙ sym longer;
    below = λ k h. low k h (side (run + 1) k);
    small = λ k. few k (side (run + 1) k);
  }
    where
      rising : (k : ℕ) → k + 1 < length more → Side (run + 1) k → Dec (k ≡ run) → get_or more k 0 < get_or more (k + 1) 0
      rising j h (Before k less) (yes e) = omega (
        arith,
        start_before k less,
        ap (λ (k : ℕ). get_or more (k + 1) 0) e,
        ap (λ (k : ℕ). get_or starts k 0) e,
        start_here,
        later,
      )
      rising j h (Before k less) (no n) = omega (arith, start_before k less, start_before (k + 1) (omega arith), runs.order.rising k (omega (arith, longer)))
      rising j h Here o = omega (arith, start_here, start_after (run + 1) (omega arith), inside.until (omega (arith, longer)))
      rising j h (After k le) o = omega (arith, start_after k le, start_after (k + 1) (omega arith), runs.order.rising k (omega (arith, longer)))

      low : (k : ℕ) → k < length more → Side (run + 1) k → get_or more k 0 < limit
      low j h (Before k less) = omega (arith, start_before k less, runs.below k (omega (arith, inside.there)))
      low j h Here = omega (arith, start_here, below)
      low j h (After k le) = omega (arith, start_after k le, runs.below k (omega (arith, longer)))

      few : (k : ℕ) → Side (run + 1) k → get_or filled k 0 ≤ 64
      few j (Before k less) = omega (arith, cell_before k less, runs.small k)
      few j Here = omega (arith, cell_here, runs.small run)
      few j (After k le) = omega (arith, cell_after k le, runs.small k)

  -- the run that a directory was in, with the cell of the one it is in now
  record Was (k d : ℕ) : Type 0 where
    old : ℕ
    held : IsIn starts old d
    cell : get_or filled k 0 ≡ get_or cells old 0
    start : (get_or starts old 0 ≡ d) → get_or more k 0 ≡ d

  was : (k d : ℕ) → IsIn more k d → Side (run + 1) k → Dec (k ≡ run) → Was k d
  was j d p (Before k less) (yes e) =
      let until : run + 1 < length starts → d < get_or starts (run + 1) 0 =
      (λ h. omega (arith, inside.until h, p.until (omega (arith, longer)), ap (λ (k : ℕ). get_or more (k + 1) 0) e, start_here)) in
      record {
        old = k;
        held = record {
          there = omega arith;
          from = omega (arith, start_before k less, p.from);
          until = λ h. omega (arith, until (omega arith), ap (λ (k : ℕ). get_or starts (k + 1) 0) e);
        };
        cell = cell_before k less;
        start = λ s. start_before k less ∙ s;
      }
  was j d p (Before k less) (no n) = record {
    old = k;
    held = record {
      there = omega (arith, inside.there);
      from = omega (arith, start_before k less, p.from);
      until = λ h. omega (arith, p.until (omega (arith, longer)), start_before (k + 1) (omega arith));
    };
    cell = cell_before k less;
    start = λ s. start_before k less ∙ s;
  }
  was j d p Here o = record {
    old = run;
    held = record {
      there = inside.there;
      from = omega (arith, later, start_here, p.from);
      until = λ h. omega (arith, p.until (omega (arith, longer)), start_after (run + 1) (omega arith));
    };
    cell = cell_here;
    start = λ s. absurd (omega (arith, later, start_here, p.from));
  }
  was j d p (After k le) o = record {
    old = k;
    held = record {
      there = omega (arith, p.there, longer);
      from = omega (arith, start_after k le, p.from);
      until = λ h. omega (arith, p.until (omega (arith, longer)), start_after (k + 1) (omega arith));
    };
    cell = cell_after k le;
    start = λ s. start_after k le ∙ s;
  }

  pub starts_cut : StartsAt more dir
  starts_cut k p =
      let here : IsIn more (run + 1) dir = record {
        there = omega (arith, longer, inside.there);
        from = omega (arith, start_here);
        until = λ h. omega (arith, start_after (run + 1) (omega arith), inside.until (omega (arith, longer)));
      } in
      ap (λ (k : ℕ). get_or more k 0) (one_run limit more filled runs_cut k (run + 1) dir p here) ∙ start_here

  pub others_cut : (other : ℕ) → StartsAt starts other → StartsAt more other
  others_cut other at k p = let w = was k other p (side (run + 1) k) (ℕ_discrete k run) in w.start (at w.old w.held)

  pub cells_cut : (cell : ℕ → ℕ) (this : ℕ) → HasCells limit starts cells cell this this → HasCells limit more filled cell this dir
  cells_cut cell this has = record {
    each = λ k d low p. (let w = was k d p (side (run + 1) k) (ℕ_discrete k run) in w.cell ∙ has.each w.old d low w.held);
    apart = λ k h a b. apart k h a b (side (run + 1) k) (ℕ_discrete k run);
  }
    where
      apart : (k : ℕ) → k + 1 < length more → get_or more (k + 1) 0 ≢ this → get_or more (k + 1) 0 ≢ dir → Side (run + 1) k → Dec (k ≡ run)
          → get_or filled k 0 ≢ get_or filled (k + 1) 0
      apart j h a b (Before k less) (yes e) = λ same. b (ap (λ (k : ℕ). get_or more (k + 1) 0) e ∙ start_here)
      apart j h a b (Before k less) (no n) =
          let other = (λ (s : get_or starts (k + 1) 0 ≡ this). a (start_before (k + 1) (omega arith) ∙ s)) in
          λ same. has.apart k (omega (arith, longer)) other other (sym (cell_before k less) ∙ same ∙ cell_before (k + 1) (omega arith))
      apart j h a b Here o =
          let other = (λ (s : get_or starts (run + 1) 0 ≡ this). a (start_after (run + 1) (omega arith) ∙ s)) in
          λ same. has.apart run (omega (arith, longer)) other other (sym cell_here ∙ same ∙ cell_after (run + 1) (omega arith))
      apart j h a b (After k le) o =
          let other = (λ (s : get_or starts (k + 1) 0 ≡ this). a (start_after (k + 1) (omega arith) ∙ s)) in
          λ same. has.apart k (omega (arith, longer)) other other (sym (cell_after k le) ∙ same ∙ cell_after (k + 1) (omega arith))

  abbrev Order : ℕ → ℕ → Type 0
  Order i j = ((leb i j ≡ true) × (i ≤ j)) ⊎ ((leb i j ≡ false) × (j < i))

  -- a directory before the cut stays in its run
  stays : (k d : ℕ) → IsIn starts k d → d < dir → Dec (k ≡ run) → Order k run → IsIn more k d
  stays k d p less (yes e) o = record {
    there = omega (arith, longer, p.there);
    from = omega (arith, start_before k (omega (arith, e)), p.from);
    until = λ h. omega (arith, less, ap (λ (j : ℕ). get_or more (j + 1) 0) e, start_here);
  }
  stays k d p less (no n) (inl le) = record {
    there = omega (arith, longer, p.there);
    from = omega (arith, start_before k (omega (arith, le.1)), p.from);
    until = λ h. omega (arith, p.until (omega (arith, le.1, n, inside.there)), start_before (k + 1) (omega (arith, le.1, n)));
  }
  stays k d p less (no n) (inr past) = absurd (omega (arith, past_cut (ℕ_discrete (run + 1) k)))
    where
      past_cut : Dec (run + 1 ≡ k) → dir < d
      past_cut (yes e) = omega (arith, inside.until (omega (arith, p.there, past.1)), ap (λ (j : ℕ). get_or starts j 0) e, p.from)
      past_cut (no m) = omega (
        arith,
        inside.until (omega (arith, p.there, past.1)),
        rises_to starts runs.order (run + 1) k (omega (arith, past.1, m)) p.there,
        p.from,
      )

  -- a later one is in the run that follows
  moves : (k d : ℕ) → IsIn starts k d → dir ≤ d → Dec (k ≡ run) → Order run k → IsIn more (k + 1) d
  moves k d p le (yes e) o =
      let here : get_or more (k + 1) 0 ≡ dir = ap (λ (j : ℕ). get_or more (j + 1) 0) e ∙ start_here in
      record {
        there = omega (arith, longer, p.there);
        from = omega (arith, here, le);
        until = λ h. omega (arith, p.until (omega (arith, longer)), start_after (k + 1) (omega (arith, e)));
      }
  moves k d p le (no n) (inl later_run) = record {
    there = omega (arith, longer, p.there);
    from = omega (arith, start_after k (omega (arith, later_run.1, n)), p.from);
    until = λ h. omega (arith, p.until (omega (arith, longer)), start_after (k + 1) (omega (arith, later_run.1)));
  }
  moves k d p le (no n) (inr past) = absurd (omega (arith, before_cut (ℕ_discrete (k + 1) run)))
    where
      before_cut : Dec (k + 1 ≡ run) → d < dir
      before_cut (yes e) = omega (arith, p.until (omega (arith, inside.there, past.1)), ap (λ (j : ℕ). get_or starts j 0) e, later)
      before_cut (no m) = omega (
        arith,
        p.until (omega (arith, inside.there, past.1)),
        rises_to starts runs.order (k + 1) run (omega (arith, past.1, m)) inside.there,
        later,
      )

  pub index_cut : (index new : List ℕ) (first : ℕ) → first ≡ (dir + 255) / 256 → IsIndex limit starts index → IsOneMore first index new → IsIndex limit more new
  index_cut index new first at was operation = record {
    sized = operation.sized ∙ was.sized;
    each = λ b h. each b (omega (arith, h, operation.sized)) (leb_tells first b);
  }
    where
      each : (b : ℕ) → b < length index → Order first b → IsIn more (get_or new b 0) (256 * b)
      each b h (inl le) =
          let old = get_or index b 0 in
          subst (λ (j : ℕ). IsIn more j (256 * b)) (sym (operation.after b le.1 h))
          (moves old (256 * b) (was.each b h) (omega (arith, le.1, at)) (ℕ_discrete old run) (leb_tells run old))
      each b h (inr less) =
          let old = get_or index b 0 in
          subst (λ (j : ℕ). IsIn more j (256 * b)) (sym (operation.before b less.1))
          (stays old (256 * b) (was.each b h) (omega (arith, less.1, at)) (ℕ_discrete old run) (leb_tells old run))
