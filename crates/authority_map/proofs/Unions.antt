-- A run is put to the one before it, which has the same cell.
use Rattle.std.proofs.Common.{◌≡◌, ◌≢◌, ◌⊎◌, ℕ, ◌+◌, ◌-◌, ◌*◌, ◌/◌, ◌<◌, ◌≤◌, true, false, List, length, get_or, remove, sym, ap, ◌∙◌, arith, subst, inl, inr}
use Rattle.std.proofs.lemmas.List.Edits.{length-remove, get_or-remove_below, get_or-remove_above}
use Rattle.std.proofs.lemmas.Bool.Decides.{leb_tells}
use native.Mathlib.Decide.{ℕ_discrete}
use lib.Dec.{leb}
use Rattle.authority_map.specs.Runs.{IsIn, IsIndex, IsOneMore, AreRuns, HasCells}
use Rattle.authority_map.proofs.RunLemmas.{rises_to}

module _ (limit : ℕ) (starts cells : List ℕ) (run : ℕ) (runs : AreRuns limit starts cells) (some : 1 ≤ run) (there : run < length starts)
    (alike : get_or cells (run - 1) 0 ≡ get_or cells run 0) where
  abbrev fewer : List ℕ
  fewer = remove starts run

  abbrev left : List ℕ
  left = remove cells run

  there_too : run < length cells
  there_too = omega (arith, there, runs.sized)

  shorter : length fewer + 1 ≡ length starts
  shorter = length-remove starts run there

  start_before : (k : ℕ) → k < run → get_or fewer k 0 ≡ get_or starts k 0
  start_before k h = get_or-remove_below starts run 0 k h there

  start_after : (k : ℕ) → run ≤ k → get_or fewer k 0 ≡ get_or starts (k + 1) 0
  start_after k h = get_or-remove_above starts run 0 k h there

  cell_before : (k : ℕ) → k < run → get_or left k 0 ≡ get_or cells k 0
  cell_before k h = get_or-remove_below cells run 0 k h there_too

  cell_after : (k : ℕ) → run ≤ k → get_or left k 0 ≡ get_or cells (k + 1) 0
  cell_after k h = get_or-remove_above cells run 0 k h there_too

  -- the cell of the run before
  cell_same : (k : ℕ) → k + 1 ≡ run → get_or cells k 0 ≡ get_or cells run 0
  cell_same k e = let q : k ≡ run - 1 = omega (arith, e) in ap (λ (k : ℕ). get_or cells k 0) q ∙ alike

  before_here : (k : ℕ) → k + 1 ≡ run → get_or starts k 0 < get_or starts run 0
  before_here k e = subst (λ (j : ℕ). get_or starts k 0 < get_or starts j 0) e (runs.order.rising k (omega (arith, there, e)))

  at_after : (k : ℕ) → k + 1 ≡ run → get_or fewer (k + 1) 0 ≡ get_or starts (run + 1) 0
  at_after k e = ap (λ (k : ℕ). get_or fewer k 0) e ∙ start_after run (omega arith)

  cell_at_after : (k : ℕ) → k + 1 ≡ run → get_or left (k + 1) 0 ≡ get_or cells (run + 1) 0
  cell_at_after k e = ap (λ (k : ℕ). get_or left k 0) e ∙ cell_after run (omega arith)

  abbrev Order : ℕ → Type 0
  Order k = ((leb run k ≡ true) × (run ≤ k)) ⊎ ((leb run k ≡ false) × (k < run))

  pub runs_united : AreRuns limit fewer left
  runs_united = record {
    order = record {
      some = omega (arith, shorter, there, some);
      first = start_before 0 (omega (arith, some)) ∙ runs.order.first;
      rising = λ k h. rising k h (ℕ_discrete (k + 1) run) (leb_tells run k);
    };
    sized = (let e = length-remove cells run there_too in omega (arith, shorter, runs.sized));
    below = λ k h. low k h (leb_tells run k);
    small = λ k. few k (leb_tells run k);
  }
    where
      rising : (k : ℕ) → k + 1 < length fewer → Dec (k + 1 ≡ run) → Order k → get_or fewer k 0 < get_or fewer (k + 1) 0
      rising k h (yes e) o = omega (arith, start_before k (omega (arith, e)), at_after k e, before_here k e, runs.order.rising run (omega (arith, shorter, e)))
      rising k h (no n) (inl le) = omega (
        arith,
        start_after k le.1,
        start_after (k + 1) (omega (arith, le.1)),
        runs.order.rising (k + 1) (omega (arith, shorter)),
      )
      rising k h (no n) (inr less) = omega (
        arith,
        start_before k less.1,
        start_before (k + 1) (omega (arith, less.1, n)),
        runs.order.rising k (omega (arith, shorter)),
      )

      low : (k : ℕ) → k < length fewer → Order k → get_or fewer k 0 < limit
      low k h (inl le) = omega (arith, start_after k le.1, runs.below (k + 1) (omega (arith, shorter)))
      low k h (inr less) = omega (arith, start_before k less.1, runs.below k (omega (arith, shorter)))

      few : (k : ℕ) → Order k → get_or left k 0 ≤ 64
      few k (inl le) = omega (arith, cell_after k le.1, runs.small (k + 1))
      few k (inr less) = omega (arith, cell_before k less.1, runs.small k)

  -- the run that a directory was in, with the cell of the one it is in now
  record Had (k d : ℕ) : Type 0 where
    old : ℕ
    held : IsIn starts old d
    cell : get_or left k 0 ≡ get_or cells old 0

  had : (k d : ℕ) → IsIn fewer k d → Dec (k + 1 ≡ run) → Order k
      → ((leb (get_or starts run 0) d ≡ true) × (get_or starts run 0 ≤ d))
      ⊎ ((leb (get_or starts run 0) d ≡ false) × (d < get_or starts run 0)) → Had k d
  had k d p (yes e) o (inl le) = record {
    old = run;
    held = record { there = there; from = le.1; until = λ h. omega (arith, p.until (omega (arith, shorter, e)), at_after k e) };
    cell = cell_before k (omega (arith, e)) ∙ cell_same k e;
  }
  had k d p (yes e) o (inr less) = record {
    old = k;
    held = record {
      there = omega (arith, there, e);
      from = omega (arith, p.from, start_before k (omega (arith, e)));
      until = λ h. omega (arith, less.1, ap (λ (j : ℕ). get_or starts j 0) e);
    };
    cell = cell_before k (omega (arith, e));
  }
  had k d p (no n) (inl le) o = record {
    old = k + 1;
    held = record {
      there = omega (arith, p.there, shorter);
      from = omega (arith, p.from, start_after k le.1);
      until = λ h. omega (arith, p.until (omega (arith, shorter)), start_after (k + 1) (omega (arith, le.1)));
    };
    cell = cell_after k le.1;
  }
  had k d p (no n) (inr less) o = record {
    old = k;
    held = record {
      there = omega (arith, there, less.1);
      from = omega (arith, p.from, start_before k less.1);
      until = λ h. omega (arith, p.until (omega (arith, shorter, less.1, n, there)), start_before (k + 1) (omega (arith, less.1, n)));
    };
    cell = cell_before k less.1;
  }

  pub cells_united : (cell : ℕ → ℕ) (this : ℕ) → HasCells limit starts cells cell this (get_or starts run 0) → HasCells limit fewer left cell this this
  cells_united cell this has = record {
    each = λ k d low p. (let w = had k d p (ℕ_discrete (k + 1) run) (leb_tells run k) (leb_tells (get_or starts run 0) d) in
        w.cell ∙ has.each w.old d low w.held);
    apart = λ k h a b. apart k h a (ℕ_discrete (k + 1) run) (leb_tells run k);
  }
    where
      apart : (k : ℕ) → k + 1 < length fewer → get_or fewer (k + 1) 0 ≢ this → Dec (k + 1 ≡ run) → Order k → get_or left k 0 ≢ get_or left (k + 1) 0
      apart k h a (yes e) o =
          let next : run + 1 < length starts = omega (arith, shorter, e) in
          λ same. has.apart run next (λ s. a (at_after k e ∙ s)) (λ s. absurd (omega (arith, runs.order.rising run next, s)))
          (sym (cell_same k e) ∙ sym (cell_before k (omega (arith, e))) ∙ same ∙ cell_at_after k e)
      apart k h a (no n) (inl le) =
          let next : k + 1 + 1 < length starts = omega (arith, shorter) in
          let later : get_or starts run 0 < get_or starts (k + 1 + 1) 0 = rises_to starts runs.order run (k + 1 + 1) (omega (arith, le.1)) next in
          λ same. has.apart (k + 1) next (λ s. a (start_after (k + 1) (omega (arith, le.1)) ∙ s)) (λ s. absurd (omega (arith, later, s)))
          (sym (cell_after k le.1) ∙ same ∙ cell_after (k + 1) (omega (arith, le.1)))
      apart k h a (no n) (inr less) =
          let before : k + 1 < run = omega (arith, less.1, n) in
          let sooner : get_or starts (k + 1) 0 < get_or starts run 0 = rises_to starts runs.order (k + 1) run before there in
          λ same. has.apart k (omega (arith, there, before)) (λ s. a (start_before (k + 1) before ∙ s))
          (λ s. absurd (omega (arith, sooner, s))) (sym (cell_before k less.1) ∙ same ∙ cell_before (k + 1) before)

  -- a directory before the run that goes stays in its run
  stays : (k d : ℕ) → IsIn starts k d → d < get_or starts run 0 → Dec (k + 1 ≡ run) → Order k → IsIn fewer k d
  stays k d p less (yes e) o = record {
    there = omega (arith, shorter, there, e);
    from = omega (arith, start_before k (omega (arith, e)), p.from);
    until = λ h. omega (arith, less, at_after k e, runs.order.rising run (omega (arith, shorter, e)));
  }
  stays k d p less (no n) (inr before) = record {
    there = omega (arith, shorter, there, before.1);
    from = omega (arith, start_before k before.1, p.from);
    until = λ h. omega (arith, p.until (omega (arith, there, before.1)), start_before (k + 1) (omega (arith, before.1, n)));
  }
  stays k d p less (no n) (inl le) = absurd (omega (arith, less, not_past (ℕ_discrete run k)))
    where
      not_past : Dec (run ≡ k) → get_or starts run 0 ≤ d
      not_past (yes e) = omega (arith, p.from, ap (λ (j : ℕ). get_or starts j 0) e)
      not_past (no m) = omega (arith, p.from, rises_to starts runs.order run k (omega (arith, le.1, m)) p.there)

  -- another is in no run before it
  pub not_before : (k d : ℕ) → IsIn starts k d → get_or starts run 0 ≤ d → run ≤ k
  not_before k d p from = step (leb_tells run k)
    where
      sooner : k < run → Dec (k + 1 ≡ run) → d < get_or starts run 0
      sooner less (yes e) = omega (arith, p.until (omega (arith, there, less)), ap (λ (j : ℕ). get_or starts j 0) e)
      sooner less (no n) = omega (arith, p.until (omega (arith, there, less)), rises_to starts runs.order (k + 1) run (omega (arith, less, n)) there)

      step : Order k → run ≤ k
      step (inl le) = le.1
      step (inr less) = absurd (omega (arith, from, sooner less.1 (ℕ_discrete (k + 1) run)))

  -- and is in the run before its own from now on
  moves : (k d : ℕ) → IsIn starts (k + 1) d → get_or starts run 0 ≤ d → Dec (k + 1 ≡ run) → IsIn fewer k d
  moves k d p from (yes e) = record {
    there = omega (arith, shorter, there, e);
    from = omega (arith, start_before k (omega (arith, e)), before_here k e, from);
    until = λ h. omega (arith, p.until (omega (arith, shorter)), at_after k e, ap (λ (j : ℕ). get_or starts (j + 1) 0) e);
  }
  moves k d p from (no n) =
      let le : run ≤ k = omega (arith, not_before (k + 1) d p from, n) in
      record {
        there = omega (arith, shorter, p.there);
        from = omega (arith, start_after k le, p.from);
        until = λ h. omega (arith, p.until (omega (arith, shorter)), start_after (k + 1) (omega (arith, le)));
      }

  -- the run of a block that starts at the run that goes or after it isn't the first
  pub index_some : (index : List ℕ) (first : ℕ) → first ≡ (get_or starts run 0 + 255) / 256 → IsIndex limit starts index → (b : ℕ)
      → first ≤ b → b < length index → 1 ≤ get_or index b 0
  index_some index first at was b le h = let past = not_before (get_or index b 0) (256 * b) (was.each b h) (omega (arith, le, at)) in omega (arith, past, some)

  pub index_united : (index new : List ℕ) (first : ℕ) → first ≡ (get_or starts run 0 + 255) / 256 → IsIndex limit starts index
      → IsOneMore first new index → IsIndex limit fewer new
  index_united index new first at was operation = record { sized = sym operation.sized ∙ was.sized; each = λ b h. each b h (leb_tells first b) }
    where
      each : (b : ℕ) → b < length new → ((leb first b ≡ true) × (first ≤ b)) ⊎ ((leb first b ≡ false) × (b < first)) → IsIn fewer (get_or new b 0) (256 * b)
      each b h (inl le) =
          let here : IsIn starts (get_or new b 0 + 1) (256 * b) =
          subst (λ (j : ℕ). IsIn starts j (256 * b)) (operation.after b le.1 h) (was.each b (omega (arith, h, operation.sized))) in
          moves (get_or new b 0) (256 * b) here (omega (arith, le.1, at)) (ℕ_discrete (get_or new b 0 + 1) run)
      each b h (inr less) =
          let old = get_or index b 0 in
          subst (λ (j : ℕ). IsIn fewer j (256 * b)) (operation.before b less.1)
          (stays old (256 * b) (was.each b (omega (arith, h, operation.sized))) (omega (arith, less.1, at)) (ℕ_discrete (old + 1) run)
          (leb_tells run old))
