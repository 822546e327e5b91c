-- Runs of neighbours: where a directory is, and what a run more or less leaves.
use Rattle.std.proofs.Common.{◌≡◌, ◌≢◌, ◌⊎◌, ℕ, zero, suc, ◌+◌, ◌-◌, ◌*◌, ◌/◌, ◌<◌, ◌≤◌, ◌==◌, Bool}
use Rattle.std.proofs.Common.{true, false, if◌then◌else◌, List, length, get_or, set, sym, ap, ◌∙◌, arith, subst, inl, inr}
use Rattle.std.proofs.lemmas.List.{get_or-set_same, get_or-set_other, get_or_past}
use Rattle.std.proofs.lemmas.Bool.Decides.{nat_tests, leb_tells}
use native.Mathlib.Decide.{ℕ_discrete}
use lib.Dec.{leb}
use Rattle.authority_map.specs.Runs.{IsIn, IsAmong, IsIndex, AreStarts, AreRuns, StartsAt, HasCells}

-- a later run starts later
rises : (starts : List ℕ) → AreStarts starts → (i k : ℕ) → i + k + 1 < length starts → get_or starts i 0 < get_or starts (i + k + 1) 0
rises starts order i zero h = let e : i + 0 + 1 ≡ i + 1 = omega arith in rw e (order.rising i (omega arith))
rises starts order i (suc k) h =
    let e : i + suc k + 1 ≡ (i + k + 1) + 1 = omega arith in
    let next = order.rising (i + k + 1) (omega arith) in
    let before = rises starts order i k (omega arith) in
    rw e (omega arith)

pub rises_to : (starts : List ℕ) → AreStarts starts → (i j : ℕ) → i < j → j < length starts → get_or starts i 0 < get_or starts j 0
rises_to starts order i j less h =
    let e : i + (j - i - 1) + 1 ≡ j = omega arith in
    subst (λ (k : ℕ). get_or starts i 0 < get_or starts k 0) e (rises starts order i (j - i - 1) (omega arith))

not_later : (limit : ℕ) (starts cells : List ℕ) → AreRuns limit starts cells → (i j dir : ℕ) → IsIn starts i dir → IsIn starts j dir → i < j → ⊥
not_later limit starts cells runs i j dir p q less = step (ℕ_discrete (i + 1) j)
  where
    step : Dec (i + 1 ≡ j) → ⊥
    step (yes e) = absurd (omega (arith, p.until (omega (arith, q.there)), ap (λ (k : ℕ). get_or starts k 0) e, q.from))
    step (no n) = absurd (omega (arith, p.until (omega (arith, q.there)), rises_to starts runs.order (i + 1) j (omega arith) q.there, q.from))

-- a directory is in one run only
pub one_run : (limit : ℕ) (starts cells : List ℕ) → AreRuns limit starts cells → (i j dir : ℕ) → IsIn starts i dir → IsIn starts j dir → i ≡ j
one_run limit starts cells runs i j dir p q = step (ℕ_discrete i j) (leb_tells i j)
  where
    step : Dec (i ≡ j) → ((leb i j ≡ true) × (i ≤ j)) ⊎ ((leb i j ≡ false) × (j < i)) → i ≡ j
    step (yes e) o = e
    step (no n) (inl le) = absurd (not_later limit starts cells runs i j dir p q (omega arith))
    step (no n) (inr less) = absurd (not_later limit starts cells runs j i dir q p less.1)

pub same_cells : (limit : ℕ) (starts cells : List ℕ) (old new : ℕ → ℕ) (this that : ℕ) → HasCells limit starts cells old this that
    → ((d : ℕ) → old d ≡ new d) → HasCells limit starts cells new this that
same_cells limit starts cells old new this that has same = record { each = λ run d h i. has.each run d h i ∙ same d; apart = has.apart }

-- the first run starts at no directory that another starts at
pub but_first : (limit : ℕ) (starts cells : List ℕ) (cell : ℕ → ℕ) (that : ℕ) → AreRuns limit starts cells
    → HasCells limit starts cells cell 0 that → HasCells limit starts cells cell that that
but_first limit starts cells cell that runs has = record {
  each = has.each;
  apart = λ run h a b. has.apart run h (λ e. absurd (omega (arith, runs.order.rising run h))) b;
}

pub first_but : (limit : ℕ) (starts cells : List ℕ) (cell : ℕ → ℕ) (that : ℕ) → HasCells limit starts cells cell that that
    → HasCells limit starts cells cell 0 that
first_but limit starts cells cell that has = record { each = has.each; apart = λ run h a b. has.apart run h b b }

-- there are no more runs than directories
pub start_above : (starts : List ℕ) → AreStarts starts → (run : ℕ) → run < length starts → run ≤ get_or starts run 0
start_above starts order zero h = omega arith
start_above starts order (suc run) h = let e : suc run ≡ run + 1 = omega arith in
    rw e (omega (arith, start_above starts order run (omega arith), order.rising run (omega arith)))

pub few_runs : (limit : ℕ) (starts cells : List ℕ) → AreRuns limit starts cells → length starts ≤ limit
few_runs limit starts cells runs = let last : length starts - 1 < length starts = omega (arith, runs.order.some) in
    omega (arith, start_above starts runs.order (length starts - 1) last, runs.below (length starts - 1) last)

pub same_test : (x y : ℕ) → x ≡ y → (x == y) ≡ true
same_test x y e = grind (arith, nat_tests)

pub other_test : (x y : ℕ) → x ≢ y → (x == y) ≡ false
other_test x y n = grind (arith, nat_tests)

-- where a run has only this directory, that run's cell is written
module _ (limit : ℕ) (starts cells : List ℕ) (run dir value : ℕ) (runs : AreRuns limit starts cells) (inside : IsIn starts run dir)
    (here : StartsAt starts dir) (next : dir + 1 < limit → StartsAt starts (dir + 1)) (below : dir < limit) where
  -- no other directory is in it
  alone : (d : ℕ) → d < limit → IsIn starts run d → d ≡ dir
  alone d low p = step (leb_tells (dir + 1) d)
    where
      step : ((leb (dir + 1) d ≡ true) × (dir + 1 ≤ d)) ⊎ ((leb (dir + 1) d ≡ false) × (d < dir + 1)) → d ≡ dir
      step (inr less) = omega (arith, here run inside, p.from, less.1)
      step (inl le) =
          let more : IsIn starts run (dir + 1) = record { there = p.there; from = omega (arith, inside.from); until = λ h. omega (arith, p.until h, le.1) } in
          absurd (omega (arith, here run inside, next (omega (arith, le.1)) run more))

  pub cells_written : (old : ℕ → ℕ) → HasCells limit starts cells old dir (dir + 1)
      → HasCells limit starts (set cells run value) (λ d. if d == dir then value else old d) dir (dir + 1)
  cells_written old has = record {
    each = λ k d low p. each k d low p (ℕ_discrete k run);
    apart = λ k h a b. apart k h a b (ℕ_discrete k run) (ℕ_discrete (k + 1) run);
  }
    where
      there : run < length cells
      there = omega (arith, inside.there, runs.sized)

      each : (k d : ℕ) → d < limit → IsIn starts k d → Dec (k ≡ run) → get_or (set cells run value) k 0 ≡ (if d == dir then value else old d)
      each k d low p (yes e) =
          let this : d ≡ dir = alone d low (subst (λ (k : ℕ). IsIn starts k d) e p) in
          let test : (d == dir) ≡ true = same_test d dir this in
          ap (λ (k : ℕ). get_or (set cells run value) k 0) e ∙ get_or-set_same cells run value 0 there
          ∙ sym (ap (λ (b : Bool). (if b then value else old d)) test)
      each k d low p (no n) =
          let test : (d == dir) ≡ false =
          other_test d dir (λ e. n (one_run limit starts cells runs k run d p (subst (λ (x : ℕ). IsIn starts run x) (sym e) inside))) in
          get_or-set_other cells run k value 0 n ∙ has.each k d low p ∙ sym (ap (λ (b : Bool). (if b then value else old d)) test)

      apart : (k : ℕ) → k + 1 < length starts → get_or starts (k + 1) 0 ≢ dir → get_or starts (k + 1) 0 ≢ dir + 1 → Dec (k ≡ run)
          → Dec (k + 1 ≡ run) → get_or (set cells run value) k 0 ≢ get_or (set cells run value) (k + 1) 0
      apart k h a b (yes e) o =
          let later : dir < get_or starts (k + 1) 0 = omega (arith, runs.order.rising k h, ap (λ (k : ℕ). get_or starts k 0) e, here run inside) in
          let more : IsIn starts run (dir + 1) = record {
            there = inside.there;
            from = omega (arith, inside.from);
            until = λ less. (let same = ap (λ (k : ℕ). get_or starts (k + 1) 0) e in omega (arith, later, b, same));
          } in
          absurd (omega (arith, here run inside, next (omega (arith, runs.below (k + 1) h, later)) run more))
      apart k h a b (no n) (yes e) = absurd (a (ap (λ (k : ℕ). get_or starts k 0) e ∙ here run inside))
      apart k h a b (no n) (no m) = λ same. has.apart k h a b
          (sym (get_or-set_other cells run k value 0 n) ∙ same ∙ get_or-set_other cells run (k + 1) value 0 m)

-- a run that starts at a directory is the one that has it
pub starts_there : (limit : ℕ) (starts cells : List ℕ) (run dir : ℕ) → AreRuns limit starts cells → IsIn starts run dir
    → get_or starts run 0 ≡ dir → StartsAt starts dir
starts_there limit starts cells run dir runs inside is k p = ap (λ (k : ℕ). get_or starts k 0) (one_run limit starts cells runs k run dir p inside) ∙ is

-- where no run starts at a directory, or one that isn't like the one before, there is nothing to join
pub none_alike : (limit : ℕ) (starts cells : List ℕ) (run dir : ℕ) → AreRuns limit starts cells → IsIn starts run dir
    → (get_or starts run 0 ≡ dir → 1 ≤ run → get_or cells (run - 1) 0 ≢ get_or cells run 0)
    → (cell : ℕ → ℕ) (this : ℕ) → HasCells limit starts cells cell this dir → HasCells limit starts cells cell this this
none_alike limit starts cells run dir runs inside differ cell this has =
    record { each = has.each; apart = λ k h a b. apart k h a (ℕ_discrete (get_or starts (k + 1) 0) dir) }
  where
    apart : (k : ℕ) → k + 1 < length starts → get_or starts (k + 1) 0 ≢ this → Dec (get_or starts (k + 1) 0 ≡ dir) → get_or cells k 0 ≢ get_or cells (k + 1) 0
    apart k h a (no n) = has.apart k h a n
    apart k h a (yes e) =
        let there : IsIn starts (k + 1) dir = record { there = h; from = omega (arith, e); until = λ more. omega (arith, runs.order.rising (k + 1) more, e) } in
        let same : k + 1 ≡ run = one_run limit starts cells runs (k + 1) run dir there inside in
        let before : run - 1 ≡ k = omega (arith, same) in
        λ alike. differ (ap (λ (k : ℕ). get_or starts k 0) (sym same) ∙ e) (omega (arith, same))
        (ap (λ (k : ℕ). get_or cells k 0) before ∙ alike ∙ ap (λ (k : ℕ). get_or cells k 0) same)

-- a directory further on is in no run before
pub not_sooner : (starts : List ℕ) → AreStarts starts → (i j dir next : ℕ) → IsIn starts i dir → IsIn starts j next → dir ≤ next → i ≤ j
not_sooner starts order i j dir next p q le = step (leb_tells i j) (ℕ_discrete (j + 1) i)
  where
    step : ((leb i j ≡ true) × (i ≤ j)) ⊎ ((leb i j ≡ false) × (j < i)) → Dec (j + 1 ≡ i) → i ≤ j
    step (inl before) o = before.1
    step (inr less) (yes e) = absurd (omega (arith, q.until (omega (arith, p.there, less.1)), ap (λ (k : ℕ). get_or starts k 0) e, p.from))
    step (inr less) (no n) = absurd
        (omega (
          arith,
          q.until (omega (arith, p.there, less.1)),
          rises_to starts order (j + 1) i (omega (arith, less.1, n)) p.there,
          p.from,
        ))

-- a directory's run is among those from the one of its block's first directory to the one of the next block's
pub among_blocks : (limit : ℕ) (starts index : List ℕ) (dir first last : ℕ) → AreStarts starts → IsIndex limit starts index → dir < limit
    → first ≡ get_or index (dir / 256) 0 → last ≡ get_or index (dir / 256 + 1) 0
    → (first ≤ last) × IsAmong starts first (last - first + 1) dir
among_blocks limit starts index dir first last order was inside from to =
    let p : IsIn starts first (256 * (dir / 256)) = subst (λ (k : ℕ). IsIn starts k (256 * (dir / 256))) (sym from)
    (was.each (dir / 256) (omega (arith, was.sized))) in
    let q : IsIn starts last (256 * (dir / 256 + 1)) =
    subst (λ (k : ℕ). IsIn starts k (256 * (dir / 256 + 1))) (sym to) (was.each (dir / 256 + 1) (omega (arith, was.sized))) in
    let le : first ≤ last = not_sooner starts order first last (256 * (dir / 256)) (256 * (dir / 256 + 1)) p q (omega arith) in
    let end : first + (last - first + 1) ≡ last + 1 = omega (arith, le) in (
      le,
      record {
        some = omega arith;
        within = omega (arith, end, q.there);
        from = omega (arith, p.from);
        until = λ h. omega (arith, q.until (omega (arith, end)), ap (λ (k : ℕ). get_or starts k 0) end);
      },
    )

-- what an index holds is below the limit, and 0 past it
pub index_small : (limit : ℕ) (starts cells index : List ℕ) → AreRuns limit starts cells → IsIndex limit starts index → (block : ℕ)
    → get_or index block 0 < limit
index_small limit starts cells index runs was block = step (leb_tells (length index) block)
  where
    step : ((leb (length index) block ≡ true) × (length index ≤ block)) ⊎ ((leb (length index) block ≡ false) × (block < length index))
        → get_or index block 0 < limit
    step (inl le) = omega (arith, get_or_past index block 0 le.1, few_runs limit starts cells runs, runs.order.some)
    step (inr less) = let held = was.each block less.1 in omega (arith, held.there, few_runs limit starts cells runs)
