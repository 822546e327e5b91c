-- The border of two neighbouring runs moves by one directory.
use Rattle.std.proofs.Common.{◌≡◌, ◌≢◌, ℕ, ◌+◌, ◌-◌, ◌*◌, ◌/◌, ◌%◌, ◌<◌, ◌≤◌, ◌==◌, Bool}
use Rattle.std.proofs.Common.{if◌then◌else◌, List, length, get_or, set, refl, sym, ap, ◌∙◌, arith, subst}
use Rattle.std.proofs.lemmas.List.{length-set, get_or-set_same, get_or-set_other}
use native.Mathlib.Decide.{ℕ_discrete}
use Rattle.authority_map.specs.Runs.{IsIn, IsIndex, IsMove, AreStarts, AreRuns, HasCells}
use Rattle.authority_map.proofs.RunLemmas.{rises_to, not_sooner, same_test, other_test}

-- a directory is in one run only
pub one_start : (starts : List ℕ) → AreStarts starts → (i j dir : ℕ) → IsIn starts i dir → IsIn starts j dir → i ≡ j
one_start starts order i j dir p q = omega (arith, not_sooner starts order i j dir dir p q (omega arith), not_sooner starts order j i dir dir q p (omega arith))

-- where only one run's start differs, and lies on the other side of the directory, each other directory is in the same run
same_run : (starts moved : List ℕ) (run dir : ℕ) → length moved ≡ length starts → ((k : ℕ) → k ≢ run → get_or moved k 0 ≡ get_or starts k 0)
    → get_or starts run 0 + get_or moved run 0 ≡ dir + dir + 1 → dir ≤ get_or starts run 0 → get_or starts run 0 ≤ dir + 1
    → (k d : ℕ) → IsIn starts k d → d ≢ dir → IsIn moved k d
same_run starts moved run dir sized elsewhere both least most k d p other = record {
  there = omega (arith, sized, p.there);
  from = from (ℕ_discrete k run);
  until = λ h. until (omega (arith, sized, h)) (ℕ_discrete (k + 1) run);
}
  where
    from : Dec (k ≡ run) → get_or moved k 0 ≤ d
    from (yes e) = omega (arith, ap (λ (j : ℕ). get_or moved j 0) e, ap (λ (j : ℕ). get_or starts j 0) e, p.from, both, least, most, other)
    from (no n) = omega (arith, elsewhere k n, p.from)

    until : k + 1 < length starts → Dec (k + 1 ≡ run) → d < get_or moved (k + 1) 0
    until h (yes e) = omega (arith, p.until h, ap (λ (j : ℕ). get_or moved j 0) e, ap (λ (j : ℕ). get_or starts j 0) e, both, least, most, other)
    until h (no n) = omega (arith, p.until h, elsewhere (k + 1) n)

-- a run that started at the directory starts after it now, or the other way round
module _ (limit : ℕ) (starts : List ℕ) (run start dir : ℕ) (order : AreStarts starts) (move : IsMove limit starts run start dir) where
  abbrev moved : List ℕ
  moved = set starts run start

  sized : length moved ≡ length starts
  sized = length-set starts run start

  here : (k : ℕ) → k ≡ run → get_or moved k 0 ≡ start
  here k e = ap (λ (j : ℕ). get_or moved j 0) e ∙ get_or-set_same starts run start 0 move.there

  elsewhere : (k : ℕ) → k ≢ run → get_or moved k 0 ≡ get_or starts k 0
  elsewhere k n = get_or-set_other starts run k start 0 n

  was_here : (k : ℕ) → k ≡ run → get_or starts k 0 ≡ get_or starts run 0
  was_here k e = ap (λ (j : ℕ). get_or starts j 0) e

  run_before : (k : ℕ) → k + 1 ≡ run → get_or starts k 0 < start
  run_before k e = let q : run - 1 ≡ k = omega (arith, e) in subst (λ (j : ℕ). get_or starts j 0 < start) q move.after

  run_behind : (k : ℕ) → k ≡ run → k + 1 < length starts → start < get_or starts (k + 1) 0
  run_behind k e h = omega (arith, move.before (omega (arith, e, h)), ap (λ (j : ℕ). get_or starts (j + 1) 0) e)

  pub order_moved : AreStarts moved
  order_moved = record {
    some = omega (arith, sized, order.some);
    first = elsewhere 0 (omega (arith, move.some)) ∙ order.first;
    rising = λ k h. rising k (omega (arith, sized)) (ℕ_discrete k run) (ℕ_discrete (k + 1) run);
  }
    where
      rising : (k : ℕ) → k + 1 < length starts → Dec (k ≡ run) → Dec (k + 1 ≡ run) → get_or moved k 0 < get_or moved (k + 1) 0
      rising k h (yes e) o = omega (arith, here k e, elsewhere (k + 1) (omega (arith, e)), run_behind k e h)
      rising k h (no n) (yes e) = omega (arith, elsewhere k n, here (k + 1) e, run_before k e)
      rising k h (no n) (no m) = omega (arith, elsewhere k n, elsewhere (k + 1) m, order.rising k h)

  -- each other directory stays in its run
  stays : (k d : ℕ) → IsIn starts k d → d ≢ dir → IsIn moved k d
  stays = same_run starts moved run dir sized elsewhere (omega (arith, here run refl, move.both)) (omega (arith, move.both, move.most))
      (omega (arith, move.both, move.least))

  -- and was in it
  was : (k d : ℕ) → IsIn moved k d → d ≢ dir → IsIn starts k d
  was = same_run moved starts run dir (sym sized) (λ k n. sym (elsewhere k n)) (omega (arith, here run refl, move.both))
      (omega (arith, here run refl, move.least)) (omega (arith, here run refl, move.most))

  -- the directory's run now
  abbrev pub to : ℕ
  to = run - (start - dir)

  goes : IsIn moved to dir
  goes = step (ℕ_discrete start dir)
    where
      step : Dec (start ≡ dir) → IsIn moved to dir
      step (yes e) =
          let same : run ≡ to = omega (arith, e) in
          subst (λ (k : ℕ). IsIn moved k dir) same
          (record {
            there = omega (arith, sized, move.there);
            from = omega (arith, here run refl, e);
            until = λ h. omega (arith, elsewhere (run + 1) (omega arith), move.before (omega (arith, h, sized)), e);
          })
      step (no n) =
          let one : start ≡ dir + 1 = omega (arith, move.least, move.most, n) in
          let same : run - 1 ≡ to = omega (arith, one) in
          subst (λ (k : ℕ). IsIn moved k dir) same
          (record {
            there = omega (arith, sized, move.there);
            from = omega (arith, elsewhere (run - 1) (omega (arith, move.some)), move.after, one);
            until = λ h. omega (arith, here (run - 1 + 1) (omega (arith, move.some)), one);
          })

  pub runs_moved : (cells : List ℕ) → AreRuns limit starts cells → AreRuns limit moved cells
  runs_moved cells runs = record {
    order = order_moved;
    sized = runs.sized ∙ sym sized;
    below = λ k h. below k (omega (arith, h, sized)) (ℕ_discrete k run);
    small = runs.small;
  }
    where
      below : (k : ℕ) → k < length starts → Dec (k ≡ run) → get_or moved k 0 < limit
      below k h (yes e) = omega (arith, here k e, move.below)
      below k h (no n) = omega (arith, elsewhere k n, runs.below k h)

  pub cells_moved : (cells : List ℕ) (old : ℕ → ℕ) → HasCells limit starts cells old 0 0
      → HasCells limit moved cells (λ d. if d == dir then get_or cells to 0 else old d) 0 0
  cells_moved cells old has = record {
    each = λ k d low p. each k d low p (ℕ_discrete d dir);
    apart = λ k h a b. (let h' : k + 1 < length starts = omega (arith, sized) in
        has.apart k h' (omega (arith, order.rising k h')) (omega (arith, order.rising k h')));
  }
    where
      each : (k d : ℕ) → d < limit → IsIn moved k d → Dec (d ≡ dir) → get_or cells k 0 ≡ (if d == dir then get_or cells to 0 else old d)
      each k d low p (yes e) =
          let this : k ≡ to = one_start moved order_moved k to dir (subst (λ (x : ℕ). IsIn moved k x) e p) goes in
          ap (λ (j : ℕ). get_or cells j 0) this ∙ sym (ap (λ (b : Bool). (if b then get_or cells to 0 else old d)) (same_test d dir e))
      each k d low p (no n) =
          has.each k d low (was k d p n) ∙ sym (ap (λ (b : Bool). (if b then get_or cells to 0 else old d)) (other_test d dir n))

  -- an index stays one where the block that begins with the directory has its run now
  pub index_set : (index : List ℕ) → IsIndex limit starts index → dir % 256 ≡ 0 → IsIndex limit moved (set index (dir / 256) to)
  index_set index tells begins = record {
    sized = length-set index (dir / 256) to ∙ tells.sized;
    each = λ b h. each b (omega (arith, h, length-set index (dir / 256) to)) (ℕ_discrete b (dir / 256));
  }
    where
      within : dir / 256 < length index
      within = omega (arith, tells.sized, move.least, move.below)

      each : (b : ℕ) → b < length index → Dec (b ≡ dir / 256) → IsIn moved (get_or (set index (dir / 256) to) b 0) (256 * b)
      each b h (yes e) =
          let this : dir ≡ 256 * b = omega (arith, e, begins) in
          let told : to ≡ get_or (set index (dir / 256) to) b 0 =
          sym (ap (λ (k : ℕ). get_or (set index (dir / 256) to) k 0) e ∙ get_or-set_same index (dir / 256) to 0 within) in
          subst (λ (d : ℕ). IsIn moved (get_or (set index (dir / 256) to) b 0) d) this (subst (λ (j : ℕ). IsIn moved j dir) told goes)
      each b h (no n) =
          let old = get_or index b 0 in
          subst (λ (j : ℕ). IsIn moved j (256 * b)) (sym (get_or-set_other index (dir / 256) b to 0 n))
          (stays old (256 * b) (tells.each b h) (omega (arith, n, begins)))

  -- and where no block begins with it
  pub index_kept : (index : List ℕ) → IsIndex limit starts index → dir % 256 ≢ 0 → IsIndex limit moved index
  index_kept index tells within = record {
    sized = tells.sized;
    each = λ b h. stays (get_or index b 0) (256 * b) (tells.each b h) (λ e. within (omega (arith, e)));
  }

-- the first directory of a run, which has another, goes to the run before
pub move_on : (limit : ℕ) (starts : List ℕ) (run dir : ℕ) → AreStarts starts → 1 ≤ run → get_or starts run 0 ≡ dir
    → IsIn starts run (dir + 1) → dir + 1 < limit → IsMove limit starts run (dir + 1) dir
move_on limit starts run dir order some first next below = record {
  some = some;
  there = next.there;
  after = omega (arith, rises_to starts order (run - 1) run (omega (arith, some)) next.there, first);
  before = next.until;
  below = below;
  both = omega (arith, first);
  least = omega arith;
  most = omega arith;
}
