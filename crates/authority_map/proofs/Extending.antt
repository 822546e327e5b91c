-- Runs of the first directories go on with more directories of one cell.
use Rattle.std.proofs.Common.{◌≡◌, ◌≢◌, ◌⊎◌, ℕ, ◌+◌, ◌-◌, ◌<◌, ◌≤◌, ◌++◌, ◌∷◌, [], true, false, List, length, get_or, sym, ap, ◌∙◌, arith, subst, inl, inr}
use Rattle.std.proofs.lemmas.List.{get_or_append_left, get_or_past, length-append}
use Rattle.std.proofs.lemmas.Bool.Decides.{leb_tells}
use Rattle.std.proofs.Math.Seq.{get_or-append_seam}
use native.Mathlib.Decide.{ℕ_discrete}
use lib.Dec.{leb}
use Rattle.authority_map.specs.Runs.{IsIn, AreRuns, AreBefore, HasFirst}
use Rattle.authority_map.proofs.RunLemmas.{start_above}

-- there are no more runs than directories so far
pub few_before : (limit : ℕ) (starts cells : List ℕ) (dir : ℕ) → AreRuns limit starts cells → AreBefore dir starts → length starts ≤ dir
few_before limit starts cells dir runs before =
    let last : length starts - 1 < length starts = omega (arith, runs.order.some) in
    omega (arith, start_above starts runs.order (length starts - 1) last, before (length starts - 1) last)

-- each of these directories is to have this cell
abbrev pub HaveAll : ℕ → ℕ → ℕ → (ℕ → ℕ) → Type 0
HaveAll first end cell want = (d : ℕ) → first ≤ d → d < end → want d ≡ cell

module _ (limit : ℕ) (starts cells : List ℕ) (first end cell : ℕ) (runs : AreRuns limit starts cells) (before : AreBefore first starts)
    (some : first < end) (below : end ≤ limit) (low : cell ≤ 64) where
  abbrev more : List ℕ
  more = starts ++ first ∷ []

  abbrev filled : List ℕ
  filled = cells ++ cell ∷ []

  longer : length more ≡ length starts + 1
  longer = length-append starts (first ∷ [])

  start_before : (k : ℕ) → k < length starts → get_or more k 0 ≡ get_or starts k 0
  start_before k h = get_or_append_left starts (first ∷ []) 0 k h

  start_here : get_or more (length starts) 0 ≡ first
  start_here = get_or-append_seam starts first [] 0

  cell_before : (k : ℕ) → k < length starts → get_or filled k 0 ≡ get_or cells k 0
  cell_before k h = get_or_append_left cells (cell ∷ []) 0 k (omega (arith, h, runs.sized))

  cell_here : get_or filled (length starts) 0 ≡ cell
  cell_here = subst (λ (n : ℕ). get_or filled n 0 ≡ cell) runs.sized (get_or-append_seam cells cell [] 0)

  start_at : (k : ℕ) → k ≡ length starts → get_or more k 0 ≡ first
  start_at k e = ap (λ (n : ℕ). get_or more n 0) e ∙ start_here

  cell_at : (k : ℕ) → k ≡ length starts → get_or filled k 0 ≡ cell
  cell_at k e = ap (λ (n : ℕ). get_or filled n 0) e ∙ cell_here

  rising : (k : ℕ) → k + 1 < length more → Dec (k + 1 ≡ length starts) → get_or more k 0 < get_or more (k + 1) 0
  rising k h (yes e) = let l : k < length starts = omega (arith, e) in omega (arith, start_before k l, start_at (k + 1) e, before k l)
  rising k h (no n) = let l : k + 1 < length starts = omega (arith, h, longer, n) in
      omega (arith, start_before k (omega (arith, l)), start_before (k + 1) l, runs.order.rising k l)

  within : (k : ℕ) → k < length more → Dec (k ≡ length starts) → get_or more k 0 < first + 1
  within k h (yes e) = omega (arith, start_at k e)
  within k h (no n) = let l : k < length starts = omega (arith, h, longer, n) in omega (arith, start_before k l, before k l)

  tame : (k : ℕ) → Dec (k ≡ length starts) → ((leb (length starts) k ≡ true) × (length starts ≤ k))
      ⊎ ((leb (length starts) k ≡ false) × (k < length starts)) → get_or filled k 0 ≤ 64
  tame k (yes e) o = omega (arith, cell_at k e, low)
  tame k (no n) (inr less) = omega (arith, cell_before k less.1, runs.small k)
  tame k (no n) (inl le) = omega (arith, get_or_past filled k 0 (omega (arith, le.1, n, length-append cells (cell ∷ []), runs.sized)))

  pub before_extended : AreBefore end more
  before_extended k h = omega (arith, within k h (ℕ_discrete k (length starts)), some)

  pub runs_extended : AreRuns limit more filled
  runs_extended = record {
    order = record {
      some = omega (arith, longer);
      first = start_before 0 (omega (arith, runs.order.some)) ∙ runs.order.first;
      rising = λ k h. rising k h (ℕ_discrete (k + 1) (length starts));
    };
    sized = length-append cells (cell ∷ []) ∙ (ap (λ (n : ℕ). n + 1) runs.sized ∙ sym longer);
    below = λ k h. omega (arith, before_extended k h, below);
    small = λ k. tame k (ℕ_discrete k (length starts)) (leb_tells (length starts) k);
  }

  -- a directory before these is in the run in which it was
  stays : (run d : ℕ) → IsIn more run d → run < length starts → IsIn starts run d
  stays run d i l = record {
    there = l;
    from = omega (arith, i.from, start_before run l);
    until = λ h. omega (arith, i.until (omega (arith, h, longer)), start_before (run + 1) h);
  }

  earlier : (run d : ℕ) → IsIn more run d → run < length starts → Dec (run + 1 ≡ length starts) → d < first
  earlier run d i l (yes e) = omega (arith, i.until (omega (arith, e, longer)), start_at (run + 1) e)
  earlier run d i l (no n) = let h : run + 1 < length starts = omega (arith, l, n) in omega (arith, (stays run d i l).until h, before (run + 1) h)

  held : (want : ℕ → ℕ) → HasFirst first starts cells want → HaveAll first end cell want → (run d : ℕ) → d < end → IsIn more run d
      → Dec (run ≡ length starts) → get_or filled run 0 ≡ want d
  held want has here run d h i (yes e) = cell_at run e ∙ sym (here d (omega (arith, i.from, start_at run e)) h)
  held want has here run d h i (no n) = let l : run < length starts = omega (arith, i.there, longer, n) in
      cell_before run l ∙ has.each run d (earlier run d i l (ℕ_discrete (run + 1) (length starts))) (stays run d i l)

  apart : (want : ℕ → ℕ) → HasFirst first starts cells want → get_or cells (length cells - 1) 0 ≢ cell → (run : ℕ) → run + 1 < length more
      → Dec (run + 1 ≡ length starts) → get_or filled run 0 ≢ get_or filled (run + 1) 0
  apart want has differs run h (yes e) = λ same.
      let l : run < length starts = omega (arith, e) in
      let last : length cells - 1 ≡ run = omega (arith, e, runs.sized) in
      differs (ap (λ (n : ℕ). get_or cells n 0) last ∙ (sym (cell_before run l) ∙ (same ∙ cell_at (run + 1) e)))
  apart want has differs run h (no n) = λ same.
      let l : run + 1 < length starts = omega (arith, h, longer, n) in
      has.apart run l (sym (cell_before run (omega (arith, l))) ∙ (same ∙ cell_before (run + 1) l))

  pub cells_extended : get_or cells (length cells - 1) 0 ≢ cell → (want : ℕ → ℕ) → HasFirst first starts cells want
      → HaveAll first end cell want → HasFirst end more filled want
  cells_extended differs want has here = record {
    each = λ run d h i. held want has here run d h i (ℕ_discrete run (length starts));
    apart = λ run h. apart want has differs run h (ℕ_discrete (run + 1) (length starts));
  }

  kept : (want : ℕ → ℕ) → HasFirst first starts cells want → HaveAll first end cell want → get_or cells (length cells - 1) 0 ≡ cell
      → (run d : ℕ) → d < end → IsIn starts run d → Dec (run + 1 ≡ length starts) → get_or cells run 0 ≡ want d
  kept want has here same run d h i (no n) = let l : run + 1 < length starts = omega (arith, i.there, n) in
      has.each run d (omega (arith, i.until l, before (run + 1) l)) i
  kept want has here same run d h i (yes e) =
      let last : length cells - 1 ≡ run = omega (arith, e, runs.sized) in
      let cell_is : get_or cells run 0 ≡ cell = subst (λ (n : ℕ). get_or cells n 0 ≡ cell) last same in
      elim (leb_tells first d) [
        | inl le ↦ cell_is ∙ sym (here d le.1 h)
        | inr less ↦ has.each run d less.1 i
      ]

  -- the last run has that cell already
  pub cells_kept : get_or cells (length cells - 1) 0 ≡ cell → (want : ℕ → ℕ) → HasFirst first starts cells want
      → HaveAll first end cell want → HasFirst end starts cells want
  cells_kept same want has here = record {
    each = λ run d h i. kept want has here same run d h i (ℕ_discrete (run + 1) (length starts));
    apart = has.apart;
  }

  pub before_kept : AreBefore end starts
  before_kept k h = omega (arith, before k h, some)

-- only the run of directory 0
pub first_cell : (cell : ℕ) (want : ℕ → ℕ) → want 0 ≡ cell → HasFirst 1 (0 ∷ []) (cell ∷ []) want
first_cell cell want is = record {
  each = λ run d h i. let e : d ≡ 0 = omega arith in let f : run ≡ 0 = omega (arith, i.there) in rw (e, f) (sym is);
  apart = λ run h. absurd (omega arith);
}
