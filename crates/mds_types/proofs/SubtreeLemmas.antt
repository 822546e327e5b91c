-- What is gathered at a row, once all rows after it are handled, is the sum over its subtree.
use Rattle.std.proofs.Common.{◌≡◌, ◌≢◌, ◌∙◌, ℕ, zero, suc, ◌+◌, ◌<◌, ◌≤◌, Bool, true, false}
use Rattle.std.proofs.Common.{cond, ◌&&◌, not, eqb, ltb, List, length, refl, sym, ap, arith, ⊎_elim}
use Rattle.std.proofs.lemmas.Bool.{cases_Bool, cases_eq, cases_lt, eq-eqb, eqb-true, ne_eqb, lt-ltb, le-ltb, false≢true}
use Rattle.mds_types.specs.declared.problem.ProblemRow.{ProblemRow}
use Rattle.mds_types.specs.Problem.{IsForest, parent_at, heat_at}
use Rattle.mds_types.specs.Sums.{sum_below, some_below}
use Rattle.mds_types.specs.Subtree.{climb, in_subtree, edges_below, top_heat}
use Rattle.mds_types.specs.Division.{joins_parent}
use Rattle.mds_types.proofs.SumsLemmas.{sum_below-add, sum_below-same, sum_below-only, sum_below-term, some_below-found, some_below-none}
use Rattle.mds_types.proofs.Pieces.{child, heat_acc, edge_acc, edge}

-- the row before row m that a climb from row j comes to first, where the d rows from m on are passed
abbrev pub base : (ℕ → ℕ) → ℕ → ℕ → ℕ → ℕ
base p zero m j = j
base p (suc d) m j = cond (eqb (base p d (suc m) j) m) (p m) (base p d (suc m) j)

module _ (n : ℕ) (p : ℕ → ℕ) (above : (i : ℕ) → 0 < i → i < n → p i < i) where
  pub base-lt : (d m j : ℕ) → n ≡ m + d → 0 < m → j < n → base p d m j < m
  base-lt zero m j e some l = omega arith
  base-lt (suc d) m j e some l =
      let before = base-lt d (suc m) j (omega arith) (omega arith) l in
      ⊎_elim
      (λ (here : base p d (suc m) j ≡ m).
      rw (eq-eqb (base p d (suc m) j) m here) (above m some (omega arith)))
      (λ (other : base p d (suc m) j ≢ m).
      rw (ne_eqb (base p d (suc m) j) m other) (omega arith))
      (cases_eq (base p d (suc m) j) m)

  -- one row's share of a sum over those with this base, when row m is passed
  base_step :
      (t m v x : ℕ) → v < m
      → cond (eqb (cond (eqb t m) (p m) t) v) x 0 ≡ cond (eqb t v) x 0 + cond (eqb (p m) v) (cond (eqb t m) x 0) 0
  base_step t m v x l =
      ⊎_elim
      (λ (here : t ≡ m).
      let is = eq-eqb t m here in
      let apart = ne_eqb t v (λ same. omega arith) in
      rw (is, apart) (omega arith))
      (λ (other : t ≢ m).
      let is_not = ne_eqb t m other in
      rw is_not (nothing (eqb (p m) v) (cond (eqb t v) x 0)))
      (cases_eq t m)
    where
      nothing : (b : Bool) (y : ℕ) → y ≡ y + cond b 0 0
      nothing true y = omega arith
      nothing false y = omega arith

  cond-sum : (m : ℕ) (b : Bool) (f : ℕ → ℕ) → sum_below m (λ j. cond b (f j) 0) ≡ cond b (sum_below m f) 0
  cond-sum m true f = refl
  cond-sum m false f = none m
    where
      none : (m : ℕ) → sum_below m (λ j. 0) ≡ 0
      none zero = refl
      none (suc m) = omega (arith, none m)

  -- a sum over the rows with base v, before and after row m is passed
  based_sum :
      (d m v : ℕ) (f : ℕ → ℕ) → v < m
      → sum_below n (λ j. cond (eqb (base p (suc d) m j) v) (f j) 0)
      ≡ sum_below n (λ j. cond (eqb (base p d (suc m) j) v) (f j) 0)
      + cond (eqb (p m) v) (sum_below n (λ j. cond (eqb (base p d (suc m) j) m) (f j) 0)) 0
  based_sum d m v f l =
      let same = sum_below-same n (λ j. cond (eqb (base p (suc d) m j) v) (f j) 0)
      (λ j. cond (eqb (base p d (suc m) j) v) (f j) 0 + cond (eqb (p m) v) (cond (eqb (base p d (suc m) j) m) (f j) 0) 0)
      (λ j lj. base_step (base p d (suc m) j) m v (f j) l) in
      let parts = sum_below-add n (λ j. cond (eqb (base p d (suc m) j) v) (f j) 0)
      (λ j. cond (eqb (p m) v) (cond (eqb (base p d (suc m) j) m) (f j) 0) 0) in
      let last = cond-sum n (eqb (p m) v) (λ j. cond (eqb (base p d (suc m) j) m) (f j) 0) in
      omega (arith, same, parts, last)

  child_is : (v m : ℕ) → 0 < m → child p v m ≡ eqb (p m) v
  child_is v m some = rw (lt-ltb 0 m some) refl

  edge_given :
      (v m e : ℕ) (label : ℕ → ℕ) (b : Bool) → (b ≡ true → p m ≡ v)
      → cond b (e + cond (eqb (label m) (label v)) 0 1) 0 ≡ cond b (e + edge p label m) 0
  edge_given v m e label true is = rw (is refl) refl
  edge_given v m e label false is = refl

  -- the edges that are gathered at a row, and the row's own
  pub edge_sum :
      (label : ℕ → ℕ) (d m v : ℕ) → n ≡ m + d → 0 < m → v < m
      → edge_acc p label d m v + edge p label v ≡ sum_below n (λ j. cond (eqb (base p d m j) v) (edge p label j) 0)
  edge_sum label zero m v e some l =
      let only = sum_below-only n v (λ j. cond (eqb j v) (edge p label j) 0) (omega arith)
      (λ j lj other. rw (ne_eqb j v other) refl) in
      let known = rw (eq-eqb v v refl) at only in
      omega (arith, known)
  edge_sum label (suc d) m v e some l =
      let at_v = edge_sum label d (suc m) v (omega arith) (omega arith) (omega arith) in
      let at_m = edge_sum label d (suc m) m (omega arith) (omega arith) (omega arith) in
      let step = based_sum d m v (edge p label) l in
      let given = edge_given v m (edge_acc p label d (suc m) m) label (eqb (p m) v) (eqb-true (p m) v) in
      rw (child_is v m some, given, step, ← at_v, ← at_m) (omega arith)

  heat_given :
      (v m x y : ℕ) (label h : ℕ → ℕ) (a : Bool) → (label m ≡ label v → x ≤ y)
      → cond (a && eqb (label m) (label v)) x 0 ≤ cond a y 0
  heat_given v m x y label h true le =
      ⊎_elim (λ (same : label m ≡ label v). rw (eq-eqb (label m) (label v) same) (le same))
      (λ (other : label m ≢ label v). rw (ne_eqb (label m) (label v) other) (omega arith))
      (cases_eq (label m) (label v))
  heat_given v m x y label h false le = omega arith

  -- the heat that is gathered at a row is of its own part
  pub heat_sum :
      (label h : ℕ → ℕ) (d m v : ℕ) → n ≡ m + d → 0 < m → v < m
      → heat_acc p label h d m v
      ≤ sum_below n (λ j. cond (eqb (base p d m j) v) (cond (eqb (label j) (label v)) (h j) 0) 0)
  heat_sum label h zero m v e some l =
      let term = sum_below-term n v (λ j. cond (eqb j v) (cond (eqb (label j) (label v)) (h j) 0) 0) (omega arith) in
      let known = rw (eq-eqb v v refl, eq-eqb (label v) (label v) refl) at term in
      known
  heat_sum label h (suc d) m v e some l =
      let at_v = heat_sum label h d (suc m) v (omega arith) (omega arith) (omega arith) in
      let at_m = heat_sum label h d (suc m) m (omega arith) (omega arith) (omega arith) in
      let step = based_sum d m v (λ j. cond (eqb (label j) (label v)) (h j) 0) l in
      let given = heat_given v m (heat_acc p label h d (suc m) m)
      (sum_below n (λ j. cond (eqb (base p d (suc m) j) m) (cond (eqb (label j) (label v)) (h j) 0) 0)) label h (eqb (p m) v)
      (λ same. rw (← same) at_m) in
      rw (child_is v m some, step) (omega (arith, at_v, given))

  base-before : (d m j : ℕ) → n ≡ m + d → j < m → base p d m j ≡ j
  base-before zero m j e l = refl
  base-before (suc d) m j e l =
      let before = base-before d (suc m) j (omega arith) (omega arith) in
      let other = ne_eqb (base p d (suc m) j) m (λ is. omega arith) in
      rw other before

-- some number below n passes the test
some_below-from : (n i : ℕ) (q : ℕ → Bool) → i < n → q i ≡ true → some_below n q ≡ true
some_below-from n i q l is =
    ⊎_elim (λ (found : some_below n q ≡ true). found)
    (λ (none : some_below n q ≡ false). absurd (false≢true (sym (some_below-none n i q none l) ∙ is)))
    (cases_Bool (some_below n q))

climb-first : (rows : List ProblemRow) (s j : ℕ) → climb rows (suc s) j ≡ climb rows s (parent_at rows j)
climb-first rows zero j = refl
climb-first rows (suc s) j = ap (parent_at rows) (climb-first rows s j)

module _ (rows : List ProblemRow) (forest : IsForest rows) where
  parent_le : (j : ℕ) → j < length rows → parent_at rows j ≤ j
  parent_le j l =
      ⊎_elim (λ (deep : 0 < j). (let up = forest.above j deep l in omega arith))
      (λ (root : j ≤ 0). (let zero_is : j ≡ 0 = omega arith in rw zero_is (omega (arith, forest.root))))
      (cases_lt 0 j)

  climb-le : (s j : ℕ) → j < length rows → climb rows s j ≤ j
  climb-le zero j l = omega arith
  climb-le (suc s) j l =
      let before = climb-le s j l in
      let up = parent_le (climb rows s j) (omega arith) in
      omega arith

  -- the base is reached by a climb
  base_climbs :
      (d m j : ℕ) → length rows ≡ m + d → 0 < m → j < length rows
      → (s : ℕ) × (climb rows s j ≡ base (parent_at rows) d m j) × (s + base (parent_at rows) d m j ≤ j)
  base_climbs zero m j e some l = (0, refl, omega arith)
  base_climbs (suc d) m j e some l =
      let (s, is, le) = base_climbs d (suc m) j (omega arith) (omega arith) l in
      ⊎_elim
      (λ (here : base (parent_at rows) d (suc m) j ≡ m).
      let up = forest.above m some (omega arith) in
      rw (eq-eqb (base (parent_at rows) d (suc m) j) m here) (suc s, ap (parent_at rows) (is ∙ here), omega arith))
      (λ (other : base (parent_at rows) d (suc m) j ≢ m).
      rw (ne_eqb (base (parent_at rows) d (suc m) j) m other) (s, is, le))
      (cases_eq (base (parent_at rows) d (suc m) j) m)

  -- and a climb that comes to a row before row m goes over the base
  climbs_base :
      (d m j v s : ℕ) → length rows ≡ m + d → v < m → climb rows s j ≡ v
      → (t : ℕ) × (climb rows t (base (parent_at rows) d m j) ≡ v)
  climbs_base zero m j v s e l is = (s, is)
  climbs_base (suc d) m j v s e l is =
      let (t, there) = climbs_base d (suc m) j v s (omega arith) (omega arith) is in
      ⊎_elim
      (λ (here : base (parent_at rows) d (suc m) j ≡ m).
      rw (eq-eqb (base (parent_at rows) d (suc m) j) m here) (one_less t m v l (ap (climb rows t) (sym here) ∙ there)))
      (λ (other : base (parent_at rows) d (suc m) j ≢ m).
      rw (ne_eqb (base (parent_at rows) d (suc m) j) m other) (t, there))
      (cases_eq (base (parent_at rows) d (suc m) j) m)
    where
      one_less : (t m v : ℕ) → v < m → climb rows t m ≡ v → (u : ℕ) × (climb rows u (parent_at rows m) ≡ v)
      one_less zero m v l is = absurd (omega arith)
      one_less (suc t) m v l is = (t, sym (climb-first rows t m) ∙ is)

  -- a row has base v where it is in v's subtree
  base_is :
      (d v j : ℕ) → length rows ≡ suc v + d → j < length rows
      → eqb (base (parent_at rows) d (suc v) j) v ≡ in_subtree rows v j
  base_is d v j e l =
      ⊎_elim
      (λ (here : base (parent_at rows) d (suc v) j ≡ v).
      let (s, is, le) = base_climbs d (suc v) j e (omega arith) l in
      eq-eqb (base (parent_at rows) d (suc v) j) v here
      ∙ sym (some_below-from (suc j) s (λ steps. eqb (climb rows steps j) v) (omega arith) (eq-eqb (climb rows s j) v (is ∙ here))))
      (λ (other : base (parent_at rows) d (suc v) j ≢ v).
      ne_eqb (base (parent_at rows) d (suc v) j) v other
      ∙ sym (⊎_elim
      (λ (inside : in_subtree rows v j ≡ true).
      let (s, ls, found) = some_below-found (suc j) (λ steps. eqb (climb rows steps j) v) inside in
      let (t, there) = climbs_base d (suc v) j v s e (omega arith) (eqb-true (climb rows s j) v found) in
      let below = base-lt (length rows) (parent_at rows) forest.above d (suc v) j e (omega arith) l in
      let low = climb-le t (base (parent_at rows) d (suc v) j) (omega arith) in
      absurd (other (omega arith)))
      (λ (outside : in_subtree rows v j ≡ false). outside)
      (cases_Bool (in_subtree rows v j))))
      (cases_eq (base (parent_at rows) d (suc v) j) v)

  both : (a b : Bool) (x : ℕ) → cond a (cond b x 0) 0 ≡ cond (a && b) x 0
  both true b x = refl
  both false b x = refl

  pub heat-top :
      (label : ℕ → ℕ) (d v : ℕ) → length rows ≡ suc v + d
      → heat_acc (parent_at rows) label (heat_at rows) d (suc v) v ≤ top_heat rows label v
  heat-top label d v e =
      let le = heat_sum (length rows) (parent_at rows) forest.above label (heat_at rows) d (suc v) v e (omega arith) (omega arith) in
      let same = sum_below-same (length rows)
      (λ j. cond (eqb (base (parent_at rows) d (suc v) j) v) (cond (eqb (label j) (label v)) (heat_at rows j) 0) 0)
      (λ j. cond (in_subtree rows v j && eqb (label j) (label v)) (heat_at rows j) 0)
      (λ j l. ap (λ b. cond b (cond (eqb (label j) (label v)) (heat_at rows j) 0) 0) (base_is d v j e l)
      ∙ both (in_subtree rows v j) (eqb (label j) (label v)) (heat_at rows j)) in
      omega (arith, le, same)

  one_edge : (a b : Bool) (x y : ℕ) → cond a (cond b x y) x ≡ cond (a && not b) y x
  one_edge true true x y = refl
  one_edge true false x y = refl
  one_edge false b x y = refl

  edge_at :
      (label : ℕ → ℕ) (d v j : ℕ) → length rows ≡ suc v + d → j < length rows
      → cond (eqb (base (parent_at rows) d (suc v) j) v) (edge (parent_at rows) label j) 0
      ≡ cond (ltb v j && (in_subtree rows v j && not (joins_parent rows label j))) 1 0
      + cond (eqb j v) (edge (parent_at rows) label j) 0
  edge_at label d v j e l =
      ⊎_elim
      (λ (after : v < j).
      let joins : joins_parent rows label j ≡ eqb (label j) (label (parent_at rows j)) =
      ap (λ b. b && eqb (label j) (label (parent_at rows j))) (lt-ltb 0 j (omega arith)) in
      let apart : eqb j v ≡ false = ne_eqb j v (λ same. omega arith) in
      let is = base_is d v j e l in
      let one = one_edge (in_subtree rows v j) (eqb (label j) (label (parent_at rows j))) 0 1 in
      rw (is, lt-ltb v j after, joins, apart) (omega (arith, one)))
      (λ (before : j ≤ v).
      let same = base-before (length rows) (parent_at rows) forest.above d (suc v) j e (omega arith) in
      rw (same, le-ltb v j before) (omega arith))
      (cases_lt v j)

  pub edges-below :
      (label : ℕ → ℕ) (d v : ℕ) → length rows ≡ suc v + d
      → edge_acc (parent_at rows) label d (suc v) v ≡ edges_below rows label v
  edges-below label d v e =
      let all = edge_sum (length rows) (parent_at rows) forest.above label d (suc v) v e (omega arith) (omega arith) in
      let same = sum_below-same (length rows)
      (λ j. cond (eqb (base (parent_at rows) d (suc v) j) v) (edge (parent_at rows) label j) 0)
      (λ j. cond (ltb v j && (in_subtree rows v j && not (joins_parent rows label j))) 1 0
      + cond (eqb j v) (edge (parent_at rows) label j) 0)
      (λ j l. edge_at label d v j e l) in
      let parts = sum_below-add (length rows)
      (λ j. cond (ltb v j && (in_subtree rows v j && not (joins_parent rows label j))) 1 0)
      (λ j. cond (eqb j v) (edge (parent_at rows) label j) 0) in
      let only = sum_below-only (length rows) v (λ j. cond (eqb j v) (edge (parent_at rows) label j) 0) (omega arith)
      (λ j l other. rw (ne_eqb j v other) refl) in
      let own = rw (eq-eqb v v refl) at only in
      omega (arith, all, same, parts, own)
