-- Hours that were not seen: what directories have at or below them, and which come first.
use Rattle.std.proofs.Common.{◌≡◌, ◌≢◌, ◌∙◌, ◌⊎◌, ◌↔◌, ◌+◌, ◌*◌, ◌<◌, ◌≤◌, ◌==◌, ◌&&◌, ◌++◌, ◌∷◌}
use Rattle.std.proofs.Common.{◌^◌, [], ℕ, zero, suc, Bool, true, false, List, Option, Some, ap, arith}
use Rattle.std.proofs.Common.{cond, get_or, inl, inr, length, length-append, nat_lt, refl, set, slice_index, subst, sym, ⊎_elim}
use Rattle.std.proofs.lemmas.Bool.{and_parts, cases_Bool, cases_eq, eq-eqb, eqb-true, lt-ltb, ltb-true, ne_eqb}
use Rattle.std.proofs.lemmas.List.{get_or-set_other, get_or-set_same, get_or_append_left, get_or_push, length-set}
use Rattle.mds_types.specs.declared.problem.ProblemRow.{ProblemRow}
use Rattle.mds_types.specs.CutTable.{is_child, sum_of_children}
use Rattle.mds_types.specs.Problem.{IsForest, heat_at, inodes_at, parent_at}
use Rattle.mds_types.specs.Sums.{count_below, sum_below}
use Rattle.mds_types.proofs.SumsLemmas.{sum_below-same, sum_below_more}
use Rattle.residual_cut.proofs.LabelLemmas.{slice_index-last, slice_index-push}
use Rattle.residual_cut.specs.Subtrees.{AreSums}
use Rattle.ceph_plan.specs.MadeHours.{AreLargest, AreMadeOver, AreTotals, AreUncounted, AreWorth, HaveNumbers}
use Rattle.ceph_plan.specs.MadeHours.{IsFilled, IsLarge, IsMadeHour, IsWarm, IsWorthMaking, MayTake}
use Rattle.ceph_plan.specs.MadeHours.{free_children, heat_mark, is_free_child, made_parent}
use Rattle.ceph_plan.specs.declared.hours.Hour.{Hour}
use Rattle.ceph_plan.specs.declared.made.MadeHour.{MadeHour}
use Rattle.std.specs.List.{slice_get}
use Rattle.ceph_plan.specs.declared.made.TheConstants.{MADE_CHILDREN}
use Rattle.ceph_plan.proofs.HourLists.{more-numbers}
use Rattle.ceph_plan.proofs.Weighed.{get_either, get_last}
use Rattle.std.specs.Option.{option_map_or}

-- a child comes after its parent
child-later : (rows : List ProblemRow) (v j : ℕ) → IsForest rows → j < length rows → is_child rows v j ≡ true → v < j
child-later rows v j forest inside is =
    let both : (nat_lt 0 j ≡ true) × ((parent_at rows j == v) ≡ true) = and_parts _ _ is in
    let deep : 0 < j = ltb-true 0 j both.0 in
    let up : parent_at rows j ≡ v = eqb-true (parent_at rows j) v both.1 in
    omega (arith, forest.above j deep inside, up)

-- the children of each row, with one more row
and-false : (b : Bool) → (b && false) ≡ false
and-false true = refl
and-false false = refl

abbrev mark : Bool → ℕ
mark b = cond b 1 0

module _ (rows : List ProblemRow) (free : List Bool) (counts new : List ℕ) (i : ℕ) where
  abbrev pub AreCounted : List ℕ → ℕ → Type 0
  AreCounted those k = (d : ℕ) → d < length rows → slice_index those d ≡ count_below k (is_free_child rows free d)

  pub counted-more : (p v : ℕ) → new ≡ set counts p v → v ≡ slice_index counts p + 1 → p ≡ parent_at rows i → p < length counts → 0 < i
      → get_or free i false ≡ true
      → AreCounted counts i → AreCounted new (i + 1)
  counted-more p v set_is value up inside deep is before d l =
      let step : count_below (i + 1) (is_free_child rows free d) ≡ count_below i (is_free_child rows free d) + mark (is_free_child rows free d i) =
      sum_below_more i (λ j. mark (is_free_child rows free d j)) in
      ⊎_elim (λ (same : d ≡ p).
      let child : is_free_child rows free d i ≡ true = rw (lt-ltb 0 i deep, eq-eqb (parent_at rows i) d (sym (same ∙ up)), is) refl in
      let yes : mark (is_free_child rows free d i) ≡ 1 = ap mark child in
      let here : slice_index new d ≡ v = ap (λ (xs : List ℕ). slice_index xs d) set_is
      ∙ (ap (slice_index (set counts p v)) same ∙ get_or-set_same counts p v 0 inside) in
      omega (arith, here, value, ap (slice_index counts) same, before d l, step, yes))
      (λ (other : d ≢ p).
      let child : is_free_child rows free d i ≡ false = rw (lt-ltb 0 i deep, ne_eqb (parent_at rows i) d (λ same. other (sym (up ∙ same)))) refl in
      let no : mark (is_free_child rows free d i) ≡ 0 = ap mark child in
      let here : slice_index new d ≡ slice_index counts d = ap (λ (xs : List ℕ). slice_index xs d) set_is ∙ get_or-set_other counts p d v 0 other in
      omega (arith, here, before d l, step, no))
      (cases_eq d p)

  pub counted-same : new ≡ counts → get_or free i false ≡ false → AreCounted counts i → AreCounted new (i + 1)
  counted-same same is before d l =
      let step : count_below (i + 1) (is_free_child rows free d) ≡ count_below i (is_free_child rows free d) + mark (is_free_child rows free d i) =
      sum_below_more i (λ j. mark (is_free_child rows free d j)) in
      let no : is_free_child rows free d i ≡ false = ap (λ (b : Bool). is_child rows d i && b) is ∙ and-false (is_child rows d i) in
      let none : mark (is_free_child rows free d i) ≡ 0 = ap mark no in
      omega (arith, ap (λ (xs : List ℕ). slice_index xs d) same, before d l, step, none)

-- there is only one total for each row
same-total : (rows : List ProblemRow) (own f g : ℕ → ℕ) → IsForest rows → AreTotals rows own f → AreTotals rows own g → (d v : ℕ) → v < length rows
    → length rows ≤ v + d → f v ≡ g v
same-total rows own f g forest of other zero v inside le = absurd (let none : ⊥ = omega (arith, inside, le) in none)
same-total rows own f g forest of other (suc d) v inside le =
    of v inside ∙ (ap (λ (x : ℕ). own v + x)
    (sum_below-same (length rows) (λ j. cond (is_child rows v j) (f j) 0) (λ j. cond (is_child rows v j) (g j) 0) (λ j l.
    ⊎_elim (λ (is : is_child rows v j ≡ true).
    let later : v < j = child-later rows v j forest l is in
    ap (λ (x : ℕ). cond (is_child rows v j) x 0) (same-total rows own f g forest of other d j l (omega (arith, later, le))))
    (λ (is : is_child rows v j ≡ false). rw is refl)
    (cases_Bool (is_child rows v j))))
    ∙ sym (other v inside))

pub one-total : (rows : List ProblemRow) (own f g : ℕ → ℕ) (v : ℕ) → IsForest rows → AreTotals rows own f → AreTotals rows own g → v < length rows → f v ≡ g v
one-total rows own f g v forest of other inside = same-total rows own f g forest of other (length rows) v inside (omega arith)

-- rows with these numbers as their heat are as good, and their subtrees have the totals
pub numbered-forest : (rows found : List ProblemRow) (own : List ℕ) → IsForest rows → HaveNumbers rows own found
    → ((i : ℕ) → i < length rows → slice_index own i ≤ 2 ^ 40)
    → IsForest found
numbered-forest rows found own forest is small = record {
  few = omega (arith, is.size, forest.few);
  root = ⊎_elim (λ (none : length rows ≡ 0). no-root found (is.size ∙ none))
      (λ (some : length rows ≢ 0). parent 0 (omega (arith, some)) ∙ forest.root) (cases_eq (length rows) 0);
  above = λ i deep l.
      let there : i < length rows = omega (arith, l, is.size) in
      omega (arith, parent i there, forest.above i deep there);
  cool = λ i l.
      let there : i < length rows = omega (arith, l, is.size) in
      omega (arith, ap (λ (row : ProblemRow). row.heat) (is.rows_are i there), small i there);
}
  where
    parent : (i : ℕ) → i < length rows → parent_at found i ≡ parent_at rows i
    parent i l = ap (λ (row : ProblemRow). row.parent) (is.rows_are i l)

    no-root : (xs : List ProblemRow) → length xs ≡ 0 → parent_at xs 0 ≡ 0
    no-root [] none = refl
    no-root (x ∷ xs) none = absurd (let no : ⊥ = omega (arith, none) in no)

pub numbered-totals : (rows found : List ProblemRow) (own : List ℕ) (totals : ℕ → ℕ) → HaveNumbers rows own found → AreSums found totals
    → AreTotals rows (slice_index own) totals
numbered-totals rows found own totals is sums = λ v l.
    let there : v < length found = omega (arith, l, is.size) in
    let heat : heat_at found v ≡ slice_index own v = ap (λ (row : ProblemRow). row.heat) (is.rows_are v l) in
    let same : sum_of_children found v totals ≡ sum_of_children rows v totals =
    ap (λ (n : ℕ). sum_below n (λ j. cond (is_child found v j) (totals j) 0)) is.size
    ∙ sum_below-same (length rows) (λ j. cond (is_child found v j) (totals j) 0) (λ j. cond (is_child rows v j) (totals j) 0)
    (λ j lj. ap (λ (p : ℕ). cond (nat_lt 0 j && (p == v)) (totals j) 0) (ap (λ (row : ProblemRow). row.parent) (is.rows_are j lj))) in
    omega (arith, sums v there, heat, same)

-- an hour may be made for a row, or not, by these totals
module _ (rows : List ProblemRow) (heats : List ℕ) (hot inodes : ℕ → ℕ) (forest : IsForest rows) (hot_are : AreTotals rows (heat_mark heats) hot)
    (inodes_are : AreTotals rows (inodes_at rows) inodes) (d : ℕ) (inside : d < length rows) where
  pub neither : hot d ≡ 0 → inodes d * 50 < inodes 0 → ¬ (IsWarm rows heats d ⊎ IsLarge rows d)
  neither cold small = λ why.
      ⊎_elim (λ (warm : IsWarm rows heats d).
      let same : warm.hot d ≡ hot d = one-total rows (heat_mark heats) warm.hot hot d forest warm.are hot_are inside in
      omega (arith, warm.some, same, cold))
      (λ (large : IsLarge rows d).
      let same : large.inodes d ≡ inodes d = one-total rows (inodes_at rows) large.inodes inodes d forest large.are inodes_are inside in
      let all : large.inodes 0 ≡ inodes 0 = one-total rows (inodes_at rows) large.inodes inodes 0 forest large.are inodes_are (omega (arith, inside)) in
      omega (arith, large.many, same, all, small))
      why

  pub warm : 0 < hot d → IsWarm rows heats d ⊎ IsLarge rows d
  warm some = inl (record { hot = hot; are = hot_are; some = some })

  pub large : inodes 0 ≤ inodes d * 50 → IsWarm rows heats d ⊎ IsLarge rows d
  large many = inr (record { inodes = inodes; are = inodes_are; many = omega (arith, many) })

  pub may-take : (0 < hot d) ⊎ ((1 < inodes d) ⊎ (inodes 0 ≤ length rows)) → MayTake rows heats d
  may-take why =
      ⊎_elim (λ (some : 0 < hot d). inl (record { hot = hot; are = hot_are; some = some }))
      (λ (rest : (1 < inodes d) ⊎ (inodes 0 ≤ length rows)).
      inr (⊎_elim (λ (many : 1 < inodes d). inl (record { inodes = inodes; are = inodes_are; some = many }))
      (λ (none : inodes 0 ≤ length rows). inr (record { inodes = inodes; are = inodes_are; none = none })) rest))
      why

  pub must-take : MayTake rows heats d → (0 < hot d) ⊎ ((1 < inodes d) ⊎ (inodes 0 ≤ length rows))
  must-take why =
      ⊎_elim (λ (warm : IsWarm rows heats d).
      let same : warm.hot d ≡ hot d = one-total rows (heat_mark heats) warm.hot hot d forest warm.are hot_are inside in
      inl (omega (arith, warm.some, same)))
      (λ (rest : IsFilled rows d ⊎ AreUncounted rows).
      inr (⊎_elim (λ (filled : IsFilled rows d).
      let same : filled.inodes d ≡ inodes d = one-total rows (inodes_at rows) filled.inodes inodes d forest filled.are inodes_are inside in
      inl (omega (arith, filled.some, same)))
      (λ (bare : AreUncounted rows).
      let same : bare.inodes 0 ≡ inodes 0 = one-total rows (inodes_at rows) bare.inodes inodes 0 forest bare.are inodes_are (omega (arith, inside)) in
      inr (omega (arith, bare.none, same)))
      rest))
      why

-- of one row more it is known whether load may come to it
pub taking-more : (P : ℕ → Type 0) (found new : List Bool) (i : ℕ) (b : Bool) → new ≡ found ++ b ∷ [] → length found ≡ i
    → ((d : ℕ) → d < i → get_or found d false ≡ true ↔ P d) → (b ≡ true ↔ P i) → (d : ℕ) → d < i + 1 → get_or new d false ≡ true ↔ P d
taking-more P found new i b new_is size before last d l =
    subst (λ (xs : List Bool). get_or xs d false ≡ true ↔ P d) (sym new_is)
    (⊎_elim (λ (here : d ≡ i).
    subst (λ (x : Bool). x ≡ true ↔ P d) (sym (ap (λ (j : ℕ). get_or (found ++ b ∷ []) j false) here ∙ get_or_push found b false i size))
    (subst (λ (j : ℕ). b ≡ true ↔ P j) (sym here) last))
    (λ (other : d ≢ i).
    let low : d < i = omega (arith, l, other) in
    subst (λ (x : Bool). x ≡ true ↔ P d) (sym (get_or_append_left found (b ∷ []) false d (omega (arith, low, size)))) (before d low))
    (cases_eq d i))

-- the greatest of these numbers that were taken so far: what is left has none of them
pub record AreTaken (numbers left found : List ℕ) : Type 0 where
  pub size : length left ≡ length numbers
  pub each : (d : ℕ) → d < length numbers → ((slice_index left d ≡ slice_index numbers d) × ((k : ℕ) → k < length found → slice_index found k ≢ d))
      ⊎ ((slice_index left d ≡ 0) × ((k : ℕ) × (k < length found) × (slice_index found k ≡ d)))
  pub inside : (k : ℕ) → k < length found → slice_index found k < length numbers
  pub many : (k : ℕ) → k < length found → MADE_CHILDREN ≤ slice_index numbers (slice_index found k)
  pub once : (j k : ℕ) → j < k → k < length found → slice_index found j ≢ slice_index found k
  pub falls : (j k : ℕ) → j < k → k < length found → slice_index numbers (slice_index found k) ≤ slice_index numbers (slice_index found j)
  pub low : (d k : ℕ) → d < length numbers → k < length found → slice_index left d ≤ slice_index numbers (slice_index found k)

-- one more
module _ (numbers left found : List ℕ) (at : ℕ) (is : AreTaken numbers left found) (inside : at < length left)
    (greatest : (i : ℕ) → i < length left → slice_index left i ≤ slice_index left at) (many : MADE_CHILDREN ≤ slice_index left at) where
  new : (slice_index left at ≡ slice_index numbers at) × ((k : ℕ) → k < length found → slice_index found k ≢ at)
  new =
      ⊎_elim (λ (yes : (slice_index left at ≡ slice_index numbers at) × ((k : ℕ) → k < length found → slice_index found k ≢ at)). yes)
      (λ (no : (slice_index left at ≡ 0) × ((k : ℕ) × (k < length found) × (slice_index found k ≡ at))). absurd
      (let none : ⊥ = omega (arith, no.0, many) in none))
      (is.each at (omega (arith, inside, is.size)))

  old-place : (k : ℕ) → k < length found → slice_index (found ++ at ∷ []) k ≡ slice_index found k
  old-place k l = slice_index-push found at k l

  new-place : slice_index (found ++ at ∷ []) (length found) ≡ at
  new-place = slice_index-last found at

  size-more : length (found ++ at ∷ []) ≡ length found + 1
  size-more = simp length-append refl

  place : (P : ℕ → Type 0) → P at → ((k : ℕ) → k < length found → P (slice_index found k)) → (k : ℕ) → k < length (found ++ at ∷ [])
      → P (slice_index (found ++ at ∷ []) k)
  place P last before k l =
      more-numbers (λ (j x : ℕ). P x) found (found ++ at ∷ []) (length found) at refl refl last before k (omega (arith, l, size-more))

  unless-last : (k : ℕ) → k < length (found ++ at ∷ []) → k ≢ length found → k < length found
  unless-last k l other = omega (arith, l, other, size-more)

  pub taken-more : AreTaken numbers (set left at 0) (found ++ at ∷ [])
  taken-more = record {
    size = length-set left at 0 ∙ is.size;
    each = λ d l.
        ⊎_elim (λ (same : d ≡ at). inr (
          ap (slice_index (set left at 0)) same ∙ get_or-set_same left at 0 0 inside,
          (length found, omega (arith, size-more), new-place ∙ sym same),
        ))
        (λ (other : d ≢ at).
        let kept : slice_index (set left at 0) d ≡ slice_index left d = get_or-set_other left at d 0 0 other in
        ⊎_elim (λ (yes : (slice_index left d ≡ slice_index numbers d) × ((k : ℕ) → k < length found → slice_index found k ≢ d)).
        inl (kept ∙ yes.0, place (λ (x : ℕ). x ≢ d) (λ last. other (sym last)) yes.1))
        (λ (no : (slice_index left d ≡ 0) × ((k : ℕ) × (k < length found) × (slice_index found k ≡ d))).
        inr (kept ∙ no.0, (no.1.0, omega (arith, no.1.1, size-more), old-place no.1.0 no.1.1 ∙ no.1.2)))
        (is.each d l))
        (cases_eq d at);
    inside = place (λ (x : ℕ). x < length numbers) (omega (arith, inside, is.size)) is.inside;
    many = place (λ (x : ℕ). MADE_CHILDREN ≤ slice_index numbers x) (omega (arith, many, new.0)) is.many;
    once = λ j k before l.
        ⊎_elim (λ (last : k ≡ length found).
        let low : j < length found = omega (arith, before, last) in
        λ (same : slice_index (found ++ at ∷ []) j ≡ slice_index (found ++ at ∷ []) k).
        new.1 j low (sym (old-place j low) ∙ (same ∙ (ap (slice_index (found ++ at ∷ [])) last ∙ new-place))))
        (λ (other : k ≢ length found).
        let lk : k < length found = unless-last k l other in
        let lj : j < length found = omega (arith, lk, before) in
        λ (same : slice_index (found ++ at ∷ []) j ≡ slice_index (found ++ at ∷ []) k).
        is.once j k before lk (sym (old-place j lj) ∙ (same ∙ old-place k lk)))
        (cases_eq k (length found));
    falls = λ j k before l.
        ⊎_elim (λ (last : k ≡ length found).
        let low : j < length found = omega (arith, before, last) in
        let one : slice_index (found ++ at ∷ []) k ≡ at = ap (slice_index (found ++ at ∷ [])) last ∙ new-place in
        let le : slice_index left at ≤ slice_index numbers (slice_index found j) = is.low at j (omega (arith, inside, is.size)) low in
        omega (arith, ap (slice_index numbers) one, ap (slice_index numbers) (old-place j low), le, new.0))
        (λ (other : k ≢ length found).
        let lk : k < length found = unless-last k l other in
        let lj : j < length found = omega (arith, lk, before) in
        omega (arith, is.falls j k before lk, ap (slice_index numbers) (old-place j lj), ap (slice_index numbers) (old-place k lk)))
        (cases_eq k (length found));
    low = λ d k l lk.
        let less : slice_index (set left at 0) d ≤ slice_index left d =
        ⊎_elim (λ (same : d ≡ at). omega (arith, ap (slice_index (set left at 0)) same ∙ get_or-set_same left at 0 0 inside))
        (λ (other : d ≢ at). omega (arith, get_or-set_other left at d 0 0 other)) (cases_eq d at) in
        ⊎_elim (λ (last : k ≡ length found).
        let one : slice_index (found ++ at ∷ []) k ≡ at = ap (slice_index (found ++ at ∷ [])) last ∙ new-place in
        omega (arith, less, greatest d (omega (arith, l, is.size)), ap (slice_index numbers) one, new.0))
        (λ (other : k ≢ length found).
        let lf : k < length found = unless-last k lk other in
        omega (arith, less, is.low d k l lf, ap (slice_index numbers) (old-place k lf)))
        (cases_eq k (length found));
  }

-- totals of the same numbers
pub totals-same : (rows : List ProblemRow) (f g totals : ℕ → ℕ) → ((v : ℕ) → v < length rows → f v ≡ g v) → AreTotals rows f totals → AreTotals rows g totals
totals-same rows f g totals same are v l = are v l ∙ ap (λ (x : ℕ). x + sum_of_children rows v totals) (same v l)

-- of the rows before this one it is known whether an hour may be made for them
module _ (rows : List ProblemRow) (free : List Bool) (heats : List ℕ) (old new : List ℕ) (i : ℕ) where
  abbrev pub IsDecided : List ℕ → ℕ → Type 0
  IsDecided worth d = ((IsWarm rows heats d ⊎ IsLarge rows d) × (slice_index worth d ≡ free_children rows free d))
      ⊎ (¬ (IsWarm rows heats d ⊎ IsLarge rows d) × (slice_index worth d ≡ 0))

  abbrev pub AreLeft : List ℕ → ℕ → Type 0
  AreLeft worth k = (d : ℕ) → k ≤ d → d < length rows → slice_index worth d ≡ free_children rows free d

  pub decided-kept : new ≡ old → i < length rows → IsWarm rows heats i ⊎ IsLarge rows i → ((d : ℕ) → d < i → IsDecided old d)
      → AreLeft old i → (d : ℕ) → d < i + 1 → IsDecided new d
  decided-kept same inside why before left d l =
      subst (λ (xs : List ℕ). IsDecided xs d) (sym same)
      (⊎_elim (λ (here : d ≡ i). subst (IsDecided old) (sym here) (inl (why, left i (omega arith) inside)))
      (λ (other : d ≢ i). before d (omega (arith, l, other))) (cases_eq d i))

  pub decided-none : new ≡ set old i 0 → i < length old → ¬ (IsWarm rows heats i ⊎ IsLarge rows i) → ((d : ℕ) → d < i → IsDecided old d)
      → (d : ℕ) → d < i + 1 → IsDecided new d
  decided-none set_is inside never before d l =
      subst (λ (xs : List ℕ). IsDecided xs d) (sym set_is)
      (⊎_elim (λ (here : d ≡ i). subst (IsDecided (set old i 0)) (sym here) (inr (never, get_or-set_same old i 0 0 inside)))
      (λ (other : d ≢ i).
      let kept : slice_index (set old i 0) d ≡ slice_index old d = get_or-set_other old i d 0 0 other in
      ⊎_elim (λ (yes : (IsWarm rows heats d ⊎ IsLarge rows d) × (slice_index old d ≡ free_children rows free d)). inl (yes.0, kept ∙ yes.1))
      (λ (no : ¬ (IsWarm rows heats d ⊎ IsLarge rows d) × (slice_index old d ≡ 0)). inr (no.0, kept ∙ no.1))
      (before d (omega (arith, l, other))))
      (cases_eq d i))

  pub left-kept : new ≡ old → AreLeft old i → AreLeft new (i + 1)
  left-kept same left d le l = ap (λ (xs : List ℕ). slice_index xs d) same ∙ left d (omega (arith, le)) l

  pub left-set : new ≡ set old i 0 → AreLeft old i → AreLeft new (i + 1)
  left-set set_is left d le l =
      ap (λ (xs : List ℕ). slice_index xs d) set_is
      ∙ (get_or-set_other old i d 0 0 (λ same. let none : ⊥ = omega (arith, same, le) in none) ∙ left d (omega (arith, le)) l)

-- what is worth an hour
pub some-worth : (rows : List ProblemRow) (free : List Bool) (heats worth : List ℕ) (d : ℕ) → AreWorth rows free heats worth
    → d < length rows → MADE_CHILDREN ≤ slice_index worth d
    → IsWorthMaking rows free heats d × (slice_index worth d ≡ free_children rows free d)
some-worth rows free heats worth d is inside many =
    ⊎_elim (λ (yes : (IsWarm rows heats d ⊎ IsLarge rows d) × (slice_index worth d ≡ free_children rows free d)).
    (record { many = omega (arith, many, yes.1); why = yes.0 }, yes.1))
    (λ (no : ¬ (IsWarm rows heats d ⊎ IsLarge rows d) × (slice_index worth d ≡ 0)). absurd (let none : ⊥ = omega (arith, many, no.1) in none))
    (is.each d inside)

pub worth-all : (rows : List ProblemRow) (free : List Bool) (heats worth : List ℕ) (d : ℕ) → AreWorth rows free heats worth
    → d < length rows → IsWorthMaking rows free heats d
    → slice_index worth d ≡ free_children rows free d
worth-all rows free heats worth d is inside may =
    ⊎_elim (λ (yes : (IsWarm rows heats d ⊎ IsLarge rows d) × (slice_index worth d ≡ free_children rows free d)). yes.1)
    (λ (no : ¬ (IsWarm rows heats d ⊎ IsLarge rows d) × (slice_index worth d ≡ 0)). absurd (no.0 may.why))
    (is.each d inside)

-- an hour for each of the largest
module _ (rows : List ProblemRow) (free : List Bool) (now : Hour) (count : ℕ) (worth parents : List ℕ) (found : List MadeHour)
    (is : AreWorth rows free now.heats.items worth)
    (largest : AreLargest worth count parents) (size : length found ≡ length parents)
    (each : (k : ℕ) (one : MadeHour) → slice_get found k ≡ Some one → IsMadeHour rows free now one)
    (same : (k : ℕ) → k < length parents → made_parent found k ≡ slice_index parents k) where
  there : (k : ℕ) → k < length found → k < length parents
  there k l = omega (arith, l, size)

  children : (k : ℕ) → k < length found → free_children rows free (made_parent found k) ≡ slice_index worth (slice_index parents k)
  children k l =
      ap (free_children rows free) (same k (there k l))
      ∙ sym (some-worth rows free now.heats.items worth (slice_index parents k) is (omega (arith, largest.inside k (there k l), is.size))
      (largest.many k (there k l))).1

  pub all-made : AreMadeOver rows free now count found
  all-made = record {
    few = omega (arith, size, largest.few);
    each = each;
    once = λ j k before l alike.
        largest.once j k before (there k l) (sym (same j (omega (arith, before, there k l))) ∙ (alike ∙ same k (there k l)));
    falls = λ j k before l. omega (arith, children j (omega (arith, before, l)), children k l, largest.falls j k before (there k l));
    rest = λ d l may out.
        let one : slice_index worth d ≡ free_children rows free d = worth-all rows free now.heats.items worth d is l may in
        let rest = largest.rest d (omega (arith, l, is.size)) (omega (arith, one, may.many))
        (λ k lk alike. out k (omega (arith, lk, size)) (same k lk ∙ alike)) in
        (size ∙ rest.0, λ k lk. omega (arith, one, children k lk, rest.1 k (there k lk)));
  }

-- one more made hour
module _ (rows : List ProblemRow) (free : List Bool) (now : Hour) (found more : List MadeHour) (one : MadeHour) (parents : List ℕ) (i : ℕ)
    (more_is : more ≡ found ++ one ∷ [])
    (size : length found ≡ i) where
  pub made-each : IsMadeHour rows free now one → ((k : ℕ) (other : MadeHour) → slice_get found k ≡ Some other → IsMadeHour rows free now other)
      → (k : ℕ) (other : MadeHour) → slice_get more k ≡ Some other → IsMadeHour rows free now other
  made-each is before k other there =
      ⊎_elim (λ (old : slice_get found k ≡ Some other). before k other old) (λ (new : one ≡ other). subst (IsMadeHour rows free now) new is)
      (get_either found one other k (sym (ap (λ (xs : List MadeHour). slice_get xs k) more_is) ∙ there))

  pub made-parents : one.parent ≡ slice_index parents i → ((k : ℕ) → k < i → made_parent found k ≡ slice_index parents k) → (k : ℕ)
      → k < i + 1 → made_parent more k ≡ slice_index parents k
  made-parents last before k l =
      ap (λ (xs : List MadeHour). made_parent xs k) more_is
      ∙ ⊎_elim (λ (end : k ≡ i).
      ap (made_parent (found ++ one ∷ [])) (end ∙ sym size)
      ∙ (ap (λ (o : Option MadeHour). option_map_or (λ (m : MadeHour). m.parent) o 0) (get_last found one) ∙ (last ∙ ap (slice_index parents) (sym end))))
      (λ (other : k ≢ i).
      let low : k < length found = omega (arith, l, other, size) in
      ap (λ (o : Option MadeHour). option_map_or (λ (m : MadeHour). m.parent) o 0) (kept found one k low) ∙ before k (omega (arith, low, size)))
      (cases_eq k i)
    where
      kept : (xs : List MadeHour) (x : MadeHour) (j : ℕ) → j < length xs → slice_get (xs ++ x ∷ []) j ≡ slice_get xs j
      kept [] x j lj = absurd (let none : ⊥ = omega (arith, lj) in none)
      kept (y ∷ xs) x zero lj = refl
      kept (y ∷ xs) x (suc j) lj = kept xs x j (omega (arith, lj))
