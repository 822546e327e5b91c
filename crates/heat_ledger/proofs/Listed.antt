-- The directories that have a count, as a list of rows.
use Rattle.std.proofs.Common.{◌≡◌, ◌≢◌, ℕ, zero, suc, ◌+◌, ◌-◌, ◌<◌, ◌≤◌, ◌==◌, Bool, true, false, cond, List, []}
use Rattle.std.proofs.Common.{◌∷◌, ◌++◌, map, filter, fold, nat_lt, set, length, refl, sym, ap, ◌∙◌, arith, subst, append_assoc, length-append}
use Rattle.std.proofs.lemmas.List.{set_at, get_or_at, length_push}
use Rattle.std.proofs.lemmas.List.Recursion.{is_count_by}
use Rattle.std.proofs.lemmas.List.Sorted.{sum_by-IsPermutation}
use Rattle.std.specs.List.Sorted.{IsPermutation, IsNonDecreasing}
use Rattle.std.proofs.lemmas.Bool.Decides.{nat_tests}
use native.Mathlib.Decide.{ℕ_discrete}
use Rattle.heat_ledger.specs.declared.dir_hits.DirHits.{DirHits}
use Rattle.heat_ledger.specs.Rows.{at, sums, raised_by, dir_row, numbered, counted_rows, with_row}
use Rattle.heat_ledger.specs.Touched.{times, mark, pair_sums, IsTracked}
use Rattle.heat_ledger.proofs.Marks.{times_same, times_other, times_more, times_at, mark_some, tracked_once}

-- they rise, from this number on
abbrev pub RisesFrom : ℕ → List ℕ → Type 0
RisesFrom from [] = Unit {0}
RisesFrom from (d ∷ ds) = (from ≤ d) × RisesFrom (d + 1) ds

none_before : (ds : List ℕ) (from e : ℕ) → RisesFrom from ds → e < from → times ds e ≡ 0
none_before [] from e up h = refl
none_before (d ∷ ds) from e up h =
    let n : d ≢ e = (λ s. absurd (omega (arith, up.0))) in
    times_other d e ds n ∙ none_before ds (d + 1) e up.1 (omega (arith, up.0))

rises_later : (ds : List ℕ) (from : ℕ) → RisesFrom from ds → times ds from ≡ 0 → RisesFrom (from + 1) ds
rises_later [] from up none = tt
rises_later (d ∷ ds) from up none = (step (ℕ_discrete d from), up.1)
  where
    step : Dec (d ≡ from) → from + 1 ≤ d
    step (yes s) = absurd (omega (arith, ap (times (d ∷ ds)) s, times_same d ds))
    step (no n) = omega (arith, up.0, n)

-- the number that the list rises from is its first one, where it is there
first_is : (d from : ℕ) (ds : List ℕ) → RisesFrom from (d ∷ ds) → 1 ≤ times (d ∷ ds) from → d ≡ from
first_is d from ds up some = step (ℕ_discrete d from)
  where
    step : Dec (d ≡ from) → d ≡ from
    step (yes s) = s
    step (no n) = absurd (omega (arith, times_other d from ds n, none_before ds (d + 1) from up.1 (omega (arith, up.0))))

abbrev listed : ℕ → List ℕ → List DirHits
listed from xs = filter (λ row. nat_lt 0 (row.reads + row.writes)) (numbered from xs)

abbrev row : ℕ → ℕ → ℕ → DirHits
row dir reads writes = record { dir = dir; reads = reads; writes = writes }

kept : (from x y : ℕ) (xs : List ℕ) → 1 ≤ x + y → listed from (x ∷ y ∷ xs) ≡ row from x y ∷ listed (from + 1) xs
kept from x y xs h = let some : nat_lt 0 (x + y) ≡ true = grind (arith, nat_tests) in
    ap (λ (b : Bool). cond b (row from x y ∷ listed (from + 1) xs) (listed (from + 1) xs)) some

left_out : (from x y : ℕ) (xs : List ℕ) → x + y ≡ 0 → listed from (x ∷ y ∷ xs) ≡ listed (from + 1) xs
left_out from x y xs h = let none : nat_lt 0 (x + y) ≡ false = grind (arith, nat_tests) in
    ap (λ (b : Bool). cond b (row from x y ∷ listed (from + 1) xs) (listed (from + 1) xs)) none

-- none of the directories from this number on is in the list
unlisted : (from : ℕ) (ds : List ℕ) → RisesFrom from ds → ((i : ℕ) → times ds (from + i) ≡ 0) → ds ≡ []
unlisted from [] up noted = refl
unlisted from (d ∷ ds) up noted =
    let far : from + (d - from) ≡ d = omega (arith, up.0) in
    absurd (omega (arith, times_same d ds, ap (times (d ∷ ds)) far, noted (d - from)))

-- a rising list of the directories that have a count is that of the rows
pub rows_are : (xs : List ℕ) (from : ℕ) (ds : List ℕ) (of : ℕ → DirHits) → RisesFrom from ds
    → ((i : ℕ) → times ds (from + i) ≡ mark (at (pair_sums xs) i))
    → ((d k : ℕ) → k + (from + from) ≡ d + d → of d ≡ row d (at xs k) (at xs (suc k)))
    → map of ds ≡ listed from xs
rows_are [] from ds of up noted is = ap (map of) (unlisted from ds up noted)
rows_are (x ∷ []) from ds of up noted is = ap (map of) (unlisted from ds up noted)
rows_are (x ∷ y ∷ xs) from ds of up noted is = step
    (λ ds up noted. rows_are xs (from + 1) ds of up noted (λ d k e. is d (suc (suc k)) (omega arith))) ds up noted (ℕ_discrete (x + y) 0)
  where
    step : ((ds : List ℕ) → RisesFrom (from + 1) ds → ((i : ℕ) → times ds (from + 1 + i) ≡ mark (at (pair_sums xs) i)) → map of ds ≡ listed (from + 1) xs)
        → (ds : List ℕ) → RisesFrom from ds → ((i : ℕ) → times ds (from + i) ≡ mark (at ((x + y) ∷ pair_sums xs) i)) → Dec (x + y ≡ 0)
        → map of ds ≡ listed from (x ∷ y ∷ xs)
    step rest ds up noted (yes none) =
        rest ds (rises_later ds from up (ap (times ds) (omega arith) ∙ noted 0 ∙ ap mark none))
        (λ i. (let e : from + 1 + i ≡ from + suc i = omega arith in ap (times ds) e ∙ noted (suc i)))
        ∙ sym (left_out from x y xs none)
    step rest [] up noted (no some) = absurd (omega (arith, noted 0, mark_some (x + y) (omega arith)))
    step rest (d ∷ ds) up noted (no some) =
        let here : from ≡ from + 0 = omega arith in
        let once : times (d ∷ ds) from ≡ 1 = ap (times (d ∷ ds)) here ∙ noted 0 ∙ mark_some (x + y) (omega arith) in
        let first : d ≡ from = first_is d from ds up (omega arith) in
        let found : of d ≡ row from x y = is d 0 (omega arith) ∙ ap (λ (e : ℕ). row e x y) first in
        let tail : map of ds ≡ listed (from + 1) xs = rest ds (subst (λ (k : ℕ). RisesFrom (k + 1) ds) first up.1)
        (λ i. (let e : from + 1 + i ≡ from + suc i = omega arith in let n : d ≢ from + 1 + i = (λ s. absurd (omega arith)) in
        sym (times_other d (from + 1 + i) ds n) ∙ ap (times (d ∷ ds)) e ∙ noted (suc i))) in
        ap (λ (r : DirHits). r ∷ map of ds) found ∙ ap (λ (l : List DirHits). row from x y ∷ l) tail ∙ sym (kept from x y xs (omega arith))

sorted_tail : (d : ℕ) (ds : List ℕ) → IsNonDecreasing (d ∷ ds) → IsNonDecreasing ds
sorted_tail d ds up i j e le less = up (suc i) (suc j) e (omega arith) (omega arith)

pub sorted_rises : (ds : List ℕ) (from : ℕ) → IsNonDecreasing ds → ((e : ℕ) → times ds e ≤ 1) → ((j : ℕ) → j < length ds → from ≤ at ds j) → RisesFrom from ds
sorted_rises [] from up once above = tt
sorted_rises (d ∷ ds) from up once above = (
  above 0 (omega arith),
  sorted_rises ds (d + 1) (sorted_tail d ds up) (λ e. omega (arith, once e, times_more d e ds))
      (λ j less. later j less (ℕ_discrete d (at ds j))),
)
  where
    later : (j : ℕ) → j < length ds → Dec (d ≡ at ds j) → d + 1 ≤ at ds j
    later j less (yes s) = absurd (omega (arith, once d, times_same d ds, ap (times ds) s, times_at ds j less))
    later j less (no n) = omega (arith, up 0 (suc j) 0 (omega arith) (omega arith), n)

pub times-permutation : (xs ys : List ℕ) (d : ℕ) → IsPermutation xs ys → times ys d ≡ times xs d
times-permutation xs ys d p =
    is_count_by (λ (ds : List ℕ). times ds d) (λ x. x == d) refl (λ x xs. refl) ys ∙ sum_by-IsPermutation (λ x. cond (x == d) 1 0) xs ys p
    ∙ sym (is_count_by (λ (ds : List ℕ). times ds d) (λ x. x == d) refl (λ x xs. refl) xs)

-- the noted directories, in order
pub sorted_rows : (counts touched dirs : List ℕ) → IsTracked (pair_sums counts) touched → IsPermutation touched dirs → IsNonDecreasing dirs
    → map (dir_row counts) dirs ≡ counted_rows counts
sorted_rows counts touched dirs t p up =
    rows_are counts 0 dirs (dir_row counts)
    (sorted_rises dirs 0 up (λ e. omega (arith, times-permutation touched dirs e p, tracked_once (pair_sums counts) touched t e))
    (λ j less. omega arith))
    (λ i. (let e : 0 + i ≡ i = omega arith in ap (times dirs) e ∙ times-permutation touched dirs i p ∙ t.once i)) (λ d k e. read d k (omega arith))
  where
    read : (d k : ℕ) → d + d ≡ k → dir_row counts d ≡ row d (at counts k) (at counts (suc k))
    read d k e = let next : d + d + 1 ≡ suc k = omega arith in
        ap (λ (n : ℕ). row d (at counts n) (at counts (d + d + 1))) e ∙ ap (λ (n : ℕ). row d (at counts k) (at counts n)) next

raised_at : (front : List ℕ) (b : ℕ) (back : List ℕ) (k x : ℕ) → length front ≡ k → raised_by (front ++ b ∷ back) k x ≡ front ++ (b + x) ∷ back
raised_at front b back k x e = ap (λ (y : ℕ). set (front ++ b ∷ back) k (y + x)) (get_or_at front b back 0 k e) ∙ set_at front b back (b + x) k e

row_added : (front : List ℕ) (b c : ℕ) (back : List ℕ) (from x y : ℕ) → length front ≡ from + from
    → with_row (front ++ b ∷ c ∷ back) (row from x y) ≡ front ++ (b + x) ∷ (c + y) ∷ back
row_added front b c back from x y e =
    let long : length (front ++ (b + x) ∷ []) ≡ from + from + 1 = length_push front (b + x) ∙ ap (λ (n : ℕ). n + 1) e in
    ap (λ (l : List ℕ). raised_by l (from + from + 1) y) (raised_at front b (c ∷ back) (from + from) x e ∙ sym (append_assoc front ((b + x) ∷ []) (c ∷ back)))
    ∙ raised_at (front ++ (b + x) ∷ []) c back (from + from + 1) y long ∙ append_assoc front ((b + x) ∷ []) ((c + y) ∷ back)

-- rows that are added one by one add up to the sums
rows_add : (xs front back : List ℕ) (from n : ℕ) → length front ≡ from + from → length back ≡ length xs → length xs ≡ n + n
    → fold with_row (front ++ back) (listed from xs) ≡ front ++ sums back xs
rows_add [] front [] from n e f even = refl
rows_add [] front (b ∷ back) from n e f even = absurd (omega arith)
rows_add (x ∷ xs) front [] from n e f even = absurd (omega arith)
rows_add (x ∷ []) front (b ∷ back) from n e f even = absurd (omega arith)
rows_add (x ∷ y ∷ xs) front (b ∷ []) from n e f even = absurd (omega arith)
rows_add (x ∷ y ∷ xs) front (b ∷ c ∷ back) from zero e f even = absurd (omega arith)
rows_add (x ∷ y ∷ xs) front (b ∷ c ∷ back) from (suc n) e f even =
    let pair = (b + x) ∷ (c + y) ∷ [] in
    let long : length (front ++ pair) ≡ from + 1 + (from + 1) = omega (arith, length-append front pair) in
    let rest : fold with_row ((front ++ pair) ++ back) (listed (from + 1) xs) ≡ (front ++ pair)
    ++ sums back xs = rows_add xs (front ++ pair) back (from + 1) n long (omega arith) (omega arith) in
    step (ℕ_discrete (x + y) 0) ∙ ap (λ (l : List ℕ). fold with_row l (listed (from + 1) xs)) (sym (append_assoc front pair back)) ∙ rest
    ∙ append_assoc front pair (sums back xs)
  where
    step : Dec (x + y ≡ 0) → fold with_row (front ++ b ∷ c ∷ back) (listed from (x ∷ y ∷ xs))
        ≡ fold with_row (front ++ (b + x) ∷ (c + y) ∷ back) (listed (from + 1) xs)
    step (yes none) =
        let same_reads : b ≡ b + x = omega arith in
        let same_writes : c ≡ c + y = omega arith in
        ap (fold with_row (front ++ b ∷ c ∷ back)) (left_out from x y xs none)
        ∙ ap (λ (k : ℕ). fold with_row (front ++ k ∷ c ∷ back) (listed (from + 1) xs)) same_reads
        ∙ ap (λ (k : ℕ). fold with_row (front ++ (b + x) ∷ k ∷ back) (listed (from + 1) xs)) same_writes
    step (no some) = ap (fold with_row (front ++ b ∷ c ∷ back)) (kept from x y xs (omega arith))
        ∙ ap (λ (l : List ℕ). fold with_row l (listed (from + 1) xs)) (row_added front b c back from x y e)

pub rows_add_up : (counts counted : List ℕ) (n : ℕ) → length counts ≡ n + n → length counted ≡ length counts
    → fold with_row counted (counted_rows counts) ≡ sums counted counts
rows_add_up counts counted n even e = rows_add counts [] counted 0 n refl e even
