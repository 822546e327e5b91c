-- Where the walk starts, where it ends, and what it shows of divisions within the bound.
use Rattle.std.proofs.Common.{◌≡◌, ◌≢◌, ◌∙◌, ℕ, zero, suc, ◌+◌, ◌-◌, ◌*◌, ◌<◌, ◌≤◌, ◌^◌, Bool, true}
use Rattle.std.proofs.Common.{false, cond, ◌&&◌, leb, List, length, slice_index_or, get_or, map, refl, ap, sym, arith, ⊎_elim}
use Rattle.std.proofs.lemmas.Bool.{cases_Bool, cases_eq, cases_lt, le-leb, lt-leb, false≢true}
use Rattle.std.proofs.Math.ListN.{get_or-map, length-map}
use Rattle.std.proofs.lemmas.List.{get_or_default}
use Rattle.mds_types.specs.declared.problem.ProblemRow.{ProblemRow}
use Rattle.mds_types.specs.declared.cut_proof.Row.{Row}
use Rattle.mds_types.specs.Problem.{IsForest, parent_at, heat_at, no_row}
use Rattle.mds_types.specs.Sums.{sum_below, count_below}
use Rattle.mds_types.specs.Division.{NeedsMore}
use Rattle.mds_types.specs.CutTable.{is_child, cuts_at, rest_at, price_at, is_cut_at, no_cut, IsCutTable, sum_of_children}
use Rattle.mds_types.proofs.SumsLemmas.{sum_below-zero, sum_below-same, sum_below-le, sum_below-two, sum_below_more}
use Rattle.mds_types.proofs.SumsLemmas.{count_below-le, sum_from, sum_from-same, sum_below-split}
use Rattle.mds_types.proofs.Fewest.{Table}
use Rattle.mds_types.proofs.DivisionLemmas.{part_count-from}
use Rattle.residual_cut.specs.Walk.{is_handled, IsWalked, IsGivenRow, first_row}
use Rattle.residual_cut.proofs.WalkLemmas.{IsGiven, child_above, child_parent, handled_parts, give_to_parent}

-- no row past the last is handled
pub nothing_handled : (rows : List ProblemRow) (f : ℕ → ℕ) (v : ℕ)
    → sum_below (length rows) (λ j. cond (is_handled rows (length rows) v j) (f j) 0) ≡ 0
nothing_handled rows f v =
    sum_below-zero (length rows) (λ j. cond (is_handled rows (length rows) v j) (f j) 0)
    (λ j l. rw (lt-leb (length rows) j l) refl)

-- at first each row has its own heat, and nothing is cut
pub walk_start :
    (rows : List ProblemRow) (table : List Row) (bound : ℕ) → length table ≡ length rows
    → ((v : ℕ) → slice_index_or table v no_cut ≡ first_row (heat_at rows v)) → IsWalked rows table bound (length rows) (length rows)
walk_start rows table bound size first = record {
  size = size;
  walk = record {
    rest_is = λ v l. omega (
      arith,
      ap (λ (row : Row). row.rest) (first v),
      nothing_handled rows (λ j. cond (is_cut_at table j) 0 (rest_at table j)) v,
    );
    cuts_is = λ v l. omega (
      arith,
      ap (λ (row : Row). row.cuts) (first v),
      nothing_handled rows (λ j. cuts_at table j + cond (is_cut_at table j) 1 0) v,
    );
    kept = λ v j l handled _. absurd (omega (arith, (handled_parts rows (length rows) v j handled).0));
    taken = λ v j l child taken. absurd (false≢true (sym (ap (λ (row : Row). row.cut) (first j)) ∙ taken));
    full = λ v j l child taken. absurd (false≢true (sym (ap (λ (row : Row). row.cut) (first j)) ∙ taken));
    top = ap (λ (row : Row). row.cut) (first 0);
    uncut = λ j l before. ap (λ (row : Row). row.cut) (first j);
    within = λ v le l. absurd (omega arith);
    counted = omega (
      arith,
      sum_below-zero (length rows) (cuts_at table) (λ v l. ap (λ (row : Row). row.cuts) (first v)),
      sum_below-zero (length rows) (λ v. cond (is_cut_at table v) 1 0) (λ v l. rw (ap (λ (row : Row). row.cut) (first v)) refl),
    );
    gathered = sum_below-le (length rows) (rest_at table) (heat_at rows) (λ v l. omega (arith, ap (λ (row : Row). row.rest) (first v)));
  };
}

pub first_rows :
    (rows : List ProblemRow) (table : List Row) → table ≡ map (λ (row : ProblemRow). first_row row.heat) rows
    → (v : ℕ) → slice_index_or table v no_cut ≡ first_row (heat_at rows v)
first_rows rows table is v =
    ap (λ xs. slice_index_or xs v no_cut) is ∙ get_or-map (λ (row : ProblemRow). first_row row.heat) rows v no_row

pub heats_le : (rows : List ProblemRow) → IsForest rows → (n : ℕ) → n ≤ length rows → sum_below n (heat_at rows) ≤ n * 2 ^ 40
heats_le rows forest zero le = omega arith
heats_le rows forest (suc n) le = omega (arith, heats_le rows forest n (omega arith), forest.cool n (omega arith))

-- what is left at a row and at its parent fits
pub rests_fit :
    (rows : List ProblemRow) (table : List Row) (bound m s p i : ℕ) → IsForest rows → p < i → i < m
    → IsWalked rows table bound m s → rest_at table p + rest_at table i ≤ 2 ^ 56
rests_fit rows table bound m s p i forest before l is =
    omega (
      arith,
      sum_below-two m p i (rest_at table) before l,
      is.walk.gathered,
      heats_le rows forest (length rows) (omega arith),
      forest.few,
    )

pub cuts_fit :
    (rows : List ProblemRow) (table : List Row) (bound m s p i : ℕ) → p < i → i < m
    → IsWalked rows table bound m s → cuts_at table p + cuts_at table i ≤ length rows
cuts_fit rows table bound m s p i before l is =
    omega (
      arith,
      sum_below-two m p i (cuts_at table) before l,
      is.walk.counted,
      count_below-le (length rows) (is_cut_at table),
    )

-- row i has given what is left of it to its parent
pub walk_given :
    (rows : List ProblemRow) (table table2 : List Row) (bound i parent : ℕ) → IsForest rows → i < length rows → 0 < i
    → parent ≡ parent_at rows i → rest_at table i ≤ bound → length table2 ≡ length table → IsGivenRow table table2 parent i
    → IsWalked rows table bound (i + 1) i → IsWalked rows table2 bound i i
walk_given rows table table2 bound i parent forest here deep parent_is fits size given is =
    let change : IsGiven (cuts_at table) (rest_at table) (price_at table) (cuts_at table2) (rest_at table2) (price_at table2)
    (is_cut_at table) (is_cut_at table2) parent i = record {
      cuts_here = ap (λ (row : Row). row.cuts) given.here;
      cuts_other = λ v other. ap (λ (row : Row). row.cuts) (given.other v other);
      rest_here = ap (λ (row : Row). row.rest) given.here;
      rest_other = λ v other. ap (λ (row : Row). row.rest) (given.other v other);
      price_up = omega (arith, ap (λ (row : Row). row.price) given.here);
      price_here = omega (arith, ap (λ (row : Row). row.price) given.here);
      price_other = λ v other. ap (λ (row : Row). row.price) (given.other v other);
      cut_other = λ v.
          ⊎_elim (λ (same : v ≡ parent). rw same (ap (λ (row : Row). row.cut) given.here))
          (λ (other : v ≢ parent). ap (λ (row : Row). row.cut) (given.other v other))
          (cases_eq v parent);
    } in
    record {
      size = size ∙ is.size;
      walk = give_to_parent rows forest bound (cuts_at table) (rest_at table) (price_at table) (cuts_at table2) (rest_at table2)
          (price_at table2) (is_cut_at table) (is_cut_at table2) i parent here deep parent_is fits change is.walk;
    }

-- from row i on, what is handled is what is a child
handled_child : (rows : List ProblemRow) (i v j : ℕ) → IsForest rows → i ≤ v → j < length rows
    → is_handled rows (i + 1) v j ≡ is_child rows v j
handled_child rows i v j forest le l =
    ⊎_elim
    (λ (child : is_child rows v j ≡ true).
    rw (le-leb (i + 1) j (let up = child_above rows forest v j l child in omega arith)) refl)
    (λ (other : is_child rows v j ≡ false). rw other (always_false (leb (i + 1) j)))
    (cases_Bool (is_child rows v j))
  where
    always_false : (b : Bool) → (b && false) ≡ false
    always_false true = refl
    always_false false = refl

pub handled_sum : (rows : List ProblemRow) (i v : ℕ) (f : ℕ → ℕ) → IsForest rows → i ≤ v
    → sum_below (length rows) (λ j. cond (is_handled rows (i + 1) v j) (f j) 0) ≡ sum_of_children rows v f
handled_sum rows i v f forest le =
    sum_below-same (length rows) (λ j. cond (is_handled rows (i + 1) v j) (f j) 0) (λ j. cond (is_child rows v j) (f j) 0)
    (λ j l. ap (λ b. cond b (f j) 0) (handled_child rows i v j forest le l))

-- the sum over the handled children is that over the children from there on
handled_from_sum : (rows : List ProblemRow) (i d v : ℕ) (f : ℕ → ℕ) → length rows ≡ suc i + d
    → sum_below (length rows) (λ j. cond (is_handled rows (i + 1) v j) (f j) 0)
    ≡ sum_from d (suc i) (λ j. cond (is_child rows v j) (f j) 0)
handled_from_sum rows i d v f size =
    let none : sum_below (suc i) (λ j. cond (is_handled rows (i + 1) v j) (f j) 0) ≡ 0 =
    sum_below-zero (suc i) (λ j. cond (is_handled rows (i + 1) v j) (f j) 0)
    (λ j l. rw (lt-leb (i + 1) j (omega arith)) refl) in
    let same = sum_from-same d (suc i) (λ j. cond (is_handled rows (i + 1) v j) (f j) 0) (λ j. cond (is_child rows v j) (f j) 0)
    (λ j le. rw (le-leb (i + 1) j (omega arith)) refl) in
    omega (arith, none, same, sum_below-split d (suc i) (length rows) (λ j. cond (is_handled rows (i + 1) v j) (f j) 0) size)

-- a walk that has cut from row i shows that each division within the bound has more parts than it has cuts
pub needs_more :
    (rows : List ProblemRow) (table : List Row) (bound i count : ℕ) → IsForest rows → i < length rows
    → count ≤ count_below (length rows) (is_cut_at table)
    → IsWalked rows table bound (i + 1) i → NeedsMore rows count bound
needs_more rows table bound i count forest here enough is k label division within =
    let d = length rows - suc i in
    let size : length rows ≡ suc i + d = omega arith in
    let known : Table i (length rows) (parent_at rows) (heat_at rows) (cuts_at table) (rest_at table) (price_at table)
    (is_cut_at table) bound = record {
      above = forest.above;
      rest_is = λ v le l. omega (
        arith,
        is.walk.rest_is v l,
        handled_sum rows i v (λ j. cond (is_cut_at table j) 0 (rest_at table j)) forest le,
      );
      cuts_is = λ v le l. omega (
        arith,
        is.walk.cuts_is v l,
        handled_sum rows i v (λ j. cuts_at table j + cond (is_cut_at table j) 1 0) forest le,
      );
      kept = λ v j le lv lj child free. is.walk.kept v j lj (handled_child rows i v j forest le lj ∙ child) free;
      taken = λ v j le lv lj child cut. is.walk.taken v j lj child cut;
      full = λ v j le lv lj child cut. is.walk.full v j lj child cut;
    } in
    let inner : (v : ℕ) → v < i → cuts_at table v ≤ sum_from d (suc i) (λ j. cond (is_child rows v j) (cuts_at table j) 0) =
    λ v l.
    omega (
      arith,
      is.walk.cuts_is v (omega arith),
      sum_below-same (length rows)
          (λ j. cond (is_handled rows (i + 1) v j) (cuts_at table j + cond (is_cut_at table j) 1 0) 0)
          (λ j. cond (is_handled rows (i + 1) v j) (cuts_at table j) 0)
          (λ j lj.
          ⊎_elim
          (λ (handled : is_handled rows (i + 1) v j ≡ true).
          let free = is.walk.uncut j lj (omega (arith, child_parent rows v j (handled_parts rows (i + 1) v j handled).1)) in
          rw (handled, free) (omega arith))
          (λ (other : is_handled rows (i + 1) v j ≡ false). rw other refl)
          (cases_Bool (is_handled rows (i + 1) v j))),
      handled_from_sum rows i d v (cuts_at table) size,
    ) in
    let more = part_count-from rows (cuts_at table) (rest_at table) (price_at table) (is_cut_at table) bound i d k label forest
    size known inner division within in
    omega (arith, more, is.walk.counted, sum_below_more i (cuts_at table))

-- at the root the walk's table is a table against the bound
pub walk_end :
    (rows : List ProblemRow) (table : List Row) (bound : ℕ) → IsForest rows → 0 < length rows
    → ((v : ℕ) → v < length rows → heat_at rows v ≤ bound) → rest_at table 0 ≤ bound
    → IsWalked rows table bound 1 0 → IsCutTable rows table bound
walk_end rows table bound forest some cool root is = record {
  size = is.size;
  top = is.walk.top;
  each = λ i l. record {
    heat = cool i l;
    rest_is = omega (
      arith,
      is.walk.rest_is i l,
      handled_sum rows 0 i (λ j. cond (is_cut_at table j) 0 (rest_at table j)) forest (omega arith),
    );
    rest_within =
        ⊎_elim (λ (deep : 0 < i). is.walk.within i (omega arith) l)
        (λ (top : i ≤ 0). (let zero_is : i ≡ 0 = omega arith in rw zero_is root))
        (cases_lt 0 i);
    cuts_is = omega (
      arith,
      is.walk.cuts_is i l,
      handled_sum rows 0 i (λ j. cuts_at table j + cond (is_cut_at table j) 1 0) forest (omega arith),
    );
    kept = λ j child. is.walk.kept i j child.inside (handled_child rows 0 i j forest (omega arith) child.inside ∙ child.child) child.cut_is;
    cut = λ j child. is.walk.taken i j child.inside child.child child.cut_is;
    full = λ j child. is.walk.full i j child.inside child.child child.cut_is;
  };
}

pub walk_count :
    (rows : List ProblemRow) (table : List Row) (bound s : ℕ) → IsWalked rows table bound 1 s
    → cuts_at table 0 ≡ count_below (length rows) (is_cut_at table)
walk_count rows table bound s is = omega (arith, is.walk.counted)

-- the parent of row i, as it is read
pub parent_read : (rows : List ProblemRow) (i : ℕ) (row : ProblemRow) → i < length rows
    → (get_or rows i row).parent ≡ parent_at rows i
parent_read rows i row l = ap (λ (r : ProblemRow). r.parent) (get_or_default rows i row no_row l)

-- nothing more is cut where a row gives what is left of it
pub given_count : (rows : List ProblemRow) (table table2 : List Row) (parent i : ℕ) → IsGivenRow table table2 parent i
    → count_below (length rows) (is_cut_at table2) ≡ count_below (length rows) (is_cut_at table)
given_count rows table table2 parent i given =
    sum_below-same (length rows) (λ v. cond (is_cut_at table2 v) 1 0) (λ v. cond (is_cut_at table v) 1 0)
    (λ v l. ap (λ b. cond b 1 0)
    (⊎_elim (λ (same : v ≡ parent). rw same (ap (λ (row : Row). row.cut) given.here))
    (λ (other : v ≢ parent). ap (λ (row : Row). row.cut) (given.other v other))
    (cases_eq v parent)))

-- the first table
pub first_walked :
    (rows : List ProblemRow) (table : List Row) (bound : ℕ) → table ≡ map (λ (row : ProblemRow). first_row row.heat) rows
    → IsWalked rows table bound (length rows) (length rows)
first_walked rows table bound is =
    walk_start rows table bound (ap length is ∙ simp length-map) (first_rows rows table is)

pub first_uncut :
    (rows : List ProblemRow) (table : List Row) → ((v : ℕ) → slice_index_or table v no_cut ≡ first_row (heat_at rows v))
    → count_below (length rows) (is_cut_at table) ≡ 0
first_uncut rows table first =
    sum_below-zero (length rows) (λ v. cond (is_cut_at table v) 1 0)
    (λ v l. rw (ap (λ (row : Row). row.cut) (first v)) refl)
