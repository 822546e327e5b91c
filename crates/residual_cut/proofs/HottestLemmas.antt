-- The hottest children of a row, as they are met and as they are cut.
use Rattle.std.proofs.Common.{◌≡◌, ◌≢◌, ◌∙◌, ℕ, zero, suc, ◌+◌, ◌-◌, ◌<◌, ◌≤◌, Bool, true, false}
use Rattle.std.proofs.Common.{cond, ◌&&◌, not, eqb, ltb, List, [], ◌∷◌, ◌++◌, take, drop, length, length-append}
use Rattle.std.proofs.Common.{All, get_or, nat_cmp, is_lt, IsPermutation, refl, ap, sym, arith, ⊎_elim, subst}
use Rattle.std.proofs.lemmas.Bool.{cases_Bool, cases_eq, cases_lt, and_parts, ltb-true, not-true, eq-eqb, ne_eqb, false≢true}
use Rattle.std.proofs.lemmas.List.Sums.{sum_by_push, sum_by-append}
use Rattle.std.proofs.lemmas.List.Elements.{All-push, All-cons, All-nil, All-head, All-tail, All-from_recursion, All-take, All-drop}
use Rattle.std.proofs.lemmas.List.{length-drop, length-take, get_or-drop, get_or-take, append-nil, length-take-le, take-append-drop}
use Rattle.std.proofs.Math.Seq.{take-append_seam, drop-append_seam}
use Rattle.std.proofs.lemmas.List.Sorted.{sum_by_popped, sum_by-IsPermutation, All-permutation, length_permutation, IsPermutation-refl}
use Rattle.std.specs.BinaryHeap.{IsUpperBound}
use Rattle.mds_types.specs.declared.problem.ProblemRow.{ProblemRow}
use Rattle.mds_types.specs.CutTable.{is_child}
use Rattle.residual_cut.specs.declared.child.Child.{Child}
use Rattle.residual_cut.specs.declared.hottest.Hottest.{Hottest}
use Rattle.residual_cut.specs.Heap.{row_count}
use Rattle.residual_cut.specs.Hottest.{AreHottest, CanMeet, IsMet}
use Rattle.residual_cut.specs.Links.{IsNextChild}
use Rattle.mds_types.specs.Problem.{IsForest}
use Rattle.residual_cut.proofs.WalkLemmas.{child_above}
use Rattle.residual_cut.proofs.HeapLemmas.{IsPopped, child_cmp, is_before, before_from, not_before, never, once, same_test, find, cond_one, not_above}

All-left : (P : Child → Type 0) (xs ys : List Child) → All P (xs ++ ys) → All P xs
All-left P xs ys all = rw take-append_seam at (All-take P (length xs) (xs ++ ys) all)

All-right : (P : Child → Type 0) (xs ys : List Child) → All P (xs ++ ys) → All P ys
All-right P xs ys all = rw drop-append_seam at (All-drop P (length xs) (xs ++ ys) all)

-- before the first child none is met
pub hottest_none :
    (rows : List ProblemRow) (rest : ℕ → ℕ) (i k most : ℕ) → IsNextChild rows i 0 k
    → AreHottest rows rest (is_before k) i most 0 []
hottest_none rows rest i k most next = record {
  each = λ j. omega arith;
  rests = All-nil (λ (child : Child). child.rest ≡ rest child.row.0);
  after = All-nil (λ (child : Child). (i < child.row.0) × (child.row.0 < length rows));
  above = All-nil (λ (child : Child). 0 ≤ child.rest);
  left_out = λ j l child before none.
      (let deep = (and_parts (ltb 0 j) _ child).0 in
      let found = next.first j (ltb-true 0 j deep) l child in
      absurd (false≢true (sym (not_before k j found.0 found.1) ∙ before)));
}

both_all : (rest : ℕ → ℕ) (floor : ℕ) (children : List Child) → All (λ (y : Child). y.rest ≡ rest y.row.0) children
    → All (λ (y : Child). y.rest ≤ floor) children → All (λ (y : Child). (y.rest ≡ rest y.row.0) × (y.rest ≤ floor)) children
both_all rest floor children a b = λ n d l. (a n d l, b n d l)

some_there : (j : ℕ) (children : List Child) → 0 < row_count j children → 0 < length children
some_there j [] more = absurd (omega arith)
some_there j (y ∷ children) more = omega arith

simp_length : (xs : List Child) (x : Child) → length (xs ++ x ∷ []) ≡ length xs + 1
simp_length xs x = simp length-append refl

append_length : (xs ys : List Child) → length (xs ++ ys) ≡ length xs + length ys
append_length xs ys = simp length-append refl

still_enough : (old new : Hottest) (x : Child) (most : ℕ) → IsMet old new x most → most ≤ length old.children.items
    → most ≤ length new.children.items
still_enough old new x most met enough =
    ⊎_elim (λ (lost : 0 < length met.forgotten). met.enough lost)
    (λ (none : length met.forgotten ≤ 0).
    omega (
      arith,
      length_permutation (old.children.items ++ x ∷ []) (new.children.items ++ met.forgotten) met.same,
      simp_length old.children.items x,
      append_length new.children.items met.forgotten,
    ))
    (cases_lt 0 (length met.forgotten))

-- two tests that agree on the row's children
pub hottest_retest :
    (rows : List ProblemRow) (rest : ℕ → ℕ) (test test2 : ℕ → Bool) (i most floor : ℕ) (children : List Child)
    → ((j : ℕ) → j < length rows → is_child rows i j ≡ true → test j ≡ test2 j)
    → AreHottest rows rest test i most floor children → AreHottest rows rest test2 i most floor children
hottest_retest rows rest test test2 i most floor children agree are = record {
  each = λ j. omega (arith, are.each j, same_test rows i j (test j) (test2 j) (agree j));
  rests = are.rests;
  after = are.after;
  above = are.above;
  left_out = λ j l child is out. are.left_out j l child (agree j l child ∙ is) out;
}

-- one more child is met, which passes the test from now on
pub hottest_more :
    (rows : List ProblemRow) (rest : ℕ → ℕ) (test test2 : ℕ → Bool) (i k most : ℕ) (old new : Hottest) (x : Child) → k < length rows
    → is_child rows i k ≡ true → i < k → x.row.0 ≡ k → x.rest ≡ rest k → test k ≡ false → test2 k ≡ true
    → ((j : ℕ) → j < length rows → is_child rows i j ≡ true → j ≢ k → test j ≡ test2 j)
    → IsMet old new x most → AreHottest rows rest test i most old.floor old.children.items
    → AreHottest rows rest test2 i most new.floor new.children.items
hottest_more rows rest test test2 i k most old new x l child above row_is rest_is was_out now_in agree met are =
    let all = old.children.items ++ x ∷ [] in
    let both = new.children.items ++ met.forgotten in
    let count : (j : ℕ) → row_count j old.children.items + cond (eqb x.row.0 j) 1 0
    ≡ row_count j new.children.items + row_count j met.forgotten = λ j.
    omega (
      arith,
      sum_by_push (λ (y : Child). cond (eqb y.row.0 j) 1 0) old.children.items x,
      sum_by-IsPermutation (λ (y : Child). cond (eqb y.row.0 j) 1 0) all both met.same,
      sum_by-append (λ (y : Child). cond (eqb y.row.0 j) 1 0) new.children.items met.forgotten,
    ) in
    let rests : All (λ (y : Child). y.rest ≡ rest y.row.0) both =
    All-permutation (λ (y : Child). y.rest ≡ rest y.row.0) all both met.same
    (All-push (λ (y : Child). y.rest ≡ rest y.row.0) old.children.items x are.rests (rest_is ∙ sym (ap rest row_is))) in
    let after : All (λ (y : Child). (i < y.row.0) × (y.row.0 < length rows)) both =
    All-permutation (λ (y : Child). (i < y.row.0) × (y.row.0 < length rows)) all both met.same
    (All-push (λ (y : Child). (i < y.row.0) × (y.row.0 < length rows)) old.children.items x are.after
    (omega (arith, above, row_is), omega (arith, l, row_is))) in
    record {
      each = λ j.
          ⊎_elim
          (λ (this : j ≡ k).
          let is_it : eqb x.row.0 j ≡ true = eq-eqb x.row.0 j (row_is ∙ sym this) in
          let counted = rw is_it at (count j) in
          let is : is_child rows i j ≡ true = ap (λ y. is_child rows i y) this ∙ child in
          let was = never rows i j (test j) (λ _ _. ap test this ∙ was_out) in
          let now = once rows i j (test2 j) (omega arith) is (ap test2 this ∙ now_in) in
          omega (arith, counted, was, now, are.each j))
          (λ (another : j ≢ k).
          let is_not : eqb x.row.0 j ≡ false = ne_eqb x.row.0 j (λ same. another (sym same ∙ row_is)) in
          let counted = rw is_not at (count j) in
          let same = same_test rows i j (test j) (test2 j) (λ lj is. agree j lj is another) in
          omega (arith, counted, same, are.each j))
          (cases_eq j k);
      rests = All-left (λ (y : Child). y.rest ≡ rest y.row.0) new.children.items met.forgotten rests;
      after = All-left (λ (y : Child). (i < y.row.0) × (y.row.0 < length rows)) new.children.items met.forgotten after;
      above = met.kept.above;
      left_out = λ j lj is passes none.
          ⊎_elim
          (λ (lost : 0 < row_count j met.forgotten).
          let (z, cool, row_z) = find j (λ (y : Child). (y.rest ≡ rest y.row.0) × (y.rest ≤ new.floor)) met.forgotten
          (both_all rest new.floor met.forgotten
          (All-right (λ (y : Child). y.rest ≡ rest y.row.0) new.children.items met.forgotten rests) met.cooler) lost in
          (omega (arith, cool.0, cool.1, ap rest row_z), met.enough (some_there j met.forgotten lost)))
          (λ (kept : row_count j met.forgotten ≤ 0).
          let counted = count j in
          ⊎_elim
          (λ (this : j ≡ k).
          let is_it : eqb x.row.0 j ≡ true = eq-eqb x.row.0 j (row_is ∙ sym this) in
          let more = rw is_it at counted in
          absurd (omega (arith, more, none)))
          (λ (another : j ≢ k).
          let was = are.left_out j lj is (agree j lj is another ∙ passes) (omega (arith, counted, none)) in (
            omega (arith, was.0, met.up),
            still_enough old new x most met was.1,
          ))
          (cases_eq j k))
          (cases_lt 0 (row_count j met.forgotten));
    }

-- a child but k comes before the next one where it comes before k
pub next_before :
    (rows : List ProblemRow) (i k k2 : ℕ) → 0 < k → IsNextChild rows i k k2 → (j : ℕ) → j < length rows → is_child rows i j ≡ true
    → j ≢ k → is_before k j ≡ is_before k2 j
next_before rows i k k2 some next j l child another =
    ⊎_elim
    (λ (below : j < k).
    before_from k j (λ _. below) ∙ sym (before_from k2 j (λ more. (let up = next.after more in omega arith))))
    (λ (past : k ≤ j).
    let found = next.first j (omega arith) l child in
    not_before k j some past ∙ sym (not_before k2 j found.0 found.1))
    (cases_lt j k)

pub not_yet : (k : ℕ) → 0 < k → is_before k k ≡ false
not_yet k some = not_before k k some (omega arith)

pub from_now : (rows : List ProblemRow) (i k k2 : ℕ) → IsNextChild rows i k k2 → is_before k2 k ≡ true
from_now rows i k k2 next = before_from k2 k next.after

-- the children before row k that are not cut
abbrev pub free_before : (ℕ → Bool) → ℕ → ℕ → Bool
free_before cut k j = is_before k j && not (cut j)

pub free_none :
    (rows : List ProblemRow) (rest : ℕ → ℕ) (cut : ℕ → Bool) (i k most : ℕ) → IsNextChild rows i 0 k
    → AreHottest rows rest (free_before cut k) i most 0 []
free_none rows rest cut i k most next = record {
  each = λ j. omega arith;
  rests = All-nil (λ (child : Child). child.rest ≡ rest child.row.0);
  after = All-nil (λ (child : Child). (i < child.row.0) × (child.row.0 < length rows));
  above = All-nil (λ (child : Child). 0 ≤ child.rest);
  left_out = λ j l child before none.
      (let deep = (and_parts (ltb 0 j) _ child).0 in
      let found = next.first j (ltb-true 0 j deep) l child in
      absurd (false≢true (sym (not_before k j found.0 found.1) ∙ (and_parts (is_before k j) (not (cut j)) before).0)));
}

-- a child that isn't cut is met, or one that is cut is passed over
pub free_more :
    (rows : List ProblemRow) (rest : ℕ → ℕ) (cut : ℕ → Bool) (i k k2 most : ℕ) (old new : Hottest) (x : Child) → 0 < k → k < length rows
    → is_child rows i k ≡ true → i < k → x.row.0 ≡ k → x.rest ≡ rest k → IsNextChild rows i k k2
    → (cut k ≡ false → IsMet old new x most) → (cut k ≡ true → new ≡ old)
    → AreHottest rows rest (free_before cut k) i most old.floor old.children.items
    → AreHottest rows rest (free_before cut k2) i most new.floor new.children.items
free_more rows rest cut i k k2 most old new x some l child above row_is rest_is next met same are =
    ⊎_elim
    (λ (taken : cut k ≡ true).
    let P : Hottest → Type 0 = λ h. AreHottest rows rest (free_before cut k2) i most h.floor h.children.items in
    subst P (sym (same taken))
    (hottest_retest rows rest (free_before cut k) (free_before cut k2) i most old.floor old.children.items
    (λ j lj is.
    ⊎_elim (λ (this : j ≡ k). rw (this, taken) (never_both (is_before k k) (is_before k2 k)))
    (λ (another : j ≢ k). ap (λ b. b && not (cut j)) (next_before rows i k k2 some next j lj is another))
    (cases_eq j k))
    are))
    (λ (free : cut k ≡ false).
    hottest_more rows rest (free_before cut k) (free_before cut k2) i k most old new x l child above row_is rest_is
    (rw (not_yet k some) refl) (rw (from_now rows i k k2 next, free) refl)
    (λ j lj is another. ap (λ b. b && not (cut j)) (next_before rows i k k2 some next j lj is another))
    (met free) are)
    (cases_Bool (cut k))
  where
    never_both : (b c : Bool) → (b && false) ≡ (c && false)
    never_both true true = refl
    never_both true false = refl
    never_both false true = refl
    never_both false false = refl

-- the children in another order
pub hottest_moved :
    (rows : List ProblemRow) (rest : ℕ → ℕ) (test : ℕ → Bool) (i most floor : ℕ) (children moved : List Child)
    → IsPermutation children moved → AreHottest rows rest test i most floor children → AreHottest rows rest test i most floor moved
hottest_moved rows rest test i most floor children moved same are = record {
  each = λ j. omega (
    arith,
    sum_by-IsPermutation (λ (y : Child). cond (eqb y.row.0 j) 1 0) children moved same,
    are.each j,
  );
  rests = All-permutation (λ (y : Child). y.rest ≡ rest y.row.0) children moved same are.rests;
  after = All-permutation (λ (y : Child). (i < y.row.0) × (y.row.0 < length rows)) children moved same are.after;
  above = All-permutation (λ (y : Child). floor ≤ y.rest) children moved same are.above;
  left_out = λ j l child passes out.
      (let was = are.left_out j l child passes
      (sym (sum_by-IsPermutation (λ (y : Child). cond (eqb y.row.0 j) 1 0) children moved same) ∙ out) in
      (was.0, omega (arith, was.1, length_permutation children moved same)));
}

-- rests that are the same at the row's children
pub hottest_same :
    (rows : List ProblemRow) (rest rest2 : ℕ → ℕ) (test : ℕ → Bool) (i most floor : ℕ) (children : List Child) → IsForest rows
    → ((j : ℕ) → i < j → j < length rows → rest2 j ≡ rest j)
    → AreHottest rows rest test i most floor children → AreHottest rows rest2 test i most floor children
hottest_same rows rest rest2 test i most floor children forest same are = record {
  each = are.each;
  rests = λ k d l. (let inside = are.after k d l in
      are.rests k d l ∙ sym (same (get_or children k d).row.0 inside.0 inside.1));
  after = are.after;
  above = are.above;
  left_out = λ j l child is out.
      (let was = are.left_out j l child is out in
      (omega (arith, was.0, same j (child_above rows forest i j l child) l), was.1));
}

-- the children in another order, at a row none of whose children is cut
pub hottest_free :
    (rows : List ProblemRow) (rest : ℕ → ℕ) (cut : ℕ → Bool) (i most floor : ℕ) (children moved : List Child)
    → ((j : ℕ) → j < length rows → is_child rows i j ≡ true → cut j ≡ false) → IsPermutation children moved
    → AreHottest rows rest (λ _. true) i most floor children → AreHottest rows rest (λ j. not (cut j)) i most floor moved
hottest_free rows rest cut i most floor children moved free same are =
    hottest_moved rows rest (λ j. not (cut j)) i most floor children moved same
    (hottest_retest rows rest (λ _. true) (λ j. not (cut j)) i most floor children (λ j l child. rw (free j l child) refl) are)

-- what comes out of the heap is one of the children that aren't cut, and no other of these has more
pub hottest_popped :
    (rows : List ProblemRow) (rest : ℕ → ℕ) (cut : ℕ → Bool) (i most floor : ℕ) (children left : List Child) (x : Child)
    → AreHottest rows rest (λ j. not (cut j)) i most floor children → IsPermutation children (x ∷ left)
    → IsUpperBound child_cmp x children → IsPopped rows rest cut i x
hottest_popped rows rest cut i most floor children left x are moved upper =
    let taken = sum_by_popped (λ (y : Child). cond (eqb y.row.0 x.row.0) 1 0) x children left moved in
    let own : eqb x.row.0 x.row.0 ≡ true = eq-eqb x.row.0 x.row.0 refl in
    let counted = rw own at taken in
    let all = and_parts (ltb x.row.0 (length rows)) (is_child rows i x.row.0 && not (cut x.row.0))
    (cond_one (ltb x.row.0 (length rows) && (is_child rows i x.row.0 && not (cut x.row.0))) (omega (arith, counted, are.each x.row.0))) in
    let parts = and_parts (is_child rows i x.row.0) (not (cut x.row.0)) all.1 in
    let rests = All-permutation (λ (y : Child). y.rest ≡ rest y.row.0) children (x ∷ left) moved are.rests in
    let rest_is = All-head (λ (y : Child). y.rest ≡ rest y.row.0) x left rests in
    let above = All-head (λ (y : Child). floor ≤ y.rest) x left
    (All-permutation (λ (y : Child). floor ≤ y.rest) children (x ∷ left) moved are.above) in
    let Both : Child → Type 0 = λ y. (y.rest ≡ rest y.row.0) × (y.rest ≤ x.rest) in
    let upper_all = All-from_recursion (λ (y : Child). is_lt (child_cmp x y) ≡ false) children upper in
    let both : All Both children = λ k d l.
    (are.rests k d l, not_above x.rest (get_or children k d).rest (nat_cmp (get_or children k d).row.0 x.row.0) (upper_all k d l)) in
    record {
      inside = ltb-true x.row.0 (length rows) all.0;
      child = parts.0;
      free = not-true (cut x.row.0) parts.1;
      rest_is = rest_is;
      largest = λ j l child free.
          ⊎_elim
          (λ (there : 0 < row_count j children).
          let (y, holds, row) = find j Both children both there in
          omega (arith, holds.0, holds.1, ap rest row, rest_is))
          (λ (out : row_count j children ≤ 0).
          let was = are.left_out j l child (rw free refl) (omega arith) in
          omega (arith, was.0, above, rest_is))
          (cases_lt 0 (row_count j children));
    }

-- the others stay in the heap
pub hottest_left :
    (rows : List ProblemRow) (rest rest2 : ℕ → ℕ) (cut cut2 : ℕ → Bool) (i most most2 floor : ℕ) (children left : List Child) (x : Child)
    → ((v : ℕ) → v ≢ i → rest2 v ≡ rest v) → cut2 x.row.0 ≡ true → ((v : ℕ) → v ≢ x.row.0 → cut2 v ≡ cut v)
    → IsPopped rows rest cut i x → most ≡ most2 + 1 → length children ≡ length left + 1
    → AreHottest rows rest (λ j. not (cut j)) i most floor children → IsPermutation children (x ∷ left)
    → ((j : ℕ) → j < length rows → is_child rows i j ≡ true → j ≢ i)
    → AreHottest rows rest2 (λ j. not (cut2 j)) i most2 floor left
hottest_left rows rest rest2 cut cut2 i most most2 floor children left x rest_other cut_here cut_other pop fewer size are moved apart =
    let after = All-tail (λ (y : Child). (i < y.row.0) × (y.row.0 < length rows)) x left
    (All-permutation (λ (y : Child). (i < y.row.0) × (y.row.0 < length rows)) children (x ∷ left) moved are.after) in
    let rests = All-tail (λ (y : Child). y.rest ≡ rest y.row.0) x left
    (All-permutation (λ (y : Child). y.rest ≡ rest y.row.0) children (x ∷ left) moved are.rests) in
    let taken : (j : ℕ) → row_count j left + cond (eqb x.row.0 j) 1 0 ≡ row_count j children =
    λ j. sum_by_popped (λ (y : Child). cond (eqb y.row.0 j) 1 0) x children left moved in
    record {
      each = λ j.
          ⊎_elim
          (λ (this : x.row.0 ≡ j).
          let is_it : eqb x.row.0 j ≡ true = eq-eqb x.row.0 j this in
          let counted = rw is_it at (taken j) in
          let was = once rows i x.row.0 (not (cut x.row.0)) pop.inside pop.child (rw pop.free refl) in
          let was_j : row_count j children ≤ 1 = rw (← this) (omega (arith, are.each x.row.0, was)) in
          let now = never rows i j (not (cut2 j)) (λ _ _. rw (← this, cut_here) refl) in
          omega (arith, counted, was_j, now))
          (λ (other : x.row.0 ≢ j).
          let is_not : eqb x.row.0 j ≡ false = ne_eqb x.row.0 j other in
          let counted = rw is_not at (taken j) in
          let same = same_test rows i j (not (cut j)) (not (cut2 j))
          (λ _ _. ap not (sym (cut_other j (λ is. other (sym is))))) in
          omega (arith, counted, same, are.each j))
          (cases_eq x.row.0 j);
      rests = λ k d l.
          rests k d l ∙ sym (rest_other (get_or left k d).row.0 (λ same. (let far = after k d l in omega (arith, same, far.0))));
      after = after;
      above = All-tail (λ (y : Child). floor ≤ y.rest) x left
          (All-permutation (λ (y : Child). floor ≤ y.rest) children (x ∷ left) moved are.above);
      left_out = λ j l child free out.
          ⊎_elim
          (λ (this : x.row.0 ≡ j). absurd (false≢true (rw (← this, cut_here) at free)))
          (λ (other : x.row.0 ≢ j).
          let is_not : eqb x.row.0 j ≡ false = ne_eqb x.row.0 j other in
          let counted = rw is_not at (taken j) in
          let was = are.left_out j l child (ap not (sym (cut_other j (λ is. other (sym is)))) ∙ free) (omega (arith, counted, out)) in
          (omega (arith, was.0, rest_other j (apart j l child)), omega (arith, was.1)))
          (cases_eq x.row.0 j);
    }

-- an empty heap, while more may be cut: each child is cut
pub hottest_empty :
    (rows : List ProblemRow) (rest : ℕ → ℕ) (cut : ℕ → Bool) (i most floor : ℕ) (children : List Child)
    → AreHottest rows rest (λ j. not (cut j)) i most floor children → length children ≡ 0 → 0 < most
    → (j : ℕ) → j < length rows → is_child rows i j ≡ true → cut j ≡ true
hottest_empty rows rest cut i most floor [] are none some j l child =
    ⊎_elim (λ (is : cut j ≡ true). is)
    (λ (free : cut j ≡ false).
    absurd (omega (arith, (are.left_out j l child (rw free refl) refl).1)))
    (cases_Bool (cut j))
hottest_empty rows rest cut i most floor (x ∷ children) are none some j l child = absurd (omega arith)

-- a child that is no hotter than those that are enough
pub met_cool : (old : Hottest) (x : Child) (most : ℕ) → most ≤ length old.children.items → x.rest ≤ old.floor
    → CanMeet old most → IsMet old old x most
met_cool old x most enough cool kept = record {
  forgotten = x ∷ [];
  same = IsPermutation-refl (old.children.items ++ x ∷ []);
  cooler = All-cons (λ (y : Child). y.rest ≤ old.floor) x [] cool (All-nil (λ (y : Child). y.rest ≤ old.floor));
  enough = λ _. enough;
  up = omega arith;
  kept = kept;
}

-- a child that is kept with the others
pub met_kept : (old new : Hottest) (x : Child) (most : ℕ) → new.children.items ≡ old.children.items ++ x ∷ []
    → new.floor ≡ old.floor → old.floor ≤ x.rest → CanMeet old most → IsMet old new x most
met_kept old new x most items floor hot kept = record {
  forgotten = [];
  same = rw (items, append-nil (old.children.items ++ x ∷ [])) (IsPermutation-refl (old.children.items ++ x ∷ []));
  cooler = All-nil (λ (y : Child). y.rest ≤ new.floor);
  enough = λ some. absurd (omega arith);
  up = omega (arith, floor);
  kept = record {
    some = kept.some;
    above = rw (items, floor) (All-push (λ (y : Child). old.floor ≤ y.rest) old.children.items x kept.above hot);
    full = λ some. (let size : length (old.children.items ++ x ∷ []) ≡ length old.children.items + 1 = simp length-append refl in
        omega (arith, kept.full (omega (arith, floor)), ap length items, size));
  };
}

-- of more than enough the hottest are kept
pub met_short : (old new : Hottest) (x : Child) (most : ℕ) (moved : List Child)
    → IsPermutation (old.children.items ++ x ∷ []) moved → new.children.items ≡ take most moved → most ≤ length moved
    → All (λ (y : Child). new.floor ≤ y.rest) (take most moved) → All (λ (y : Child). y.rest ≤ new.floor) (drop most moved)
    → old.floor ≤ new.floor → 0 < most → IsMet old new x most
met_short old new x most moved same items long hottest others up some =
    let size : length (take most moved) ≡ most = length-take-le most moved long in
    record {
      forgotten = drop most moved;
      same = rw (items, take-append-drop most moved) same;
      cooler = others;
      enough = λ _. omega (arith, ap length items, size);
      up = up;
      kept = record { some = some; above = rw items hottest; full = λ _. omega (arith, ap length items, size) };
    }

-- in a list in order rests don't fall
pub rests_rise : (xs : List Child)
    → ((k : ℕ) (d : Child) → 0 ≤ k → k + 1 < length xs → is_lt (child_cmp (get_or xs (k + 1) d) (get_or xs k d)) ≡ false)
    → (n k : ℕ) (d : Child) → k + n < length xs → (get_or xs k d).rest ≤ (get_or xs (k + n) d).rest
rests_rise xs sorted zero k d l = (let same : k + 0 ≡ k = omega arith in rw same (omega arith))
rests_rise xs sorted (suc n) k d l =
    let step = not_above (get_or xs (k + n + 1) d).rest (get_or xs (k + n) d).rest
    (nat_cmp (get_or xs (k + n) d).row.0 (get_or xs (k + n + 1) d).row.0) (sorted (k + n) d (omega arith) (omega arith)) in
    let same : k + n + 1 ≡ k + suc n = omega arith in
    omega (arith, rests_rise xs sorted n k d (omega arith), step, ap (λ m. (get_or xs m d).rest) same)

-- a list in order, with its back part turned to the front
module _ (xs new : List Child) (most first floor : ℕ) (size : length xs ≡ first + most) (turn : new ≡ drop first xs ++ take first xs)
    (floor_is : (d : Child) → (get_or xs first d).rest ≡ floor) (some : 0 < most)
    (sorted : (k : ℕ) (d : Child) → 0 ≤ k → k + 1 < length xs → is_lt (child_cmp (get_or xs (k + 1) d) (get_or xs k d)) ≡ false) where
  late : length (drop first xs) ≡ most
  late = omega (arith, length-drop first xs, size)

  front_is : take most new ≡ drop first xs
  front_is = rw (turn, ← late) (take-append_seam (drop first xs) (take first xs))

  back_is : drop most new ≡ take first xs
  back_is = rw (turn, ← late) (drop-append_seam (drop first xs) (take first xs))

  pub turned_hot : All (λ (y : Child). floor ≤ y.rest) (take most new)
  turned_hot = rw front_is (λ k d l.
      (let there = get_or-drop first xs k d in
      let order = rests_rise xs sorted k first d (omega (arith, late, size, l)) in
      omega (arith, order, ap (λ (y : Child). y.rest) there, floor_is d)))

  pub turned_cool : All (λ (y : Child). y.rest ≤ floor) (drop most new)
  turned_cool = rw back_is (λ k d l.
      (let short : k < first = omega (arith, l, length-take first xs) in
      let there = get_or-take first xs k d short in
      let order = rests_rise xs sorted (first - k) k d (omega (arith, size)) in
      let same : k + (first - k) ≡ first = omega arith in
      omega (arith, order, ap (λ m. (get_or xs m d).rest) same, ap (λ (y : Child). y.rest) there, floor_is d)))

  pub turned_among : (rest : ℕ) → All (λ (y : Child). rest ≤ y.rest) xs → rest ≤ floor
  turned_among rest all =
      let d : Child = record { rest = 0; row = record { 0 = 0 } } in
      omega (arith, all first d (omega (arith, size)), floor_is d)
