-- Which directories go: keys, and how many are at most one of them.
use Rattle.std.proofs.Common.{◌≡◌, ◌≢◌, ◌∙◌, ℕ, zero, suc, ◌+◌, ◌-◌, ◌<◌, ◌≤◌, Bool, true, false, not, ◌&&◌, cond}
use Rattle.std.proofs.Common.{List, [], ◌∷◌, ◌++◌, add_assoc, add-zero, length, get_or, set, slice_index, refl, ap, sym, subst, ⊎_elim, arith}
use Rattle.std.specs.Cmp.{IsTotalOrder}
use Rattle.std.proofs.Math.Nat.{lt_trans}
use Rattle.std.proofs.lemmas.Grind.{common_steps}
use Rattle.std.proofs.lemmas.Cmp.{nat_cmp_total, on_total, then_total}
use Rattle.std.specs.List.{count_by, sum_by}
use Rattle.std.specs.List.Sorted.{IsPermutation, IsSorted}
use Rattle.std.proofs.Common.{Ordering, Equal, Greater, Less}
use Rattle.std.specs.Ordering.{is_le, is_lt, ordering_reverse}
use Rattle.std.proofs.lemmas.Bool.{and_from, and_parts, cases_Bool, cases_eq, cases_lt, not-true, not_from_false}
use Rattle.std.proofs.lemmas.List.{get_or-set_other, get_or-set_same}
use Rattle.std.proofs.lemmas.List.Sorted.{length_permutation, ranks_by, sorted_far, sum_by-IsPermutation}
use Rattle.std.proofs.lemmas.List.Sums.{sum_by-cons}
use Rattle.mds_types.specs.Sums.{count_below, sum_below}
use Rattle.mds_types.proofs.RankSetLemmas.{count_below_more}
use Rattle.mds_types.proofs.SumsLemmas.{sum_below-add, sum_below-fewer, sum_below-le, sum_below-once}
use Rattle.ceph_folding.specs.declared.coldest.Key.{Key}
use Rattle.ceph_snapshot.specs.declared.directory.Directory.{Directory}
use Rattle.ceph_folding.specs.Folding.{AreColdest, AreGone, IsPlain}
use Rattle.ceph_snapshot.specs.Holding.{AreParentsFirst, parent_at, is_marked}
use Rattle.ceph_folding.specs.Keys.{goes, is_at_most, is_below, key_at, key_cmp, passes}

pub sum_front : (n : ℕ) (f : ℕ → ℕ) → sum_below (suc n) f ≡ f 0 + sum_below n (λ i. f (suc i))
sum_front zero f = omega arith
sum_front (suc n) f = omega (arith, sum_front n f)

sum_keys : {X : Type 0} (f : X → ℕ) (d : X) (xs : List X) → sum_by f xs ≡ sum_below (length xs) (λ i. f (get_or xs i d))
sum_keys f d [] = refl
sum_keys f d (x ∷ xs) = sum_by-cons f x xs ∙ (ap (λ (k : ℕ). f x + k) (sum_keys f d xs) ∙ sym (sum_front (length xs) (λ i. f (get_or (x ∷ xs) i d))))

ones : (n : ℕ) → n ≤ sum_below n (λ i. 1)
ones zero = omega arith
ones (suc n) = omega (arith, ones n)

pub count_push : {X : Type 0} (p : X → Bool) (xs : List X) (x : X) → count_by p (xs ++ x ∷ []) ≡ count_by p xs + cond (p x) 1 0
count_push p [] x = omega arith
count_push {X = X} p (a ∷ xs) x =
    let f : X → ℕ = λ y. cond (p y) 1 0 in
    sum_by-cons f a (xs ++ x ∷ []) ∙ (ap (λ (n : ℕ). f a + n) (count_push p xs x)
    ∙ (sym (add_assoc (f a) (sum_by f xs) (f x)) ∙ ap (λ (n : ℕ). n + f x) (sym (sum_by-cons f a xs))))

key_total : IsTotalOrder key_cmp
key_total = then_total (on_total (λ (key : Key). key.heat) nat_cmp_total) (on_total (λ (key : Key). key.behind) nat_cmp_total)

not_lt_back : (o : Ordering) → is_lt o ≡ false → is_le (ordering_reverse o) ≡ true
not_lt_back Less is = cc
not_lt_back Equal is = refl
not_lt_back Greater is = refl

-- one that isn't after another is at most that
at_most : (a b : Key) → is_lt (key_cmp b a) ≡ false → is_at_most a b ≡ true
at_most a b is = ap is_le (key_total.antisymm a b) ∙ not_lt_back (key_cmp b a) is

-- at least `count` keys are at most the last of the first `count` in order
pub enough : (keys sorted : List Key) (count : ℕ) (last : Key) → 0 < count → count ≤ length keys → IsPermutation keys sorted → IsSorted key_cmp sorted
    → last ≡ get_or sorted (count - 1) last → count ≤ count_by (λ key. is_at_most key last) keys
enough keys sorted count last some inside moved up is =
    let f : Key → ℕ = λ key. cond (is_at_most key last) 1 0 in
    let long : length sorted ≡ length keys = length_permutation keys sorted moved in
    let within : count ≤ length sorted = omega (arith, inside, long) in
    let first : sum_below count (λ i. 1) ≤ sum_below count (λ i. f (get_or sorted i last)) = sum_below-le count (λ i. 1) (λ i. f (get_or sorted i last)) (λ i l.
    let behind : is_lt (key_cmp (get_or sorted (count - 1) last) (get_or sorted i last)) ≡ false =
    sorted_far (λ a b. is_lt (key_cmp a b)) (ranks_by key_total (λ (key : Key). key)) sorted up i (count - 1) last (omega (arith, l))
    (omega (arith, some, within)) in
    let yes : is_at_most (get_or sorted i last) last ≡ true =
    ap (is_at_most (get_or sorted i last)) is ∙ at_most (get_or sorted i last) (get_or sorted (count - 1) last) behind in
    rw yes (omega arith)) in
    let more : sum_below count (λ i. f (get_or sorted i last)) ≤ sum_below (length sorted) (λ i. f (get_or sorted i last)) =
    sum_below-fewer count (length sorted) (λ i. f (get_or sorted i last)) within in
    let whole : sum_below (length sorted) (λ i. f (get_or sorted i last)) ≡ count_by (λ key. is_at_most key last) keys =
    sym (sum_keys f last sorted) ∙ sum_by-IsPermutation f keys sorted moved in
    omega (arith, ones count, first, more, whole)

-- values of at most 1, all 0 from m on, come to at most m
none_of : (n : ℕ) (f : ℕ → ℕ) (m : ℕ) → ((i : ℕ) → i < n → f i ≤ 1) → ((i : ℕ) → m ≤ i → i < n → f i ≡ 0) → sum_below n f ≤ m
none_of zero f m one none = omega arith
none_of (suc n) f m one none =
    ⊎_elim (λ (low : n < m). omega (
      arith,
      none_of n f n (λ i l. one i (omega (arith, l))) (λ i past l. let no : ⊥ = omega (arith, past, l) in absurd no),
      one n (omega arith),
      low,
    ))
    (λ (high : m ≤ n). omega (arith, none_of n f m (λ i l. one i (omega (arith, l))) (λ i past l. none i past (omega (arith, l))), none n high (omega arith)))
    (cases_lt n m)

at_most_one : (b : Bool) → cond b 1 0 ≤ 1
at_most_one true = omega arith
at_most_one false = omega arith

-- fewer than `count` keys are below the last of the first `count` in order
pub fewer-below : (keys sorted : List Key) (count : ℕ) (last : Key) → 0 < count → count ≤ length keys → IsPermutation keys sorted → IsSorted key_cmp sorted
    → last ≡ get_or sorted (count - 1) last → count_by (λ key. is_below key last) keys < count
fewer-below keys sorted count last some inside moved up is =
    let f : Key → ℕ = λ key. cond (is_below key last) 1 0 in
    let long : length sorted ≡ length keys = length_permutation keys sorted moved in
    let few : sum_below (length sorted) (λ i. f (get_or sorted i last)) ≤ count - 1 =
    none_of (length sorted) (λ i. f (get_or sorted i last)) (count - 1) (λ i l. at_most_one (is_below (get_or sorted i last) last)) (λ i past l.
    let behind : is_lt (key_cmp (get_or sorted i last) (get_or sorted (count - 1) last)) ≡ false =
    sorted_far (λ a b. is_lt (key_cmp a b)) (ranks_by key_total (λ (key : Key). key)) sorted up (count - 1) i last past l in
    let no : is_below (get_or sorted i last) last ≡ false = ap (is_below (get_or sorted i last)) is ∙ behind in
    rw no refl) in
    let whole : sum_below (length sorted) (λ i. f (get_or sorted i last)) ≡ count_by (λ key. is_below key last) keys =
    sym (sum_keys f last sorted) ∙ sum_by-IsPermutation f keys sorted moved in
    omega (arith, few, whole, some)

-- no two directories have one key
same_key : (heats : List ℕ) (last : Key) (i : ℕ) → is_at_most (key_at heats i) last ≡ true → is_below (key_at heats i) last ≡ false
    → length heats - 1 - i ≡ last.behind
same_key heats last i most below = grind (arith, common_steps)

-- so at most one more goes than are below the last
pub one-more : (heats : List ℕ) (stays : List Bool) (last : Key)
    → count_below (length heats) (goes heats stays last) ≤ count_below (length heats) (passes heats stays (λ key. is_below key last)) + 1
one-more heats stays last =
    let n : ℕ = length heats in
    let d : ℕ → ℕ = λ i. cond (is_at_most (key_at heats i) last && not (is_below (key_at heats i) last)) 1 0 in
    let once : sum_below n d ≤ 1 = sum_below-once n 1 d (λ i l. at_most_one (is_at_most (key_at heats i) last && not (is_below (key_at heats i) last)))
    (λ i j li lj hi hj.
    let a = and_parts (is_at_most (key_at heats i) last) (not (is_below (key_at heats i) last))
    (counts (is_at_most (key_at heats i) last && not (is_below (key_at heats i) last)) hi) in
    let b = and_parts (is_at_most (key_at heats j) last) (not (is_below (key_at heats j) last))
    (counts (is_at_most (key_at heats j) last && not (is_below (key_at heats j) last)) hj) in
    omega (
      arith,
      li,
      lj,
      same_key heats last i a.0 (not-true (is_below (key_at heats i) last) a.1),
      same_key heats last j b.0 (not-true (is_below (key_at heats j) last) b.1),
    )) in
    let sums : sum_below n (λ i. cond (goes heats stays last i) 1 0) ≤ sum_below n (λ i. cond (passes heats stays (λ key. is_below key last) i) 1 0 + d i) =
    sum_below-le n (λ i. cond (goes heats stays last i) 1 0) (λ i. cond (passes heats stays (λ key. is_below key last) i) 1 0 + d i)
    (λ i l. either (not (is_marked stays i)) (is_at_most (key_at heats i) last) (is_below (key_at heats i) last)) in
    omega (arith, sums, sum_below-add n (λ i. cond (passes heats stays (λ key. is_below key last) i) 1 0) d, once)
  where
    counts : (b : Bool) → 0 < cond b 1 0 → b ≡ true
    counts true h = refl
    counts false h = let none : ⊥ = omega (arith, h) in absurd none

    either : (a b c : Bool) → cond (a && b) 1 0 ≤ cond (a && c) 1 0 + cond (b && not c) 1 0
    either false b c = omega arith
    either true false c = omega arith
    either true true true = omega arith
    either true true false = omega arith

-- what doesn't pass and what does are all
pub count_both : (n : ℕ) (p q : ℕ → Bool) → ((i : ℕ) → i < n → p i ≡ q i) → count_below n (λ i. not (p i)) + count_below n q ≡ n
count_both zero p q same = refl
count_both (suc n) p q same =
    let before : count_below n (λ i. not (p i)) + count_below n q ≡ n = count_both n p q (λ i l. same i (omega (arith, l))) in
    ⊎_elim (λ (yes : q n ≡ true). rw (same n (omega arith), yes) (omega (arith, before)))
    (λ (no : q n ≡ false). rw (same n (omega arith), no) (omega (arith, before)))
    (cases_Bool (q n))

apart : {X : Type 0} (b : Bool) → b ≡ true → b ≡ false → X
apart b is_true is_false = cc

-- one more directory that doesn't stay is counted where its key passes the test
pub passes_more : (heats : List ℕ) (stays : List Bool) (test : Key → Bool) (at : ℕ) (keys : List Key) → is_marked stays at ≡ false
    → count_by test keys ≡ count_below at (passes heats stays test)
    → count_by test (keys ++ key_at heats at ∷ []) ≡ count_below (at + 1) (passes heats stays test)
passes_more heats stays test at keys free before =
    let same : passes heats stays test at ≡ test (key_at heats at) = rw free refl in
    count_push test keys (key_at heats at)
    ∙ (ap (λ (n : ℕ). n + cond (test (key_at heats at)) 1 0) before
    ∙ (ap (λ (b : Bool). count_below at (passes heats stays test) + cond b 1 0) (sym same)
    ∙ sym (count_below_more at (passes heats stays test))))

-- one that stays isn't
pub stays_passed : (heats : List ℕ) (stays : List Bool) (test : Key → Bool) (at : ℕ) → is_marked stays at ≡ true
    → count_below (at + 1) (passes heats stays test) ≡ count_below at (passes heats stays test)
stays_passed heats stays test at stay =
    let same : passes heats stays test at ≡ false = rw stay refl in
    count_below_more at (passes heats stays test)
    ∙ (ap (λ (b : Bool). count_below at (passes heats stays test) + cond b 1 0) same ∙ add-zero (count_below at (passes heats stays test)))

-- marks stay when more are set
still : (marks : List Bool) (k i : ℕ) → k < length marks → is_marked marks i ≡ true → is_marked (set marks k true) i ≡ true
still marks k i l is =
    ⊎_elim (λ (same : i ≡ k). ap (λ (j : ℕ). get_or (set marks k true) j false) same ∙ get_or-set_same marks k true false l)
    (λ (other : i ≢ k). get_or-set_other marks k i true false other ∙ is)
    (cases_eq i k)

set_here : (marks : List Bool) (k i : ℕ) → k < length marks → i ≡ k → is_marked (set marks k true) i ≡ true
set_here marks k i l same = ap (λ (j : ℕ). get_or (set marks k true) j false) same ∙ get_or-set_same marks k true false l

unset_before : (marks : List Bool) (k i : ℕ) → k < length marks → is_marked (set marks k true) i ≡ false → is_marked marks i ≡ false
unset_before marks k i l unset =
    ⊎_elim (λ (same : i ≡ k). apart (is_marked (set marks k true) i) (set_here marks k i l same) unset)
    (λ (other : i ≢ k). sym (get_or-set_other marks k i true false other) ∙ unset)
    (cases_eq i k)

-- one more directory that stays is marked, and its parent
pub marked_plain : (ds : List Directory) (stays : List Bool) (at above : ℕ) → at < length stays → above < length (set stays at true)
    → ((i : ℕ) → at + 1 ≤ i → i < length ds → is_marked stays i ≡ false → IsPlain ds i)
    → (i : ℕ) → at ≤ i → i < length ds → is_marked (set (set stays at true) above true) i ≡ false → IsPlain ds i
marked_plain ds stays at above inside up plain i low l unset =
    let once : is_marked (set stays at true) i ≡ false = unset_before (set stays at true) above i up unset in
    ⊎_elim (λ (same : i ≡ at). apart (is_marked (set stays at true) i) (set_here stays at i inside same) once)
    (λ (other : i ≢ at). plain i (omega (arith, low, other)) l (unset_before stays at i inside once))
    (cases_eq i at)

pub marked_above : (ds : List Directory) (stays : List Bool) (at above : ℕ) → at < length stays → above < length (set stays at true)
    → above ≡ parent_at ds at → above ≤ at
    → ((i : ℕ) → 0 < i → at + 1 ≤ i → i < length ds → is_marked stays i ≡ true → is_marked stays (parent_at ds i) ≡ true)
    → (i : ℕ) → 0 < i → at ≤ i → i < length ds → is_marked (set (set stays at true) above true) i ≡ true
    → is_marked (set (set stays at true) above true) (parent_at ds i) ≡ true
marked_above ds stays at above inside up is before marked i some low l set_now =
    ⊎_elim (λ (same : i ≡ at). set_here (set stays at true) above (parent_at ds i) up (ap (parent_at ds) same ∙ sym is))
    (λ (other : i ≢ at).
    let past : i ≢ above = λ same. let none : ⊥ = omega (arith, same, before, low, other) in none in
    let old : is_marked stays i ≡ true = sym (get_or-set_other stays at i true false other)
    ∙ (sym (get_or-set_other (set stays at true) above i true false past) ∙ set_now) in
    still (set stays at true) above (parent_at ds i) up (still stays at (parent_at ds i) inside (marked i some (omega (arith, low, other)) l old)))
    (cases_eq i at)

pub parent_le : (ds : List Directory) (i : ℕ) → AreParentsFirst ds → i < length ds → parent_at ds i ≤ i
parent_le ds zero first l = omega (arith, first.root)
parent_le ds (suc n) first l = omega (arith, first.above (suc n) (omega arith) l)

-- what is as cold, and comes after
colder : (heats : List ℕ) (last : Key) (i above : ℕ) → above < i → i < length heats → slice_index heats i ≤ slice_index heats above
    → is_at_most (key_at heats above) last ≡ true → is_at_most (key_at heats i) last ≡ true
colder heats last i above behind inside cold is = grind (arith, common_steps)

-- the coldest that don't stay are gone, each with all that is below it
pub gone-marked : (ds : List Directory) (heats : List ℕ) (stays marks : List Bool) (last : Key) → length heats ≡ length ds → AreParentsFirst ds
    → ((i : ℕ) → i < length ds → is_marked stays i ≡ false → IsPlain ds i)
    → ((i : ℕ) → 0 < i → i < length ds → is_marked stays i ≡ true → is_marked stays (parent_at ds i) ≡ true)
    → ((i : ℕ) → 0 < i → i < length ds → slice_index heats i ≤ slice_index heats (parent_at ds i))
    → ((i : ℕ) → i < length heats → is_marked marks i ≡ goes heats stays last i) → AreColdest ds (is_marked marks)
    → AreGone ds (is_marked marks)
gone-marked ds heats stays marks last size first plain above rise marked coldest =
    let within : (i : ℕ) → i < length ds → i < length heats = λ i l. subst (λ (n : ℕ). i < n) (sym size) l in
    record {
      plain = λ i l gone.
          let both = and_parts (not (is_marked stays i)) (is_at_most (key_at heats i) last) (sym (marked i (within i l)) ∙ gone) in
          plain i l (not-true (is_marked stays i) both.0);
      below = λ i some l gone.
          let up : parent_at ds i < i = first.above i some l in
          let both = and_parts (not (is_marked stays (parent_at ds i))) (is_at_most (key_at heats (parent_at ds i)) last)
          (sym (marked (parent_at ds i) (within (parent_at ds i) (lt_trans up l))) ∙ gone) in
          let free : is_marked stays i ≡ false =
          ⊎_elim (λ (stay : is_marked stays i ≡ true). apart (is_marked stays (parent_at ds i)) (above i some l stay)
          (not-true (is_marked stays (parent_at ds i)) both.0))
          (λ (free : is_marked stays i ≡ false). free)
          (cases_Bool (is_marked stays i)) in
          marked i (within i l)
          ∙ and_from (not (is_marked stays i)) (is_at_most (key_at heats i) last) (not_from_false (is_marked stays i) free)
          (colder heats last i (parent_at ds i) up (within i l) (rise i some l) both.1);
      coldest = λ i gone. coldest;
    }
