-- The packing with one more part.
use Rattle.std.proofs.Common.{◌/◌, ◌≡◌, ◌≢◌, ◌∙◌, ◌+◌, ◌*◌, ◌<◌, ◌≤◌, ◌&&◌, ◌||◌, ◌==◌, ℕ, zero, suc, Bool, true, false, List}
use Rattle.std.proofs.Common.{length, length-set, get_or, set, slice_index, cond, eqb, nat_lt, inl, inr, ⊎_elim, ap, arith, refl, replicate, subst, sym}
use Rattle.std.proofs.Math.Nat.{le_of_eq, le_of_lt, mul-le-mul_left}
use Rattle.std.proofs.lemmas.Bool.{and_parts, both_ways, cases_Bool, cases_eq, cases_lt, eq-eqb, eqb-true}
use Rattle.std.proofs.lemmas.Bool.{le-ltb, ltb-true, ne_eqb, or_cases, or_from, or_left, or_right}
use Rattle.std.proofs.lemmas.List.{get_or-replicate, get_or-set_other, get_or-set_same, get_or_default, length-replicate}
use Rattle.mds_types.specs.RankSet.{has_rank}
use Rattle.mds_types.specs.Sums.{sum_below}
use Rattle.mds_types.proofs.SumsLemmas.{sum_below-add, sum_below-pick, sum_below-same, sum_below-term, sum_below-zero}
use Rattle.ceph_plan.specs.declared.hours.Hour.{Hour}
use Rattle.ceph_plan.specs.Balance.{AreGreatest, CanTake, HaveRanks, IsEvened, IsKeptWithin, IsLargestFirst, IsNearMean, IsByHeat, IsSent}
use Rattle.ceph_plan.specs.Balance.{allowed, goes_before, greatest_by, is_hotter, load_by, load_of_parts, load_with, made}
use Rattle.ceph_plan.specs.Packing.{AreHours, heat_in, load_in, pinned_at, worst}
use Rattle.ceph_plan.proofs.Bounds.{rank-small, set_usable}
use Rattle.ceph_plan.proofs.HourSums.{max-least, max-same, pinned-small}
use Rattle.ceph_plan.proofs.Means.{IsFairLoad, fair-least, load-small, near-mean}

abbrev pub is_done : List Bool → ℕ → Bool
is_done done q = get_or done q false

-- the parts that are done are packed, and no other is hotter than one of them
pub record ArePacked (ranks : ℕ) (hours : List Hour) (heats inodes order : List ℕ) (root limit : ℕ) (rank : List ℕ) (done : List Bool) (loads : List ℕ)
    (left : ℕ) : Type 0 where
  pub ranks_are : HaveRanks ranks heats root rank
  pub size : length done ≡ length heats
  pub root_done : is_done done root ≡ true
  pub loads_size : length loads ≡ length hours * 64
  pub loads_are : (h r : ℕ) → h < length hours → r < 64 → slice_index loads (h * 64 + r) ≡ load_by hours heats rank (is_done done) h r
  pub ahead : (q p : ℕ) → q < length heats → p < length heats → q ≢ root → is_done done q ≡ true → is_done done p ≡ false → is_hotter heats q p ≡ true
  pub sent : (p : ℕ) → p < length heats → p ≢ root → is_done done p ≡ true
      → IsSent ranks (load_with hours heats root rank p) inodes p limit (slice_index rank p)
  pub fair : (r : ℕ) → has_rank ranks r ≡ true → IsFairLoad ranks hours heats root limit r (worst hours (λ h. slice_index loads (h * 64 + r)))
  pub ordered : IsByHeat heats order
  pub within : left ≤ length heats
  pub rest : (i : ℕ) → left ≤ i → i < length heats → is_done done (slice_index order i) ≡ true

and-no : (x y : Bool) → y ≡ false → (x && y) ≡ false
and-no true y is = is
and-no false y is = refl

colder : (a b q p : ℕ) → (nat_lt a b || ((a == b) && nat_lt q p)) ≡ true → (nat_lt b a || ((b == a) && nat_lt p q)) ≡ false
colder a b q p is =
    ⊎_elim (λ (less : nat_lt a b ≡ true).
    let lt : a < b = ltb-true a b less in
    or_from (nat_lt b a) ((b == a) && nat_lt p q) (le-ltb b a (le_of_lt lt))
    (ap (λ (x : Bool). x && nat_lt p q) (ne_eqb b a (λ same. let none : ⊥ = omega (arith, lt, same) in none))))
    (λ (both : ((a == b) && nat_lt q p) ≡ true).
    let parts = and_parts (a == b) (nat_lt q p) both in
    let same : a ≡ b = eqb-true a b parts.0 in
    let lt : q < p = ltb-true q p parts.1 in
    or_from (nat_lt b a) ((b == a) && nat_lt p q) (le-ltb b a (le_of_eq same)) (and-no (b == a) (nat_lt p q) (le-ltb p q (le_of_lt lt))))
    (or_cases (nat_lt a b) ((a == b) && nat_lt q p) is)

hotter-not : (heats : List ℕ) (q p : ℕ) → is_hotter heats q p ≡ true → is_hotter heats p q ≡ false
hotter-not heats q p is = colder (slice_index heats p) (slice_index heats q) q p is

hotter-self : (heats : List ℕ) (k : ℕ) → is_hotter heats k k ≡ false
hotter-self heats k =
    or_from (nat_lt (slice_index heats k) (slice_index heats k)) ((slice_index heats k == slice_index heats k) && nat_lt k k) (le-ltb _ _ (omega arith))
    (and-no (slice_index heats k == slice_index heats k) (nat_lt k k) (le-ltb k k (omega arith)))

-- loads are alike where the same parts are at the rank
load-same : (hours : List Hour) (heats rank others : List ℕ) (some those : ℕ → Bool) (h r : ℕ)
    → ((q : ℕ) → q < length heats → (some q && (get_or rank q 0 == r)) ≡ (those q && (get_or others q 0 == r)))
    → load_by hours heats rank some h r ≡ load_by hours heats others those h r
load-same hours heats rank others some those h r same =
    ap (λ (x : ℕ). pinned_at hours h r + x)
    (sum_below-same (length heats) (λ q. cond (some q && (get_or rank q 0 == r)) (heat_in hours h q) 0)
    (λ q. cond (those q && (get_or others q 0 == r)) (heat_in hours h q) 0)
    (λ q l. ap (λ (b : Bool). cond b (heat_in hours h q) 0) (same q l)))

sent-same : (ranks : ℕ) (load other : ℕ → ℕ) (inodes : List ℕ) (p limit to : ℕ) → ((r : ℕ) → r < 64 → load r ≡ other r) → to < 64
    → IsSent ranks load inodes p limit to → IsSent ranks other inodes p limit to
sent-same ranks load other inodes p limit to same small sent = record {
  home = sent.home;
  is = sent.is;
  goes = elim sent.goes [
    | inl kept ↦ inl (kept.0, omega (arith, same sent.home sent.is.small, kept.1), kept.2)
    | inr moved ↦ inr (
      λ has. omega (arith, same sent.home sent.is.small, moved.0 has),
      λ r has. omega (arith, same to small, same r (rank-small ranks r has), moved.1 r has),
    )
  ];
}

-- where a part goes the load is fair
fair-there : (ranks : ℕ) (hours : List Hour) (heats inodes : List ℕ) (root limit : ℕ) (rank : List ℕ) (done : List Bool) (loads : List ℕ)
    (k to : ℕ) → k < length heats
    → AreGreatest hours heats → ((p : ℕ) → p < length heats → has_rank ranks (slice_index rank p) ≡ true)
    → ((h r : ℕ) → h < length hours → r < 64 → slice_index loads (h * 64 + r) ≡ load_by hours heats rank (is_done done) h r)
    → IsSent ranks (made hours loads k) inodes k limit to
    → IsFairLoad ranks hours heats root limit to (made hours loads k to)
fair-there ranks hours heats inodes root limit rank done loads k to inside greatest usable are sent = elim sent.goes [
  | inl kept ↦ inr (inr (inl (subst (λ (t : ℕ). made hours loads k t ≤ limit) (sym kept.2) kept.1)))
  | inr moved ↦ inr (inr (inr
      (fair-least ranks hours heats rank (is_done done) (made hours loads k) k to inside greatest usable (λ r small. with-done r small)
      moved.1)))
]
  where
    with-done : (r : ℕ) → r < 64 → made hours loads k r ≡ worst hours (λ h. load_by hours heats rank (is_done done) h r + heat_in hours h k)
    with-done r small = max-same (length hours) (λ h. slice_index loads (h * 64 + r) + heat_in hours h k)
        (λ h. load_by hours heats rank (is_done done) h r + heat_in hours h k)
        (λ h l. ap (λ (x : ℕ). x + heat_in hours h k) (are h r l small))

add-zero : (x : ℕ) → x + 0 ≡ x
add-zero x = omega arith

-- one more is done
sum-set : (n k x : ℕ) (f g : ℕ → ℕ) → k < n → f k ≡ g k + x → ((q : ℕ) → q < n → q ≢ k → f q ≡ g q) → sum_below n f ≡ sum_below n g + x
sum-set n k x f g inside here others =
    sum_below-same n f (λ q. g q + cond (eqb k q) x 0) (λ q l.
    ⊎_elim (λ (same : q ≡ k). subst (λ (j : ℕ). f j ≡ g j + cond (eqb k j) x 0) (sym same) (rw (eq-eqb k k refl) here))
    (λ (other : q ≢ k). rw (ne_eqb k q (λ same. other (sym same))) (omega (arith, others q l other)))
    (cases_eq q k))
    ∙ (sum_below-add n g (λ q. cond (eqb k q) x 0) ∙ ap (λ (y : ℕ). sum_below n g + y) (sum_below-pick n k (λ q. x) inside))

load-set : (hours : List Hour) (heats rank : List ℕ) (done : List Bool) (k to h r : ℕ) → k < length heats → length rank ≡ length heats
    → length done ≡ length heats → is_done done k ≡ false
    → load_by hours heats (set rank k to) (is_done (set done k true)) h r ≡ load_by hours heats rank (is_done done) h r + cond (eqb to r) (heat_in hours h k) 0
load-set hours heats rank done k to h r inside ranks size new =
    let x : ℕ = cond (eqb to r) (heat_in hours h k) 0 in
    let f : ℕ → ℕ = λ q. cond (get_or (set done k true) q false && (get_or (set rank k to) q 0 == r)) (heat_in hours h q) 0 in
    let g : ℕ → ℕ = λ q. cond (get_or done q false && (get_or rank q 0 == r)) (heat_in hours h q) 0 in
    let here : f k ≡ g k + x = rw (
      get_or-set_same done k true false (omega (arith, inside, size)),
      get_or-set_same rank k to 0 (omega (arith, inside, ranks)),
      new,
    ) (omega arith) in
    let others : (q : ℕ) → q < length heats → q ≢ k → f q ≡ g q = λ q l other.
    rw (get_or-set_other done k q true false other, get_or-set_other rank k q to 0 other) refl in
    let sums : sum_below (length heats) f ≡ sum_below (length heats) g + x = sum-set (length heats) k x f g inside here others in
    omega (arith, sums)

-- of the part that is next: those before it are done
before-next : (heats : List ℕ) (root k q : ℕ) (done : List Bool) → is_done done root ≡ true → q < length heats → k < length heats → q ≢ k
    → is_done done k ≡ false
    → ((q p : ℕ) → q < length heats → p < length heats → q ≢ root → is_done done q ≡ true → is_done done p ≡ false → is_hotter heats q p ≡ true)
    → ((q : ℕ) → q < length heats → q ≢ k → is_done done q ≡ false → is_hotter heats k q ≡ true)
    → goes_before heats root q k ≡ is_done done q
before-next heats root k q done root_done inside here other new order first =
    ⊎_elim (λ (is : is_done done q ≡ true).
    ⊎_elim (λ (same : q ≡ root). or_left (q == root) (is_hotter heats q k) (eq-eqb q root same) ∙ sym is)
    (λ (later : q ≢ root). or_right (q == root) (is_hotter heats q k) (order q k inside here later is new) ∙ sym is)
    (cases_eq q root))
    (λ (not : is_done done q ≡ false).
    let later : q ≢ root = λ same. both_ways (is_done done q) not (ap (is_done done) same ∙ root_done) in
    or_from (q == root) (is_hotter heats q k) (ne_eqb q root later) (hotter-not heats k q (first q inside other not)) ∙ sym not)
    (cases_Bool (is_done done q))

-- the part that is next doesn't go before one that is done, nor before itself
not-before : (heats : List ℕ) (root k p : ℕ) → k ≢ root → is_hotter heats k p ≡ false → goes_before heats root k p ≡ false
not-before heats root k p later not = or_from (k == root) (is_hotter heats k p) (ne_eqb k root later) not

-- where a part is that isn't missing
place_of : (order : List ℕ) (p n : ℕ) → ¬ ((i : ℕ) → i < n → slice_index order i ≢ p) → (i : ℕ) × (i < n) × (slice_index order i ≡ p)
place_of order p zero there = absurd (there (λ i l. absurd (omega (arith, l))))
place_of order p (suc n) there =
    ⊎_elim (λ (same : slice_index order n ≡ p). (n, omega arith, same))
    (λ (other : slice_index order n ≢ p).
    let before : ¬ ((i : ℕ) → i < n → slice_index order i ≢ p) = λ none. there (λ i l.
    ⊎_elim (λ (low : i < n). none i low) (λ (high : n ≤ i). subst (λ (k : ℕ). slice_index order k ≢ p) (omega (arith, high, l)) other) (cases_lt i n)) in
    let place = place_of order p n before in (place.0, omega (arith, place.1), place.2))
    (cases_eq (slice_index order n) p)

-- and it is the hottest of those that are left
next-hottest : (heats order : List ℕ) (left next k : ℕ) (done : List Bool) → IsByHeat heats order
    → ((i : ℕ) → left ≤ i → i < length heats → is_done done (slice_index order i) ≡ true)
    → next < length heats → k ≡ slice_index order next → left ≡ next + 1
    → (q : ℕ) → q < length heats → q ≢ k → is_done done q ≡ false → is_hotter heats k q ≡ true
next-hottest heats order left next k done ordered rest there is less q l other new =
    let place = place_of order q (length heats) (ordered.each q l) in
    let low : place.0 < left =
    ⊎_elim (λ (low : place.0 < left). low)
    (λ (high : left ≤ place.0). absurd (both_ways (is_done done q) new (ap (is_done done) (sym place.2) ∙ rest place.0 high place.1)))
    (cases_lt place.0 left) in
    let apart : place.0 ≢ next = λ at. other (sym place.2 ∙ (ap (slice_index order) at ∙ sym is)) in
    let far : slice_index order place.0 ≢ slice_index order next = λ same. other (sym place.2 ∙ (same ∙ sym is)) in
    subst (λ (j : ℕ). is_hotter heats j q ≡ true) (sym is)
    (subst (λ (j : ℕ). is_hotter heats (slice_index order next) j ≡ true) place.2
    (ordered.hotter place.0 next (omega (arith, low, less, apart)) there far))

all-done : (heats order : List ℕ) (done : List Bool) → IsByHeat heats order
    → ((i : ℕ) → 0 ≤ i → i < length heats → is_done done (slice_index order i) ≡ true) → (q : ℕ) → q < length heats → is_done done q ≡ true
all-done heats order done ordered rest q l =
    let place = place_of order q (length heats) (ordered.each q l) in
    ap (is_done done) (sym place.2) ∙ rest place.0 (omega arith) place.1

pub packed-more : (ranks : ℕ) (hours : List Hour) (heats inodes order : List ℕ) (root limit : ℕ) (rank : List ℕ) (done : List Bool)
    (loads : List ℕ) (left next k to : ℕ) (more : List ℕ)
    → ArePacked ranks hours heats inodes order root limit rank done loads left → next < length heats → k ≡ slice_index order next → is_done done k ≡ false
    → has_rank ranks to ≡ true → AreGreatest hours heats → IsSent ranks (made hours loads k) inodes k limit to
    → length more ≡ length loads
    → ((h r : ℕ) → h < length hours → r < 64 → slice_index more (h * 64 + r)
    ≡ slice_index loads (h * 64 + r) + cond (eqb to r) (heat_in hours h k) 0) → left ≡ next + 1
    → ArePacked ranks hours heats inodes order root limit (set rank k to) (set done k true) more next
packed-more ranks hours heats inodes order root limit rank done loads left next k to more before there is new has greatest sent size added less =
    let n : ℕ = length heats in
    let inside : k < n = omega (arith, is, before.ordered.inside next there) in
    let first : (q : ℕ) → q < n → q ≢ k → is_done done q ≡ false → is_hotter heats k q ≡ true =
    next-hottest heats order left next k done before.ordered before.rest there is less in
    let ranks_size : length rank ≡ n = before.ranks_are.size in
    let later : k ≢ root = λ same. both_ways (is_done done k) new (ap (is_done done) same ∙ before.root_done) in
    let now : get_or (set rank k to) k 0 ≡ to = get_or-set_same rank k to 0 (omega (arith, inside, ranks_size)) in
    let now_done : is_done (set done k true) k ≡ true = get_or-set_same done k true false (omega (arith, inside, before.size)) in
    let ahead : (r : ℕ) → r < 64 → made hours loads k r ≡ load_with hours heats root (set rank k to) k r = λ r small.
    max-same (length hours) (λ h. slice_index loads (h * 64 + r) + heat_in hours h k)
    (λ h. load_by hours heats (set rank k to) (λ q. goes_before heats root q k) h r + heat_in hours h k)
    (λ h lh. ap (λ (x : ℕ). x + heat_in hours h k)
    (before.loads_are h r lh small ∙ load-same hours heats rank (set rank k to) (is_done done) (λ q. goes_before heats root q k) h r (λ q l.
    ⊎_elim (λ (same : q ≡ k). subst (λ (j : ℕ). (is_done done j && (get_or rank j 0 == r))
    ≡ (goes_before heats root j k && (get_or (set rank k to) j 0 == r))) (sym same)
    (rw (new, not-before heats root k k later (hotter-self heats k)) refl))
    (λ (other : q ≢ k). rw (get_or-set_other rank k q to 0 other, before-next heats root k q done before.root_done l inside other new before.ahead first) refl)
    (cases_eq q k)))) in
    let same_before : (p : ℕ) → p < n → p ≢ root → is_done done p ≡ true → (r : ℕ) → r < 64
    → load_with hours heats root rank p r ≡ load_with hours heats root (set rank k to) p r = λ p lp below was r small.
    max-same (length hours) (λ h. load_by hours heats rank (λ q. goes_before heats root q p) h r + heat_in hours h p)
    (λ h. load_by hours heats (set rank k to) (λ q. goes_before heats root q p) h r + heat_in hours h p)
    (λ h lh. ap (λ (x : ℕ). x + heat_in hours h p)
    (load-same hours heats rank (set rank k to) (λ q. goes_before heats root q p) (λ q. goes_before heats root q p) h r (λ q l.
    ⊎_elim (λ (same : q ≡ k). subst (λ (j : ℕ). (goes_before heats root j p && (get_or rank j 0 == r))
    ≡ (goes_before heats root j p && (get_or (set rank k to) j 0 == r))) (sym same)
    (rw (not-before heats root k p later (hotter-not heats p k (before.ahead p k lp inside below was new))) refl))
    (λ (other : q ≢ k). rw (get_or-set_other rank k q to 0 other) refl)
    (cases_eq q k)))) in
    record {
      ranks_are = record {
        size = length-set rank k to ∙ ranks_size;
        usable = set_usable ranks n k to rank ranks_size before.ranks_are.usable has;
        at_zero = get_or-set_other rank k root to 0 (λ same. later (sym same)) ∙ before.ranks_are.at_zero;
      };
      size = length-set done k true ∙ before.size;
      root_done = get_or-set_other done k root true false (λ same. later (sym same)) ∙ before.root_done;
      loads_size = size ∙ before.loads_size;
      loads_are = λ h r lh small. omega (
        arith,
        added h r lh small,
        before.loads_are h r lh small,
        load-set hours heats rank done k to h r inside ranks_size before.size new,
      );
      ahead = λ q p lq lp below is not.
          let other : p ≢ k = λ same. both_ways (is_done (set done k true) p) not (ap (is_done (set done k true)) same ∙ now_done) in
          let not_before : is_done done p ≡ false = sym (get_or-set_other done k p true false other) ∙ not in
          ⊎_elim (λ (same : q ≡ k). ap (λ (j : ℕ). is_hotter heats j p) same ∙ first p lp other not_before)
          (λ (old : q ≢ k). before.ahead q p lq lp below (sym (get_or-set_other done k q true false old) ∙ is) not_before)
          (cases_eq q k);
      sent = λ p l below is.
          ⊎_elim (λ (same : p ≡ k).
          subst (λ (j : ℕ). IsSent ranks (load_with hours heats root (set rank k to) j) inodes j limit (get_or (set rank k to) j 0)) (sym same)
          (subst (λ (t : ℕ). IsSent ranks (load_with hours heats root (set rank k to) k) inodes k limit t) (sym now)
          (sent-same ranks (made hours loads k) (load_with hours heats root (set rank k to) k) inodes k limit to ahead (rank-small ranks to has) sent)))
          (λ (old : p ≢ k).
          let was : is_done done p ≡ true = sym (get_or-set_other done k p true false old) ∙ is in
          subst (λ (t : ℕ). IsSent ranks (load_with hours heats root (set rank k to) p) inodes p limit t) (sym (get_or-set_other rank k p to 0 old))
          (sent-same ranks (load_with hours heats root rank p) (load_with hours heats root (set rank k to) p) inodes p limit (get_or rank p 0)
          (same_before p l below was) (rank-small ranks (get_or rank p 0) (before.ranks_are.usable p l)) (before.sent p l below was)))
          (cases_eq p k);
      fair = λ r is.
          let small : r < 64 = rank-small ranks r is in
          ⊎_elim (λ (same : r ≡ to).
          let sum : worst hours (λ h. slice_index more (h * 64 + to)) ≡ made hours loads k to =
          max-same (length hours) (λ h. slice_index more (h * 64 + to)) (λ h. slice_index loads (h * 64 + to) + heat_in hours h k) (λ h lh.
          added h to lh (rank-small ranks to has) ∙ ap (λ (b : Bool). slice_index loads (h * 64 + to) + cond b (heat_in hours h k) 0) (eq-eqb to to refl)) in
          subst (λ (t : ℕ). IsFairLoad ranks hours heats root limit t (worst hours (λ h. slice_index more (h * 64 + t)))) (sym same)
          (subst (λ (x : ℕ). IsFairLoad ranks hours heats root limit to x) (sym sum)
          (fair-there ranks hours heats inodes root limit rank done loads k to inside greatest before.ranks_are.usable before.loads_are sent)))
          (λ (other : r ≢ to).
          let sum : worst hours (λ h. slice_index more (h * 64 + r)) ≡ worst hours (λ h. slice_index loads (h * 64 + r)) =
          max-same (length hours) (λ h. slice_index more (h * 64 + r)) (λ h. slice_index loads (h * 64 + r)) (λ h lh.
          added h r lh small ∙ (ap (λ (b : Bool). slice_index loads (h * 64 + r) + cond b (heat_in hours h k) 0)
          (ne_eqb to r (λ same. other (sym same))) ∙ add-zero (slice_index loads (h * 64 + r)))) in
          subst (λ (x : ℕ). IsFairLoad ranks hours heats root limit r x) (sym sum) (before.fair r is))
          (cases_eq r to);
      ordered = before.ordered;
      within = omega (arith, before.within, less);
      rest = λ i high l.
          ⊎_elim (λ (same : slice_index order i ≡ k). ap (is_done (set done k true)) same ∙ now_done)
          (λ (other : slice_index order i ≢ k).
          get_or-set_other done k (slice_index order i) true false other
          ∙ before.rest i (let past : i ≢ next = λ at. other (ap (slice_index order) at ∙ sym is) in omega (arith, high, less, past)) l)
          (cases_eq (slice_index order i) k);
    }

-- the part that is next is done already
pub packed-none : (ranks : ℕ) (hours : List Hour) (heats inodes order : List ℕ) (root limit : ℕ) (rank : List ℕ) (done : List Bool)
    (loads : List ℕ) (left next : ℕ)
    → ArePacked ranks hours heats inodes order root limit rank done loads left → is_done done (slice_index order next) ≡ true → left ≡ next + 1
    → ArePacked ranks hours heats inodes order root limit rank done loads next
packed-none ranks hours heats inodes order root limit rank done loads left next before is less = record {
  ranks_are = before.ranks_are;
  size = before.size;
  root_done = before.root_done;
  loads_size = before.loads_size;
  loads_are = before.loads_are;
  ahead = before.ahead;
  sent = before.sent;
  fair = before.fair;
  ordered = before.ordered;
  within = omega (arith, before.within, less);
  rest = λ i high l.
      ⊎_elim (λ (same : i ≡ next). ap (λ (j : ℕ). is_done done (slice_index order j)) same ∙ is)
      (λ (other : i ≢ next). before.rest i (omega (arith, high, less, other)) l)
      (cases_eq i next);
}

-- the root's part is done
pub packed-first : (ranks : ℕ) (hours : List Hour) (heats inodes order : List ℕ) (root limit : ℕ) (rank : List ℕ) (done : List Bool) (loads : List ℕ) (n : ℕ)
    → IsByHeat heats order → n ≡ length heats → root < n → has_rank ranks 0 ≡ true → rank ≡ replicate n 0 → done ≡ replicate n false
    → length loads ≡ length hours * 64
    → ((h r : ℕ) → h < length hours → r < 64 → slice_index loads (h * 64 + r) ≡ pinned_at hours h r + cond (eqb 0 r) (heat_in hours h root) 0)
    → ArePacked ranks hours heats inodes order root limit rank (set done root true) loads n
packed-first ranks hours heats inodes order root limit rank done loads n ordered size_is inside has rank_is done_is size added =
    let marks : length done ≡ n = ap length done_is ∙ length-replicate n false in
    let zeros : (p : ℕ) → p < n → get_or rank p 0 ≡ 0 = λ p l. ap (λ (xs : List ℕ). get_or xs p 0) rank_is ∙ get_or-replicate n p 0 0 l in
    let falses : (p : ℕ) → p < n → get_or done p false ≡ false = λ p l. ap (λ (xs : List Bool). get_or xs p false) done_is
    ∙ get_or-replicate n p false false l in
    let only : (q : ℕ) → q < length heats → q ≢ root → is_done (set done root true) q ≡ false = λ q l other.
    get_or-set_other done root q true false other ∙ falses q (omega (arith, l, size_is)) in
    let there : is_done (set done root true) root ≡ true = get_or-set_same done root true false (omega (arith, marks, inside)) in
    record {
      ranks_are = record {
        size = ap length rank_is ∙ (length-replicate n 0 ∙ size_is);
        usable = λ p l. ap (has_rank ranks) (zeros p (omega (arith, l, size_is))) ∙ has;
        at_zero = zeros root inside;
      };
      size = length-set done root true ∙ (marks ∙ size_is);
      root_done = there;
      loads_size = size;
      loads_are = λ h r lh small.
          let f : ℕ → ℕ = λ q. cond (get_or (set done root true) q false && (get_or rank q 0 == r)) (heat_in hours h q) 0 in
          let here : f root ≡ cond (eqb 0 r) (heat_in hours h root) 0 = rw (there, zeros root inside) refl in
          let sums : sum_below (length heats) f ≡ sum_below (length heats) (λ q. 0) + cond (eqb 0 r) (heat_in hours h root) 0 =
          sum-set (length heats) root (cond (eqb 0 r) (heat_in hours h root) 0) f (λ q. 0) (omega (arith, inside, size_is)) (omega (arith, here))
          (λ q l other. rw (only q l other) refl) in
          omega (arith, added h r lh small, sums, sum_below-zero (length heats) (λ q. 0) (λ q l. refl));
      ahead = λ q p lq lp later is not. absurd (both_ways (is_done (set done root true) q) (only q lq later) is);
      sent = λ p l later is. absurd (both_ways (is_done (set done root true) p) (only p l later) is);
      fair = λ r is.
          ⊎_elim (λ (same : r ≡ 0). inr
          (inl (subst (λ (t : ℕ). worst hours (λ h. slice_index loads (h * 64 + t)) ≤ worst hours
          (λ h. pinned_at hours h 0 + heat_in hours h root)) (sym same)
          (max-least (length hours) (λ h. slice_index loads (h * 64 + 0)) (λ h. pinned_at hours h 0 + heat_in hours h root)
          (λ h lh. omega (arith, added h 0 lh (omega arith)))))))
          (λ (other : r ≢ 0). inl (max-least (length hours) (λ h. slice_index loads (h * 64 + r)) (λ h. pinned_at hours h r) (λ h lh. omega (
            arith,
            added h r lh (rank-small ranks r is),
            ap (λ (b : Bool). cond b (heat_in hours h root) 0) (ne_eqb 0 r (λ same. other (sym same))),
          ))))
          (cases_eq r 0);
      ordered = ordered;
      within = omega (arith, size_is);
      rest = λ i high l. let none : ⊥ = omega (arith, high, l, size_is) in absurd none;
    }

-- all parts are packed
pub packed-all : (ranks : ℕ) (hours : List Hour) (heats inodes order : List ℕ) (root limit : ℕ) (rank : List ℕ) (done : List Bool) (loads : List ℕ)
    → ArePacked ranks hours heats inodes order root limit rank done loads 0 → IsKeptWithin ranks hours heats inodes root limit rank
packed-all ranks hours heats inodes order root limit rank done loads packed = record {
  ranks_are = packed.ranks_are;
  sent = λ p l later. packed.sent p l later (all-done heats order done packed.ordered packed.rest p l);
}

pub loads-all : (ranks : ℕ) (hours : List Hour) (heats inodes order : List ℕ) (root limit : ℕ) (rank : List ℕ) (done : List Bool) (loads : List ℕ)
    → ArePacked ranks hours heats inodes order root limit rank done loads 0 → (r : ℕ) → r < 64
    → worst hours (λ h. slice_index loads (h * 64 + r)) ≡ load_of_parts hours heats rank r
loads-all ranks hours heats inodes order root limit rank done loads packed r small =
    max-same (length hours) (λ h. slice_index loads (h * 64 + r)) (λ h. load_in hours (length heats) (slice_index rank) h r) (λ h lh.
    packed.loads_are h r lh small ∙ load-same hours heats rank rank (is_done done) (λ q. true) h r (λ q l.
    ap (λ (b : Bool). b && (get_or rank q 0 == r)) (all-done heats order done packed.ordered packed.rest q l)))

-- where no load is within the limit, none was less elsewhere
pub largest-first : (ranks : ℕ) (hours : List Hour) (heats inodes : List ℕ) (root : ℕ) (rank : List ℕ) → IsKeptWithin ranks hours heats inodes root 0 rank
    → IsLargestFirst ranks hours heats root rank
largest-first ranks hours heats inodes root rank kept = record {
  ranks_are = kept.ranks_are;
  least = λ p r l later has.
      let sent = kept.sent p l later in
      elim sent.goes [
        | inl stays ↦ subst (λ (t : ℕ). load_with hours heats root rank p t ≤ load_with hours heats root rank p r) (sym stays.2) (omega (arith, stays.1))
        | inr moved ↦ moved.1 r has
      ];
}

-- the greatest load where all parts are packed and none is kept at home
pub fair-all : (ranks : ℕ) (hours : List Hour) (heats inodes order : List ℕ) (root : ℕ) (rank : List ℕ) (done : List Bool) (loads : List ℕ)
    → ArePacked ranks hours heats inodes order root 0 rank done loads 0 → IsNearMean ranks hours heats root (greatest_by ranks hours heats rank)
fair-all ranks hours heats inodes order root rank done loads packed =
    near-mean ranks hours heats rank root (λ r has.
    subst (λ (x : ℕ). IsFairLoad ranks hours heats root 0 r x)
    (loads-all ranks hours heats inodes order root 0 rank done loads packed r (rank-small ranks r has)) (packed.fair r has))

-- what is read of a list, whatever is read past its end
pub read-value : (xs ys : List ℕ) (i x : ℕ) → xs ≡ ys → i < length ys → x ≡ get_or xs i x → x ≡ get_or ys i 0
read-value xs ys i x same inside is = is ∙ (ap (λ (zs : List ℕ). get_or zs i x) same ∙ get_or_default ys i x 0 inside)

-- and one more part can be added to each load
pub load-room : (ranks : ℕ) (hours : List Hour) (heats inodes order : List ℕ) (root limit : ℕ) (rank : List ℕ) (done : List Bool) (loads : List ℕ) (left p : ℕ)
    → ArePacked ranks hours heats inodes order root limit rank done loads left → AreHours hours (length heats) → p < length heats
    → CanTake hours (length heats) loads p
load-room ranks hours heats inodes order root limit rank done loads left p packed are inside = record {
  size = packed.loads_size;
  inside = inside;
  sizes = are.size;
  room = λ h r l small. omega (
    arith,
    packed.loads_are h r l small,
    load-small hours heats rank (is_done done) h r,
    pinned-small hours h r are.pinned l small,
    are.total h l,
    sum_below-term (length heats) p (heat_in hours h) inside,
  );
}

-- what is evened is no hotter
pub cooler-evened : (ranks : ℕ) (hours : List Hour) (heats : List ℕ) (root enough : ℕ) (packed rank : List ℕ)
    → IsEvened ranks hours heats root enough packed rank
    → greatest_by ranks hours heats rank ≤ greatest_by ranks hours heats packed
cooler-evened ranks hours heats root enough packed rank evened = elim evened.cooler [
  | inl same ↦ le_of_eq (ap (greatest_by ranks hours heats) same)
  | inr less ↦ le_of_lt less
]

-- a greater percentage allows more
pub allowed-wider : (keep more load : ℕ) → keep ≤ more → allowed keep load ≤ allowed more load
allowed-wider keep more load le =
    let times : load / 100 * keep ≤ load / 100 * more = mul-le-mul_left (load / 100) le in
    omega (arith, times)
