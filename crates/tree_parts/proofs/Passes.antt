-- What the passes over the numbers find out.
use Rattle.std.proofs.Common.{◌≡◌, ℕ, zero, suc, ◌<◌, ◌≤◌, ◌+◌, List, [], ◌∷◌, ◌++◌, length, map, sym, ap}
use Rattle.std.proofs.Common.{◌∙◌, refl, arith, Bool, true, false, eqb, Option, get_or, set, take, max, append-nil, inl, inr}
use Rattle.std.specs.Prelude.{filter, slice_index}
use Rattle.std.proofs.lemmas.Bool.{and_from, and_right, cases_eq, ne_eqb, eq-eqb, false≢true}
use Rattle.std.proofs.lemmas.List.{get_or-set_same, get_or-set_other, map-append}
use Rattle.std.proofs.lemmas.List.Elements.{filter-append}
use Rattle.std.proofs.lemmas.List.Sums.{sum_by_push}
use Rattle.std.proofs.lemmas.Grind.{common_steps}
use Rattle.dirtree.specs.Tree.{Entry, IsTree, inodes_of, parent_of}
use Rattle.dirtree.proofs.Walks.{up_parent}
use Rattle.dir_pins.specs.Pins.{below, is_unpinned}
use Rattle.dir_pins.proofs.NearestPin.{below_more}
use Rattle.tree_parts.specs.declared.division.Part.{Part}
use Rattle.tree_parts.specs.declared.division.Total.{Total}
use Rattle.tree_parts.specs.Parts.{counted, first_top, greatest, is_counted, is_member, is_top, members, nothing, top_of, total}

greatest_next : (ps : List Part) (i j : ℕ) (d : Part) → i < length ps → j ≡ suc i → greatest (take j ps) ≡ max (get_or ps i d).heat (greatest (take i ps))
greatest_next [] i j d here next = absurd (omega arith)
greatest_next (p ∷ ps) zero j d here next = rw next refl
greatest_next (p ∷ ps) (suc i) j d here next = rw next (omega (arith, greatest_next ps i (suc i) d (omega arith) refl))

-- the hottest of one part more
pub greatest_more : (ps : List Part) (i : ℕ) (p : Part) (now before : ℕ) → i < length ps → p ≡ get_or ps i p → before ≡ greatest (take i ps)
    → now ≡ max p.heat before → now ≡ greatest (take (i + 1) ps)
greatest_more ps i p now before here is so_far more =
    let next : greatest (take (i + 1) ps) ≡ max (get_or ps i p).heat (greatest (take i ps)) = greatest_next ps i (i + 1) p here (omega arith) in
    let heat : p.heat ≡ (get_or ps i p).heat = ap (λ (q : Part). q.heat) is in
    omega (arith, next, heat, so_far, more)

pub top_of-top : (es : List (Option Entry)) (tops : List ℕ) (d : ℕ) → is_top tops d ≡ true → top_of es tops d ≡ d
top_of-top es tops zero is = refl
top_of-top es tops (suc d) is = rw is refl

pub top_of-other : (es : List (Option Entry)) (tops : List ℕ) (d : ℕ) → IsTree es → is_top tops d ≡ false → top_of es tops d ≡ top_of es tops (parent_of es d)
top_of-other es tops zero tree is = absurd (false≢true (sym is))
top_of-other es tops (suc d) tree is = rw is (ap (first_top tops) (up_parent es d tree))

-- the element that was read
pub read : {A : Type 0} (xs : List A) (n : ℕ) (v z : A) → n < length xs → v ≡ get_or xs n v → v ≡ get_or xs n z
read xs n v z inside is = grind (arith, common_steps)

-- one more place is as it should be
pub set_more : {A : Type 0} (xs : List A) (z : A) (f : ℕ → A) (n : ℕ) (v : A) → n < length xs → v ≡ f n
    → ((d : ℕ) → d < n → get_or xs d z ≡ f d) → (d : ℕ) → d < n + 1 → get_or (set xs n v) d z ≡ f d
set_more xs z f n v inside is before d h = elim (cases_eq d n) [
  | inl here ↦ rw here (get_or-set_same xs n v z inside ∙ is)
  | inr other ↦ get_or-set_other xs n d v z other ∙ before d (omega (arith, h, other))
]

pub above_more : (xs : List ℕ) (n v : ℕ) → n < length xs → v ≤ n → ((d : ℕ) → get_or xs d 0 ≤ d) → (d : ℕ) → get_or (set xs n v) d 0 ≤ d
above_more xs n v inside small before d = elim (cases_eq d n) [
  | inl here ↦ rw (here, get_or-set_same xs n v 0 inside) small
  | inr other ↦ rw (get_or-set_other xs n d v 0 other) (before d)
]

-- tests that agree below n keep the same numbers
pub filter_below : (p q : ℕ → Bool) (n : ℕ) → ((d : ℕ) → d < n → p d ≡ q d) → filter p (below n) ≡ filter q (below n)
filter_below p q zero same = refl
filter_below p q (suc n) same =
    let last : filter p (n ∷ []) ≡ filter q (n ∷ []) = rw (same n (omega arith)) refl in
    filter-append p (below n) (n ∷ []) ∙ (rw (filter_below p q n (λ d h. same d (omega arith)), last) (sym (filter-append q (below n) (n ∷ []))))

-- a total and one directory more
abbrev pub plus : Total → ℕ → ℕ → Total
plus sum heat inodes = record { heat = sum.heat + heat; inodes = sum.inodes + inodes }

pub plus-same : (sum other : Total) (heat hot inodes many : ℕ) → sum ≡ other → heat ≡ hot → inodes ≡ many → plus sum heat inodes ≡ plus other hot many
plus-same sum other heat hot inodes many same h i = rw (same, h, i) refl

total-push : (es : List (Option Entry)) (heats dirs : List ℕ) (d : ℕ)
    → total es heats (dirs ++ d ∷ []) ≡ plus (total es heats dirs) (slice_index heats d) (inodes_of es d)
total-push es heats dirs d = rw (sum_by_push (slice_index heats) dirs d, sum_by_push (inodes_of es) dirs d) refl

-- a bound of each total
pub bounded_more : (f : Total → ℕ) (totals : List Total) (size most low high top : ℕ) (more : Total) → top < length totals → top < size
    → f more ≤ f (get_or totals top nothing) + most → low + most ≤ high → ((t : ℕ) → t < size → f (get_or totals t nothing) ≤ low) → (t : ℕ)
    → t < size → f (get_or (set totals top more) t nothing) ≤ high
bounded_more f totals size most low high top more inside within fits step before t h = elim (cases_eq t top) [
  | inl here ↦ rw (here, get_or-set_same totals top more nothing inside)
      (let old : f (get_or totals top nothing) ≤ low = before top within in omega (arith, old, fits, step))
  | inr other ↦ rw (get_or-set_other totals top t more nothing other) (let old : f (get_or totals t nothing) ≤ low = before t h in omega (arith, old, step))
]

module _ (es : List (Option Entry)) (heats : List ℕ) (marks : List Bool) (tops : List ℕ) where
  pub counted_same : (n t : ℕ) → is_counted marks tops t n ≡ false → counted es heats marks tops (n + 1) t ≡ counted es heats marks tops n t
  counted_same n t is =
      let test : ℕ → Bool = is_counted marks tops t in
      let all : filter test (below (n + 1)) ≡ filter test (below n) = below_more test n ∙ (rw is (append-nil (filter test (below n)))) in
      ap (total es heats) all

  pub counted_one : (n t : ℕ) → is_counted marks tops t n ≡ true
      → counted es heats marks tops (n + 1) t ≡ plus (counted es heats marks tops n t) (slice_index heats n) (inodes_of es n)
  counted_one n t is =
      let test : ℕ → Bool = is_counted marks tops t in
      let all : filter test (below (n + 1)) ≡ filter test (below n) ++ n ∷ [] = below_more test n ∙ (rw is refl) in
      ap (total es heats) all ∙ total-push es heats (filter test (below n)) n

  -- a directory that is marked is counted to its top
  pub counted_more : (totals : List Total) (size n top : ℕ) (more : Total) → get_or marks n false ≡ true → get_or tops n 0 ≡ top
      → top < length totals → top < size → more ≡ plus (get_or totals top nothing) (slice_index heats n) (inodes_of es n)
      → ((t : ℕ) → t < size → get_or totals t nothing ≡ counted es heats marks tops n t) → (t : ℕ) → t < size
      → get_or (set totals top more) t nothing ≡ counted es heats marks tops (n + 1) t
  counted_more totals size n top more marked at inside within is before t h = elim (cases_eq t top) [
    | inl here ↦
        let one : is_counted marks tops top n ≡ true = and_from (get_or marks n false) (eqb (get_or tops n 0) top) marked (eq-eqb (get_or tops n 0) top at) in
        let now : more ≡ counted es heats marks tops (n + 1) top = is
        ∙ ap (λ (sum : Total). plus sum (slice_index heats n) (inodes_of es n)) (before top within) ∙ sym (counted_one n top one) in
        rw (here, get_or-set_same totals top more nothing inside) now
    | inr other ↦
        let none : is_counted marks tops t n ≡ false = and_right (get_or marks n false) (eqb (get_or tops n 0) t)
        (ne_eqb (get_or tops n 0) t (λ same. other (sym same ∙ at))) in
        get_or-set_other totals top t more nothing other ∙ (before t h ∙ sym (counted_same n t none))
  ]

-- what was counted in full is the total of the members
pub counted_members : (es : List (Option Entry)) (own : List (Option ℕ)) (heats : List ℕ) (marks : List Bool) (nearest tops : List ℕ)
    (t : ℕ) → ((d : ℕ) → d < length es → get_or marks d false ≡ is_unpinned es own d)
    → ((d : ℕ) → d < length es → get_or nearest d 0 ≡ top_of es tops d)
    → counted es heats marks nearest (length es) t ≡ total es heats (members es own tops t)
counted_members es own heats marks nearest tops t marked near =
    let same : filter (is_counted marks nearest t) (below (length es))
    ≡ members es own tops t = filter_below (is_counted marks nearest t) (is_member es own tops t) (length es)
    (λ d h. rw (marked d h, near d h) refl) in
    ap (total es heats) same

-- the parts of one number more
module _ {A : Type 0} (f : ℕ → A) (test : ℕ → Bool) (n : ℕ) where
  pub map_same : test n ≡ false → map f (filter test (below (n + 1))) ≡ map f (filter test (below n))
  map_same is =
      let all : filter test (below (n + 1)) ≡ filter test (below n) = below_more test n ∙ (rw is (append-nil (filter test (below n)))) in
      ap (map f) all

  pub map_one : test n ≡ true → map f (filter test (below (n + 1))) ≡ map f (filter test (below n)) ++ f n ∷ []
  map_one is =
      let all : filter test (below (n + 1)) ≡ filter test (below n) ++ n ∷ [] = below_more test n ∙ (rw is refl) in
      ap (map f) all ∙ map-append f (filter test (below n)) (n ∷ [])
