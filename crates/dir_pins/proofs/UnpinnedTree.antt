-- The unpinned directories, from one up to the root.
use Rattle.std.proofs.Common.{◌≡◌, ℕ, zero, suc, ◌<◌, ◌≤◌, List, [], ◌∷◌, ◌++◌, length, sym, ap}
use Rattle.std.proofs.Common.{◌∙◌, refl, subst, arith, Bool, true, false, Option, Some, None, ◌⊎◌, inl, inr}
use Rattle.std.specs.Prelude.{Contains, is_none, filter}
use Rattle.std.proofs.lemmas.Bool.{and_parts, and_right, cases_eq}
use Rattle.std.proofs.lemmas.List.Elements.{All-contains, Contains-append_cases, Contains-append_left, Contains-push}
use Rattle.std.proofs.lemmas.List.Elements.{Contains-push_cases, filter-append, filter_passes}
use Rattle.dirtree.specs.Tree.{Entry, IsTree, is_there, parent_of, up}
use Rattle.dirtree.proofs.Changes.{inside}
use Rattle.dirtree.proofs.Walks.{above}
use Rattle.dir_pins.specs.Pins.{IsAbove, IsNoneOrTree, below, is_unpinned, nearer, nearest_pin, own_pin, unpinned}
use Rattle.dir_pins.proofs.NearestPin.{below_root}

apart : (b : Bool) → b ≡ true → b ≡ false → ⊥
apart true e f = cc
apart false e f = cc

far_none : (own far : Option ℕ) → is_none (nearer own far) ≡ true → is_none far ≡ true
far_none None far e = e
far_none (Some rank) far e = cc

pub unpinned_parent : (es : List (Option Entry)) (own : List (Option ℕ)) (d : ℕ) → IsTree es → 0 < d → is_unpinned es own d ≡ true
    → is_unpinned es own (parent_of es d) ≡ true
unpinned_parent es own d tree some is =
    let parts = and_parts (is_there es d) (is_none (nearest_pin es own d)) is in
    let far = far_none (own_pin own d) (nearest_pin es own (parent_of es d)) (ap is_none (sym (below_root es own d tree some)) ∙ parts.1) in
    rw (tree.parents d parts.0) far

only : (x d : ℕ) → Contains (x ∷ []) d → x ≡ d
only x d has = elim (Contains-push_cases [] x d has) [
  | inl none ↦ let past = none.1 in absurd (omega (arith, past))
  | inr is ↦ is
]

-- each directory above an unpinned one is unpinned
climb : (es : List (Option Entry)) (own : List (Option ℕ)) → IsTree es → (steps c d : ℕ) → Contains (up es steps c) d
    → is_unpinned es own c ≡ true → is_unpinned es own d ≡ true
climb es own tree zero c d has is = subst (λ (x : ℕ). is_unpinned es own x ≡ true) (only c d has) is
climb es own tree (suc steps) zero d has is = subst (λ (x : ℕ). is_unpinned es own x ≡ true) (only 0 d has) is
climb es own tree (suc steps) (suc c) d has is = elim (Contains-append_cases (suc c ∷ []) (up es steps (parent_of es (suc c))) d has) [
  | inl here ↦ subst (λ (x : ℕ). is_unpinned es own x ≡ true) (only (suc c) d here) is
  | inr higher ↦ climb es own tree steps (parent_of es (suc c)) d higher (unpinned_parent es own (suc c) tree (omega arith) is)
]

pub pinned_below : (es : List (Option Entry)) (own : List (Option ℕ)) (d c rank : ℕ) → IsTree es → nearest_pin es own d ≡ Some rank
    → IsAbove es d c → is_unpinned es own c ≡ false
pinned_below es own d c rank tree held above = elim (is_unpinned es own c) as (λ b. is_unpinned es own c ≡ b → is_unpinned es own c ≡ false) [
  | true ↦ λ free.
      let not_free : is_unpinned es own d ≡ false = and_right (is_there es d) (is_none (nearest_pin es own d)) (ap is_none held) in
      let free_above = climb es own tree c c d above free in
      absurd (apart (is_unpinned es own d) free_above not_free)
  | false ↦ λ held. held
] refl

-- where one is unpinned, the root is
up_to_root : (es : List (Option Entry)) (own : List (Option ℕ)) → IsTree es → (n d : ℕ) → d ≤ n → is_unpinned es own d ≡ true → is_unpinned es own 0 ≡ true
up_to_root es own tree n zero within is = is
up_to_root es own tree zero (suc d) within is = absurd (omega arith)
up_to_root es own tree (suc n) (suc d) within is =
    let less = above es (suc d) tree (omega arith) in
    up_to_root es own tree n (parent_of es (suc d)) (omega (arith, less)) (unpinned_parent es own (suc d) tree (omega arith) is)

none_pass : (test : ℕ → Bool) (n : ℕ) → ((d : ℕ) → test d ≡ false) → filter test (below n) ≡ []
none_pass test zero fails = refl
none_pass test (suc n) fails = filter-append test (below n) (n ∷ []) ∙ (rw (none_pass test n fails, fails n) refl)

first_passes : (test : ℕ → Bool) (n : ℕ) → test 0 ≡ true → (rest : List ℕ) × (filter test (below (suc n)) ≡ 0 ∷ rest)
first_passes test zero is = ([], rw is refl)
first_passes test (suc n) is =
    let before = first_passes test n is in
    (before.0 ++ filter test (suc n ∷ []), filter-append test (below (suc n)) (suc n ∷ []) ∙ ap (λ (t : List ℕ). t ++ filter test (suc n ∷ [])) before.1)

passes : (test : ℕ → Bool) (n d : ℕ) → test d ≡ true → d < n → Contains (filter test (below n)) d
passes test zero d is small = absurd (omega (arith, small))
passes test (suc n) d is small =
    let split = filter-append test (below n) (n ∷ []) in
    elim (cases_eq d n) [
      | inl here ↦
          let last : filter test (n ∷ []) ≡ n ∷ [] = kept n (subst (λ (x : ℕ). test x ≡ true) here is) in
          subst (λ (x : ℕ). Contains (filter test (below (suc n))) x) (sym here)
          (subst (λ (t : List ℕ). Contains t n) (sym (split ∙ ap (λ (t : List ℕ). filter test (below n) ++ t) last))
          (Contains-push (filter test (below n)) n))
      | inr other ↦ subst (λ (t : List ℕ). Contains t d) (sym split)
          (Contains-append_left (filter test (below n)) (filter test (n ∷ [])) d (passes test n d is (omega (arith, small, other))))
    ]
  where
    kept : (n : ℕ) → test n ≡ true → filter test (n ∷ []) ≡ n ∷ []
    kept n e = rw e refl

first_of : (test : ℕ → Bool) (n : ℕ) → 0 < n → test 0 ≡ true → (rest : List ℕ) × (filter test (below n) ≡ 0 ∷ rest)
first_of test zero some is = absurd (omega (arith, some))
first_of test (suc n) some is = first_passes test n is

all_fail : (es : List (Option Entry)) (own : List (Option ℕ)) → IsTree es → is_unpinned es own 0 ≡ false → (d : ℕ) → is_unpinned es own d ≡ false
all_fail es own tree held d = elim (is_unpinned es own d) as (λ b. is_unpinned es own d ≡ b → is_unpinned es own d ≡ false) [
  | true ↦ λ free. let root = up_to_root es own tree d d (omega arith) free in absurd (apart (is_unpinned es own 0) root held)
  | false ↦ λ e. e
] refl

pub unpinned_tree : (es : List (Option Entry)) (own : List (Option ℕ)) → IsTree es → IsNoneOrTree es (unpinned es own)
unpinned_tree es own tree = record {
  top = elim (is_unpinned es own 0) as (λ b. is_unpinned es own 0 ≡ b → (unpinned es own ≡ []) ⊎ ((rest : List ℕ) × (unpinned es own ≡ 0 ∷ rest))) [
    | true ↦ λ is. inr (first_of (is_unpinned es own) (length es) (inside es 0 (and_parts (is_there es 0) (is_none (nearest_pin es own 0)) is).0) is)
    | false ↦ λ is. inl (none_pass (is_unpinned es own) (length es) (all_fail es own tree is))
  ] refl;
  parents = λ d some has.
      let is = All-contains (λ x. is_unpinned es own x ≡ true) (unpinned es own) d (filter_passes (is_unpinned es own) (below (length es))) has in
      let free = unpinned_parent es own d tree some is in
      passes (is_unpinned es own) (length es) (parent_of es d) free
      (inside es (parent_of es d) (and_parts (is_there es (parent_of es d)) (is_none (nearest_pin es own (parent_of es d))) free).0);
}
