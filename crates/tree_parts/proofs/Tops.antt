-- Which directory is the top of which.
use Rattle.std.proofs.Common.{◌≡◌, ◌≢◌, ℕ, zero, suc, ◌<◌, ◌≤◌, ◌+◌, List, [], ◌∷◌, ◌++◌, sym, ap}
use Rattle.std.proofs.Common.{◌∙◌, refl, subst, arith, Bool, true, false, eqb, Option, Some, None, inl, inr}
use Rattle.std.specs.Prelude.{is_some, not}
use Rattle.std.proofs.lemmas.Bool.{and_from, and_parts, and_right, cases_Bool, cases_order, eq-eqb, eqb-true, false≢true, true≢false}
use Rattle.mds_types.specs.Connected.{IsChain}
use Rattle.dirtree.specs.Tree.{Entry, IsTree, parent_of}
use Rattle.dirtree.proofs.Walks.{above, up_parent}
use Rattle.tree_parts.specs.declared.moves.Move.{Move}
use Rattle.tree_parts.specs.Largest.{IsEdge}
use Rattle.tree_parts.specs.Moves.{first_top, is_same_move, is_top, top_of}
use Rattle.tree_parts.specs.Orders.{is_member}

same_moves : (m n : Option Move) → is_same_move m n ≡ true → m ≡ n
same_moves None n h = absurd (false≢true h)
same_moves (Some m) None h = absurd (false≢true h)
same_moves (Some m) (Some n) h =
    let both = and_parts (eqb m.from n.from) (eqb m.to n.to) h in
    let from : m.from ≡ n.from = eqb-true m.from n.from both.0 in
    let to : m.to ≡ n.to = eqb-true m.to n.to both.1 in
    let first : Some m ≡ Some (record { from = n.from; to = m.to }) = ap (λ (x : ℕ). Some (record { from = x; to = m.to })) from in
    first ∙ ap (λ (x : ℕ). Some (record { from = n.from; to = x })) to

moves_same : (m n : Option Move) → is_some n ≡ true → m ≡ n → is_same_move m n ≡ true
moves_same m None some same = absurd (false≢true some)
moves_same m (Some n) some same = rw same (and_from (eqb n.from n.from) (eqb n.to n.to) (eq-eqb n.from n.from refl) (eq-eqb n.to n.to refl))

-- a chain with one member more at its end
chain_more : (es : List (Option Entry)) (In : ℕ → Type 0) (from : ℕ) (chain : List ℕ) (mid to : ℕ) → IsChain (IsEdge es) In from chain mid
    → IsEdge es mid to → In to → IsChain (IsEdge es) In from (chain ++ to ∷ []) to
chain_more es In from [] mid to linked edge member = let P : ℕ → Type 0 = λ x. IsEdge es x to in (subst P (sym linked) edge, member, refl)
chain_more es In from (next ∷ chain) mid to linked edge member = (linked.0, linked.1, chain_more es In next chain mid to linked.2 edge member)

-- the top of what moves, which moves likewise and has no larger number
pub record HasTop (es : List (Option Entry)) (move : ℕ → Option Move) (d : ℕ) : Type 0 where
  pub low : top_of es move d ≤ d
  pub top : is_top es move (top_of es move d) ≡ true
  pub along : move (top_of es move d) ≡ move d

module _ (es : List (Option Entry)) (move : ℕ → Option Move) where
  pub top_of-top : (d : ℕ) → is_top es move d ≡ true → top_of es move d ≡ d
  top_of-top zero is = rw is refl
  top_of-top (suc d) is = rw is refl

  pub top_moves : (d : ℕ) → is_top es move d ≡ true → is_some (move d) ≡ true
  top_moves zero is = is
  top_moves (suc d) is = (and_parts (is_some (move (suc d))) (not (is_same_move (move (parent_of es (suc d))) (move (suc d)))) is).0

  -- what moves and is no top has a parent that moves likewise
  pub goes_along : (d : ℕ) → is_some (move d) ≡ true → is_top es move d ≡ false → (0 < d) × (move (parent_of es d) ≡ move d)
  goes_along zero some other = absurd (true≢false (sym some ∙ other))
  goes_along (suc d) some other =
      let same : Bool = is_same_move (move (parent_of es (suc d))) (move (suc d)) in (
        omega arith,
        same_moves (move (parent_of es (suc d))) (move (suc d)) (elim (cases_Bool same) [
          | inl alike ↦ alike
          | inr other_ ↦ absurd (true≢false (sym (and_from (is_some (move (suc d))) (not same) some (ap not other_)) ∙ other))
        ]),
      )

  pub no_top : (d : ℕ) → 0 < d → is_some (move d) ≡ true → move (parent_of es d) ≡ move d → is_top es move d ≡ false
  no_top zero h some same = absurd (omega arith)
  no_top (suc d) h some same =
      and_right (is_some (move (suc d))) (not (is_same_move (move (parent_of es (suc d))) (move (suc d))))
      (ap not (moves_same (move (parent_of es (suc d))) (move (suc d)) some same))

  module _ (tree : IsTree es) where
    pub top_of-other : (d : ℕ) → 0 < d → is_top es move d ≡ false → top_of es move d ≡ top_of es move (parent_of es d)
    top_of-other zero h other = absurd (omega arith)
    top_of-other (suc d) h other = rw other (ap (first_top es move) (up_parent es d tree))

    up_to : (d : ℕ) → is_some (move d) ≡ true → is_top es move d ≡ false → HasTop es move (parent_of es d) → HasTop es move d
    up_to d some other rest =
        let along = goes_along d some other in
        let same : top_of es move d ≡ top_of es move (parent_of es d) = top_of-other d along.0 other in
        let less : parent_of es d < d = above es d tree along.0 in
        record {
          low = omega (arith, same, less, rest.low);
          top = ap (is_top es move) same ∙ rest.top;
          along = ap move same ∙ rest.along ∙ along.1;
        }

    at_top : (d : ℕ) → is_top es move d ≡ true → HasTop es move d
    at_top d is = let same : top_of es move d ≡ d = top_of-top d is in
        record { low = omega (arith, same); top = ap (is_top es move) same ∙ is; along = ap move same }

    from_top : (n d : ℕ) → d ≤ n → is_some (move d) ≡ true → HasTop es move d
    from_top zero d few some = elim (cases_Bool (is_top es move d)) [
      | inl is ↦ at_top d is
      | inr other ↦ let along = goes_along d some other in absurd (omega (arith, along.0, few))
    ]
    from_top (suc n) d few some = elim (cases_Bool (is_top es move d)) [
      | inl is ↦ at_top d is
      | inr other ↦
          let along = goes_along d some other in
          let less : parent_of es d < d = above es d tree along.0 in
          up_to d some other (from_top n (parent_of es d) (omega (arith, few, less)) (ap is_some along.1 ∙ some))
    ]

    pub has_top : (d : ℕ) → is_some (move d) ≡ true → HasTop es move d
    has_top d some = from_top d d (omega arith) some

    pub is_in : (t d : ℕ) → is_member es move t d ≡ true → (is_some (move d) ≡ true) × (top_of es move d ≡ t)
    is_in t d is = let both = and_parts (is_some (move d)) (eqb (top_of es move d) t) is in (both.0, eqb-true (top_of es move d) t both.1)

    pub member : (t d : ℕ) → is_some (move d) ≡ true → top_of es move d ≡ t → is_member es move t d ≡ true
    member t d some same = and_from (is_some (move d)) (eqb (top_of es move d) t) some (eq-eqb (top_of es move d) t same)

    -- members move as their top does, which has no larger number
    pub alike : (t d : ℕ) → is_member es move t d ≡ true → move t ≡ move d
    alike t d is = let both = is_in t d is in sym (ap move both.1) ∙ (has_top d both.0).along

    pub low : (t d : ℕ) → is_member es move t d ≡ true → t ≤ d
    low t d is = let both = is_in t d is in omega (arith, both.1, (has_top d both.0).low)

    -- a member other than the top has a parent that is one
    pub up_member : (t d : ℕ) → is_member es move t d ≡ true → d ≢ t → (0 < d) × (is_member es move t (parent_of es d) ≡ true)
    up_member t d is other =
        let both = is_in t d is in
        elim (cases_Bool (is_top es move d)) [
          | inl top ↦ absurd (other (sym (top_of-top d top) ∙ both.1))
          | inr other_ ↦
              let along = goes_along d both.0 other_ in
              (along.0, member t (parent_of es d) (ap is_some along.1 ∙ both.0) (sym (top_of-other d along.0 other_) ∙ both.1))
        ]

    -- any two members are joined: the one with the larger number isn't the top, and its parent is a member
    pub joined : (In : ℕ → Type 0) (n t c d : ℕ) → ((e : ℕ) → is_member es move t e ≡ true → In e) → c + d ≤ n
        → is_member es move t c ≡ true → is_member es move t d ≡ true → (chain : List ℕ) × IsChain (IsEdge es) In c chain d
    joined In zero t c d within few mc md = ([], omega (arith, few))
    joined In (suc n) t c d within few mc md = elim (cases_order c d) [
      | inl same ↦ ([], same)
      | inr (inl less) ↦
          let next = up_member t d md (λ same. omega (arith, same, low t c mc, less)) in
          let lower : parent_of es d < d = above es d tree next.0 in
          let rest = joined In n t c (parent_of es d) within (omega (arith, few, lower)) mc next.1 in
          (rest.0 ++ d ∷ [], chain_more es In c rest.0 (parent_of es d) d rest.1 (inr refl) (within d md))
      | inr (inr more) ↦
          let next = up_member t c mc (λ same. omega (arith, same, low t d md, more)) in
          let lower : parent_of es c < c = above es c tree next.0 in
          let rest = joined In n t (parent_of es c) d within (omega (arith, few, lower)) next.1 md in
          (parent_of es c ∷ rest.0, (inl refl, within (parent_of es c) next.1, rest.1))
    ]
