-- The parts are connected, and divide what no pin holds.
use Rattle.std.proofs.Common.{◌≡◌, ◌≢◌, ℕ, zero, suc, ◌<◌, ◌≤◌, ◌+◌, List, [], ◌∷◌, ◌++◌, length, sym}
use Rattle.std.proofs.Common.{ap, ◌∙◌, refl, subst, arith, true, false, eqb, Option, Some, None, get_or, inl, inr}
use Rattle.std.specs.Prelude.{filter, is_none}
use Rattle.std.specs.List.{Contains}
use Rattle.std.proofs.lemmas.Bool.{and_from, and_parts, cases_Bool, cases_eq, cases_lt, cases_order, eq-eqb, eqb-true, false≢true}
use Rattle.mds_types.specs.Connected.{IsChain}
use Rattle.dirtree.specs.Tree.{Entry, IsTree, is_there, parent_of}
use Rattle.dirtree.proofs.Changes.{inside}
use Rattle.dirtree.proofs.Walks.{above}
use Rattle.dir_pins.specs.Pins.{below, is_unpinned, nearest_pin, own_pin}
use Rattle.dir_pins.proofs.NearestPin.{pinned, unpinned_by_parent}
use Rattle.tree_parts.specs.declared.division.Part.{Part}
use Rattle.tree_parts.specs.Parts.{greatest, is_free_top, is_member, is_top, members, part_at, parts, top_of}
use Rattle.tree_parts.specs.Division.{InPart, IsDivision, IsEdge, IsGreatest}
use Rattle.tree_parts.proofs.Elements.{Contains-map, Contains-mapped, kept_below, passes_below}
use Rattle.tree_parts.proofs.Passes.{top_of-other, top_of-top}

-- a chain with one member more at its end
chain_more : (es : List (Option Entry)) (Member : ℕ → Type 0) (from : ℕ) (chain : List ℕ) (mid to : ℕ)
    → IsChain (IsEdge es) Member from chain mid → IsEdge es mid to → Member to → IsChain (IsEdge es) Member from (chain ++ to ∷ []) to
chain_more es Member from [] mid to linked edge member = let P : ℕ → Type 0 = λ x. IsEdge es x to in (subst P (sym linked) edge, member, refl)
chain_more es Member from (next ∷ chain) mid to linked edge member = (linked.0, linked.1, chain_more es Member next chain mid to linked.2 edge member)

module _ (es : List (Option Entry)) (own : List (Option ℕ)) (tops : List ℕ) (tree : IsTree es) where
  not_root : (d : ℕ) → is_top tops d ≡ false → 0 < d
  not_root zero other = absurd (false≢true (sym other))
  not_root (suc d) other = omega arith

  -- the nearest top is a top, and has no larger number
  found : (n d : ℕ) → d ≤ n → (top_of es tops d ≤ d) × (is_top tops (top_of es tops d) ≡ true)
  found n zero few = (omega arith, refl)
  found zero (suc d) few = absurd (omega arith)
  found (suc n) (suc d) few = elim (cases_Bool (is_top tops (suc d))) [
    | inl is ↦ let same : top_of es tops (suc d) ≡ suc d = top_of-top es tops (suc d) is in (omega (arith, same), ap (is_top tops) same ∙ is)
    | inr other ↦
        let low : parent_of es (suc d) < suc d = above es (suc d) tree (omega arith) in
        let rest = found n (parent_of es (suc d)) (omega (arith, few, low)) in
        let same : top_of es tops (suc d) ≡ top_of es tops (parent_of es (suc d)) = top_of-other es tops (suc d) tree other in
        (omega (arith, same, rest.0, low), ap (is_top tops) same ∙ rest.1)
  ]

  -- what no pin holds has a parent that no pin holds
  free_parent : (d : ℕ) → 0 < d → is_unpinned es own d ≡ true → is_unpinned es own (parent_of es d) ≡ true
  free_parent d some free =
      let there : is_there es d ≡ true = (and_parts (is_there es d) (is_none (nearest_pin es own d)) free).0 in
      elim (own_pin own d) as (λ pin. own_pin own d ≡ pin → is_unpinned es own (parent_of es d) ≡ true) [
        | None ↦ λ none. unpinned_by_parent es own d tree some there none ∙ free
        | Some rank ↦ λ held. absurd (false≢true (sym (pinned es own d rank tree held) ∙ free))
      ] refl

  free_inside : (d : ℕ) → is_unpinned es own d ≡ true → d < length es
  free_inside d free = inside es d (and_parts (is_there es d) (is_none (nearest_pin es own d)) free).0

  is_in : (t d : ℕ) → is_member es own tops t d ≡ true → (is_unpinned es own d ≡ true) × (top_of es tops d ≡ t)
  is_in t d is = let both = and_parts (is_unpinned es own d) (eqb (top_of es tops d) t) is in (both.0, eqb-true (top_of es tops d) t both.1)

  member : (t d : ℕ) → is_unpinned es own d ≡ true → top_of es tops d ≡ t → is_member es own tops t d ≡ true
  member t d free same = and_from (is_unpinned es own d) (eqb (top_of es tops d) t) free (eq-eqb (top_of es tops d) t same)

  in_members : (t d : ℕ) → is_member es own tops t d ≡ true → Contains (members es own tops t) d
  in_members t d is = kept_below (is_member es own tops t) (length es) d (free_inside d (is_in t d is).0) is

  from_members : (t d : ℕ) → Contains (members es own tops t) d → is_member es own tops t d ≡ true
  from_members t d h = (passes_below (is_member es own tops t) (length es) d h).1

  -- a member other than the top has a parent that is one
  up_member : (t d : ℕ) → is_member es own tops t d ≡ true → d ≢ t → (0 < d) × (is_member es own tops t (parent_of es d) ≡ true)
  up_member t d is other =
      let both = is_in t d is in
      elim (cases_Bool (is_top tops d)) [
        | inl top ↦ absurd (other (sym (top_of-top es tops d top) ∙ both.1))
        | inr other_top ↦
            let some : 0 < d = not_root d other_top in
            (some, member t (parent_of es d) (free_parent d some both.0) (sym (top_of-other es tops d tree other_top) ∙ both.1))
      ]

  low : (t d : ℕ) → is_member es own tops t d ≡ true → t ≤ d
  low t d is = omega (arith, (is_in t d is).1, (found d d (omega arith)).0)

  -- so the top is a member
  to_top : (n t d : ℕ) → d ≤ n → is_member es own tops t d ≡ true → is_member es own tops t t ≡ true
  to_top zero t d few is = let same : d ≡ t = omega (arith, few, low t d is) in sym (ap (is_member es own tops t) same) ∙ is
  to_top (suc n) t d few is = elim (cases_eq d t) [
    | inl same ↦ sym (ap (is_member es own tops t) same) ∙ is
    | inr other ↦
        let next = up_member t d is other in
        let less : parent_of es d < d = above es d tree next.0 in
        to_top n t (parent_of es d) (omega (arith, few, less)) next.1
  ]

  -- any two members are joined: the one with the larger number isn't the top, and its parent is a member
  joined : (n t c d : ℕ) → c + d ≤ n → is_member es own tops t c ≡ true → is_member es own tops t d ≡ true
      → (chain : List ℕ) × IsChain (IsEdge es) (Contains (members es own tops t)) c chain d
  joined zero t c d few mc md = ([], omega arith)
  joined (suc n) t c d few mc md = elim (cases_order c d) [
    | inl same ↦ ([], same)
    | inr (inl less) ↦
        let next = up_member t d md (λ same. omega (arith, same, low t c mc, less)) in
        let lower : parent_of es d < d = above es d tree next.0 in
        let rest = joined n t c (parent_of es d) (omega (arith, few, lower)) mc next.1 in
        (rest.0 ++ d ∷ [], chain_more es (Contains (members es own tops t)) c rest.0 (parent_of es d) d rest.1 (inr refl) (in_members t d md))
    | inr (inr more) ↦
        let next = up_member t c mc (λ same. omega (arith, same, low t d md, more)) in
        let lower : parent_of es c < c = above es c tree next.0 in
        let rest = joined n t (parent_of es c) d (omega (arith, few, lower)) next.1 md in
        (parent_of es c ∷ rest.0, (inl refl, in_members t (parent_of es c) next.1, rest.1))
  ]

  module _ (heats : List ℕ) where
    -- a part is that of its top, which no pin holds
    is_part : (p : Part) → Contains (parts es own heats tops) p → (is_free_top es own tops p.top ≡ true) × (part_at es own heats tops p.top ≡ p)
    is_part p h =
        let from = Contains-mapped (part_at es own heats tops) (filter (is_free_top es own tops) (below (length es))) p h in
        let top : from.0 ≡ p.top = ap (λ (q : Part). q.top) from.2 in
        let free = (passes_below (is_free_top es own tops) (length es) from.0 from.1).1 in
        (sym (ap (is_free_top es own tops) top) ∙ free, sym (ap (part_at es own heats tops) top) ∙ from.2)

    nearest_is : (p : Part) (d : ℕ) → InPart es own tops p d → top_of es tops d ≡ p.top
    nearest_is p d h = (is_in p.top d (from_members p.top d h)).1

    covering : (d : ℕ) → is_unpinned es own d ≡ true → (p : Part) × Contains (parts es own heats tops) p × InPart es own tops p d
    covering d free =
        let t : ℕ = top_of es tops d in
        let here : is_member es own tops t d ≡ true = member t d free refl in
        let top_free : is_unpinned es own t ≡ true = (is_in t t (to_top d t d (omega arith) here)).0 in
        let passes : is_free_top es own tops t ≡ true = and_from (is_unpinned es own t) (is_top tops t) top_free (found d d (omega arith)).1 in (
          part_at es own heats tops t,
          Contains-map (part_at es own heats tops) (filter (is_free_top es own tops) (below (length es))) t
              (kept_below (is_free_top es own tops) (length es) t (free_inside t top_free) passes),
          in_members t d here,
        )

    pub divide : IsDivision es own heats tops (parts es own heats tops)
    divide = record {
      covered = covering;
      apart = λ p q d hp hq dp dq. sym (is_part p hp).1 ∙ ap (part_at es own heats tops) (sym (nearest_is p d dp) ∙ nearest_is q d dq) ∙ (is_part q hq).1;
      unpinned = λ p d h inside. (is_in p.top d (from_members p.top d inside)).0;
      nearest = λ p d h. nearest_is p d;
      connected = λ p h c d mc md. joined (c + d) p.top c d (omega arith) (from_members p.top c mc) (from_members p.top d md);
      top = λ p h. (and_parts (is_unpinned es own p.top) (is_top tops p.top) (is_part p h).0).1;
      has_top = λ p h.
          let both = and_parts (is_unpinned es own p.top) (is_top tops p.top) (is_part p h).0 in
          in_members p.top p.top (member p.top p.top both.0 (top_of-top es tops p.top both.1));
      heat = λ p h. sym (ap (λ (q : Part). q.heat) (is_part p h).1);
      inodes = λ p h. sym (ap (λ (q : Part). q.inodes) (is_part p h).1);
    }

bound_at : (ps : List Part) (k : ℕ) (p : Part) → k < length ps → get_or ps k p ≡ p → p.heat ≤ greatest ps
bound_at [] k p h is = absurd (omega arith)
bound_at (q ∷ ps) zero p h is = let same : q.heat ≡ p.heat = ap (λ (r : Part). r.heat) is in omega (arith, same)
bound_at (q ∷ ps) (suc k) p h is = omega (arith, bound_at ps k p (omega arith) is)

hottest : (q : Part) (ps : List Part) → (p : Part) × Contains (q ∷ ps) p × (p.heat ≡ greatest (q ∷ ps))
hottest q [] = (q, (0, omega arith, refl), omega arith)
hottest q (r ∷ ps) =
    let rest = hottest r ps in
    elim (cases_lt q.heat (greatest (r ∷ ps))) [
      | inl less ↦ (rest.0, (suc rest.1.0, omega (arith, rest.1.1), rest.1.2), omega (arith, rest.2, less))
      | inr most ↦ (q, (0, omega arith, refl), omega (arith, most))
    ]

pub greatest_is : (ps : List Part) → IsGreatest ps (greatest ps)
greatest_is [] = record { bound = λ p h. absurd (omega (arith, h.1)); reached = λ some. absurd (omega arith); none = λ h. refl }
greatest_is (q ∷ ps) = record { bound = λ p h. bound_at (q ∷ ps) h.0 p h.1 h.2; reached = λ some. hottest q ps; none = λ h. absurd (omega arith) }
