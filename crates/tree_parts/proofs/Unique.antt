-- The words of sets leave nothing open: there is one list of orders.
use Rattle.std.proofs.Common.{◌≡◌, ℕ, zero, suc, ◌<◌, ◌+◌, ◌⊎◌, List, [], ◌∷◌, length, map, sym, ap, ◌∙◌, refl, subst, arith, get_or, Option, Some, inl, inr}
use Rattle.std.specs.List.{Contains}
use Rattle.std.specs.List.Sorted.{IsStrictlyIncreasing}
use Rattle.std.proofs.lemmas.List.{get_or-map, length-map, map-id}
use Rattle.std.proofs.lemmas.List.Elements.{Contains-get_or}
use Rattle.std.proofs.lemmas.List.Kept.{AllPairs-from_increasing}
use Rattle.mds_types.specs.Connected.{IsChain}
use Rattle.mds_types.specs.declared.order.Order.{Order}
use Rattle.dirtree.specs.Tree.{Entry}
use Rattle.tree_parts.specs.Largest.{AreOrders, IsEdge, IsOrder, Moves, top}
use Rattle.tree_parts.proofs.Numbers.{rest_contains}

first_or_later : {A : Type 0} (x y : A) (xs : List A) (k : ℕ) → k < length (x ∷ xs) → get_or (x ∷ xs) k y ≡ y → (x ≡ y) ⊎ Contains xs y
first_or_later x y xs zero h is = inl is
first_or_later x y xs (suc k) h is = inr (k, omega (arith, h), is)

module _ {A : Type 0} (key : A → ℕ) where
  first_least : (x y : A) (xs : List A) → IsStrictlyIncreasing (map key (x ∷ xs)) → Contains xs y → key x < key y
  first_least x y xs rises h =
      let at : get_or (map key xs) h.0 0 ≡ key y = get_or-map key xs h.0 y 0 h.1 ∙ ap key h.2 in
      let inside : suc h.0 < length (map key (x ∷ xs)) = rw length-map (omega (arith, h.1)) in
      let less : key x < get_or (map key xs) h.0 0 = AllPairs-from_increasing (map key (x ∷ xs)) rises 0 (suc h.0) 0 (omega arith) inside in
      omega (arith, at, less)

  rest_rises : (x : A) (xs : List A) → IsStrictlyIncreasing (map key (x ∷ xs)) → IsStrictlyIncreasing (map key xs)
  rest_rises x xs rises k h =
      let next : suc k + 1 ≡ suc (k + 1) = omega arith in
      rw next at (rises (suc k) (omega (arith, h)))

  same_first : (x y : A) (xs ys : List A) → IsStrictlyIncreasing (map key (x ∷ xs)) → IsStrictlyIncreasing (map key (y ∷ ys))
      → Contains (y ∷ ys) x → Contains (x ∷ xs) y → x ≡ y
  same_first x y xs ys rise climb to back = elim (first_or_later y x ys to.0 to.1 to.2) [
    | inl same ↦ sym same
    | inr later ↦ elim (first_or_later x y xs back.0 back.1 back.2) [
      | inl same ↦ same
      | inr after ↦ absurd (omega (arith, first_least y x ys climb later, first_least x y xs rise after))
    ]
  ]

  in_rest : (x y z : A) (xs ys : List A) → IsStrictlyIncreasing (map key (x ∷ xs)) → x ≡ y → Contains xs z → Contains (y ∷ ys) z → Contains ys z
  in_rest x y z xs ys rises same h to = elim (first_or_later y z ys to.0 to.1 to.2) [
    | inl here ↦ absurd (omega (arith, first_least x z xs rises h, ap key (same ∙ here)))
    | inr later ↦ later
  ]

  -- lists of the same elements that rise by a number are equal
  same_elements : (xs ys : List A) → IsStrictlyIncreasing (map key xs) → IsStrictlyIncreasing (map key ys)
      → ((x : A) → Contains xs x → Contains ys x) → ((x : A) → Contains ys x → Contains xs x) → xs ≡ ys
  same_elements [] [] rise climb to back = refl
  same_elements [] (y ∷ ys) rise climb to back = absurd (omega (arith, (back y (0, omega arith, refl)).1))
  same_elements (x ∷ xs) [] rise climb to back = absurd (omega (arith, (to x (0, omega arith, refl)).1))
  same_elements (x ∷ xs) (y ∷ ys) rise climb to back =
      let first : x ≡ y = same_first x y xs ys rise climb (to x (0, omega arith, refl)) (back y (0, omega arith, refl)) in
      let rest : xs ≡ ys = same_elements xs ys (rest_rises x xs rise) (rest_rises y ys climb)
      (λ z h. in_rest x y z xs ys rise first h (to z (rest_contains x z xs h)))
      (λ z h. in_rest y x z ys xs climb (sym first) h (back z (rest_contains y z ys h))) in
      rw (first, rest) refl

same_numbers : (xs ys : List ℕ) → IsStrictlyIncreasing xs → IsStrictlyIncreasing ys → ((x : ℕ) → Contains xs x → Contains ys x)
    → ((x : ℕ) → Contains ys x → Contains xs x) → xs ≡ ys
same_numbers xs ys rise climb = same_elements (λ (d : ℕ). d) xs ys (subst IsStrictlyIncreasing (sym (map-id xs)) rise)
    (subst IsStrictlyIncreasing (sym (map-id ys)) climb)

same_order : (o p : Order) → o.from ≡ p.from → o.to ≡ p.to → o.dirs ≡ p.dirs → o ≡ p
same_order o p from to dirs =
    let first : o ≡ record { from = p.from; to = o.to; dirs = o.dirs } = ap (λ (x : ℕ). record { from = x; to = o.to; dirs = o.dirs }) from in
    let second : o ≡ record { from = p.from; to = p.to; dirs = o.dirs } = first ∙ ap (λ (x : ℕ). record { from = p.from; to = x; dirs = o.dirs }) to in
    second ∙ ap (λ (x : List ℕ). record { from = p.from; to = p.to; dirs = x }) dirs

module _ (es : List (Option Entry)) (now target : List (Option ℕ)) where
  -- what is reached within one order is in any other that makes the same move and has the start
  reached : (o p : Order) (c d : ℕ) (chain : List ℕ) → IsOrder es now target o → IsOrder es now target p → o.from ≡ p.from → o.to ≡ p.to
      → IsChain (IsEdge es) (Contains o.dirs) c chain d → Contains p.dirs c → Contains p.dirs d
  reached o p c d [] is other from to linked h = subst (Contains p.dirs) linked h
  reached o p c d (next ∷ chain) is other from to linked h =
      let moves : Moves es now target p.from p.to next = rw (← from, ← to) (is.moves next linked.1) in
      reached o p next d chain is other from to linked.2 (other.largest c next h linked.0 moves)

  same_move : (a b f g d : ℕ) → Moves es now target a b d → Moves es now target f g d → (a ≡ f) × (b ≡ g)
  same_move a b f g d m n = (only a f (sym m.at ∙ n.at), only b g (sym m.aim ∙ n.aim))
    where
      only : (x y : ℕ) → Some x ≡ Some y → x ≡ y
      only x y h = cc

  within : (o p : Order) (c : ℕ) → IsOrder es now target o → IsOrder es now target p → o.from ≡ p.from → o.to ≡ p.to → Contains o.dirs c
      → Contains p.dirs c → (d : ℕ) → Contains o.dirs d → Contains p.dirs d
  within o p c is other from to ho hp d h = let way = is.connected c d ho h in reached o p c d way.0 is other from to way.1 hp

  -- an order of one list is one of any other
  listed : (os ps : List Order) → AreOrders es now target os → AreOrders es now target ps → (o : Order) → Contains os o → Contains ps o
  listed os ps are others o h =
      let is : IsOrder es now target o = are.each o h in
      let first : ℕ = top o in
      let ho : Contains o.dirs first = Contains-get_or o.dirs 0 0 is.some in
      let found = others.all first o.from o.to (is.moves first ho) in
      let p : Order = found.0 in
      let other : IsOrder es now target p = others.each p found.1 in
      let move = same_move o.from o.to p.from p.to first (is.moves first ho) (other.moves first found.2) in
      let dirs : o.dirs ≡ p.dirs = same_numbers o.dirs p.dirs is.rising other.rising (within o p first is other move.0 move.1 ho found.2)
      (within p o first other is (sym move.0) (sym move.1) found.2 ho) in
      subst (Contains ps) (sym (same_order o p move.0 move.1 dirs)) found.1

  pub unique : (os ps : List Order) → AreOrders es now target os → AreOrders es now target ps → os ≡ ps
  unique os ps are others = same_elements top os ps are.tops others.tops (listed os ps are others) (listed ps os others are)
