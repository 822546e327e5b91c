-- The orders are the largest connected sets.
use Rattle.std.proofs.Common.{◌≡◌, ◌≢◌, ℕ, ◌<◌, ◌≤◌, ◌+◌, List, length, map, sym, ap, ◌∙◌}
use Rattle.std.proofs.Common.{refl, subst, arith, true, false, eqb, get_or, Option, Some, None, inl, inr}
use Rattle.std.specs.Prelude.{filter, is_some}
use Rattle.std.specs.List.{Contains, range_with_len}
use Rattle.std.specs.Option.{option_map_or}
use Rattle.std.specs.List.Sorted.{IsStrictlyIncreasing}
use Rattle.std.proofs.lemmas.Bool.{cases_Bool, cases_lt, eq-eqb, false≢true, ne_eqb}
use Rattle.std.proofs.lemmas.List.{get_or-map, get_or_default, length-map}
use Rattle.std.proofs.lemmas.List.Elements.{Contains-get_or}
use Rattle.mds_types.specs.declared.order.Order.{Order}
use Rattle.dirtree.specs.Tree.{Entry, IsTree, is_there, parent_of}
use Rattle.dirtree.proofs.Changes.{inside}
use Rattle.tree_parts.specs.declared.moves.Move.{Move}
use Rattle.tree_parts.specs.Found.{no_order}
use Rattle.tree_parts.specs.Largest.{AreOrders, IsEdge, IsOrder, Moves, top}
use Rattle.tree_parts.specs.Moves.{between, is_top, move_of, rank_at, top_of}
use Rattle.tree_parts.specs.Orders.{from_of, is_member, order_of, orders, to_of, tops}
use Rattle.tree_parts.proofs.Numbers.{Contains-map, Contains-mapped, kept_below, kept_rises, passes_below, places_rise}
use Rattle.tree_parts.proofs.Tops.{alike, has_top, is_in, joined, low, member, no_top, top_moves, top_of-other, top_of-top, up_member}

-- what a move between two ranks says of them
record IsBetween (now target : Option ℕ) (from to : ℕ) : Type 0 where
  at : now ≡ Some from
  aim : target ≡ Some to
  away : from ≢ to

between_ranks : (now target : Option ℕ) → is_some (between now target) ≡ true → IsBetween now target (from_of (between now target)) (to_of (between now target))
between_ranks None target h = absurd (false≢true h)
between_ranks (Some from) None h = absurd (false≢true h)
between_ranks (Some from) (Some to) h = elim (cases_Bool (eqb from to)) [
  | inl same ↦ absurd (false≢true (rw same at h))
  | inr other ↦ rw other (record { at = refl; aim = refl; away = λ same. false≢true (sym other ∙ eq-eqb from to same) })
]

ranks_between : (now target : Option ℕ) (from to : ℕ) → now ≡ Some from → target ≡ Some to → from ≢ to
    → between now target ≡ Some (record { from = from; to = to })
ranks_between now target from to at aim away = rw (at, aim, ne_eqb from to away) refl

known : (m : Option Move) → is_some m ≡ true → m ≡ Some (record { from = from_of m; to = to_of m })
known None h = absurd (false≢true h)
known (Some m) h = refl

module _ (es : List (Option Entry)) (now target : List (Option ℕ)) where
  -- what the definition's moves are in the words of ranks
  pub moves_of : (d : ℕ) → is_some (move_of es now target d) ≡ true
      → Moves es now target (from_of (move_of es now target d)) (to_of (move_of es now target d)) d
  moves_of d some = elim (cases_Bool (is_there es d)) [
    | inl there ↦
        let is = between_ranks (rank_at now d) (rank_at target d) (rw there at some) in
        rw there (record { there = there; at = is.at; aim = is.aim; away = is.away })
    | inr gone ↦ absurd (false≢true (rw gone at some))
  ]

  pub move_made : (from to d : ℕ) → Moves es now target from to d → move_of es now target d ≡ Some (record { from = from; to = to })
  move_made from to d m = rw m.there (ranks_between (rank_at now d) (rank_at target d) from to m.at m.aim m.away)

  move_inside : (d : ℕ) → is_some (move_of es now target d) ≡ true → d < length es
  move_inside d some = let is = moves_of d some in inside es d is.there

-- the directories of the order of a top
abbrev dirs_of : List (Option Entry) → (ℕ → Option Move) → ℕ → List ℕ
dirs_of es move t = filter (is_member es move t) (range_with_len 0 (length es))

root_parent : (es : List (Option Entry)) → IsTree es → parent_of es 0 ≡ 0
root_parent es tree = ap (λ (e : Option Entry). option_map_or (λ e. e.parent) e 0) tree.rooted

module _ (es : List (Option Entry)) (now target : List (Option ℕ)) (tree : IsTree es) where
  in_dirs : (t d : ℕ) → is_member es (move_of es now target) t d ≡ true → Contains (dirs_of es (move_of es now target) t) d
  in_dirs t d is = kept_below (is_member es (move_of es now target) t) (length es) d
      (move_inside es now target d (is_in es (move_of es now target) tree t d is).0) is

  from_dirs : (t d : ℕ) → Contains (dirs_of es (move_of es now target) t) d → is_member es (move_of es now target) t d ≡ true
  from_dirs t d h = (passes_below (is_member es (move_of es now target) t) (length es) d h).1

  top_in : (t : ℕ) → is_top es (move_of es now target) t ≡ true → is_member es (move_of es now target) t t ≡ true
  top_in t is = member es (move_of es now target) tree t t (top_moves es (move_of es now target) t is) (top_of-top es (move_of es now target) t is)

  -- a member's neighbour that moves likewise is a member
  beside : (t c d : ℕ) → is_member es (move_of es now target) t c ≡ true → IsEdge es c d → move_of es now target d ≡ move_of es now target c
      → is_member es (move_of es now target) t d ≡ true
  beside t c d is edge same =
      let both = is_in es (move_of es now target) tree t c is in
      let some : is_some (move_of es now target d) ≡ true = ap is_some same ∙ both.0 in
      elim edge [
        | inl up ↦ elim (cases_lt 0 c) [
          | inl low ↦
              let other : is_top es (move_of es now target) c ≡ false = no_top es (move_of es now target) c low both.0 (ap (move_of es now target) up ∙ same) in
              member es (move_of es now target) tree t d some (sym (ap (top_of es (move_of es now target)) up)
              ∙ sym (top_of-other es (move_of es now target) tree c low other) ∙ both.1)
          | inr root ↦
              let zero_ : c ≡ 0 = omega (arith, root) in
              let here : c ≡ d = zero_ ∙ sym (root_parent es tree) ∙ sym (ap (parent_of es) zero_) ∙ up in
              sym (ap (is_member es (move_of es now target) t) here) ∙ is
        ]
        | inr down ↦ elim (cases_lt 0 d) [
          | inl low ↦
              let other : is_top es (move_of es now target) d ≡ false =
              no_top es (move_of es now target) d low some (ap (move_of es now target) down ∙ sym same) in
              member es (move_of es now target) tree t d some (top_of-other es (move_of es now target) tree d low other
              ∙ ap (top_of es (move_of es now target)) down ∙ both.1)
          | inr root ↦
              let zero_ : d ≡ 0 = omega (arith, root) in
              let here : c ≡ d = sym down ∙ ap (parent_of es) zero_ ∙ root_parent es tree ∙ sym zero_ in
              sym (ap (is_member es (move_of es now target) t) here) ∙ is
        ]
      ]

  member_moves : (t d : ℕ) → is_member es (move_of es now target) t d ≡ true
      → Moves es now target (from_of (move_of es now target t)) (to_of (move_of es now target t)) d
  member_moves t d is =
      let P : Option Move → Type 0 = λ m. Moves es now target (from_of m) (to_of m) d in
      subst P (sym (alike es (move_of es now target) tree t d is)) (moves_of es now target d (is_in es (move_of es now target) tree t d is).0)

  -- the first directory of an order is its top
  first_is : (t : ℕ) → is_top es (move_of es now target) t ≡ true → get_or (dirs_of es (move_of es now target) t) 0 0 ≡ t
  first_is t top =
      let at = in_dirs t t (top_in t top) in
      let dirs : List ℕ = dirs_of es (move_of es now target) t in
      let some : 0 < length dirs = omega (arith, at.1) in
      let here : get_or dirs at.0 0 ≡ t = get_or_default dirs at.0 0 t at.1 ∙ at.2 in
      elim (cases_lt 0 at.0) [
        | inl later ↦
            let less : get_or dirs 0 0 < get_or dirs at.0 0 = places_rise dirs 0 at.0
            (kept_rises (is_member es (move_of es now target) t) (length es)) later at.1 in
            let least : t ≤ get_or dirs 0 0 = low es (move_of es now target) tree t (get_or dirs 0 0)
            (from_dirs t (get_or dirs 0 0) (Contains-get_or dirs 0 0 some)) in
            absurd (omega (arith, less, least, here))
        | inr first ↦ let zero_ : at.0 ≡ 0 = omega (arith, first) in sym (ap (λ (k : ℕ). get_or dirs k 0) zero_) ∙ here
      ]

  is_order : (t : ℕ) → is_top es (move_of es now target) t ≡ true → IsOrder es now target (order_of es (move_of es now target) (length es) t)
  is_order t leads = record {
    some = (let first = in_dirs t t (top_in t leads) in omega (arith, first.1));
    rising = kept_rises (is_member es (move_of es now target) t) (length es);
    moves = λ d h. member_moves t d (from_dirs t d h);
    connected = λ c d hc hd. joined es (move_of es now target) tree (Contains (dirs_of es (move_of es now target) t)) (c + d) t c d
        (in_dirs t) (omega arith) (from_dirs t c hc) (from_dirs t d hd);
    largest = λ c d hc edge moves.
        let is = from_dirs t c hc in
        let same : move_of es now target d ≡ move_of es now target t =
        move_made es now target (from_of (move_of es now target t)) (to_of (move_of es now target t)) d moves
        ∙ sym (known (move_of es now target t) (top_moves es (move_of es now target) t leads)) in
        in_dirs t d (beside t c d is edge (same ∙ alike es (move_of es now target) tree t c is));
    below_top = λ d h other. in_dirs t (parent_of es d)
        (up_member es (move_of es now target) tree t d (from_dirs t d h) (λ same. other (same ∙ sym (first_is t leads)))).1;
  }

  -- an order is that of a top
  record IsOfTop (o : Order) (t : ℕ) : Type 0 where
    is : is_top es (move_of es now target) t ≡ true
    order : order_of es (move_of es now target) (length es) t ≡ o

  of_top : (o : Order) → Contains (orders es now target) o → (t : ℕ) × IsOfTop o t
  of_top o h =
      let from = Contains-mapped (order_of es (move_of es now target) (length es)) (tops es (move_of es now target) (length es)) o h in
      (from.0, record { is = (passes_below (is_top es (move_of es now target)) (length es) from.0 from.1).1; order = from.2 })

  top_by : (o : Order) (t d : ℕ) → IsOfTop o t → Contains o.dirs d → top_of es (move_of es now target) d ≡ t
  top_by o t d of h =
      let P : Order → Type 0 = λ o. Contains o.dirs d in
      (is_in es (move_of es now target) tree t d (from_dirs t d (subst P (sym of.order) h))).1

  all_in : (d from to : ℕ) → Moves es now target from to d → (o : Order) × Contains (orders es now target) o × Contains o.dirs d
  all_in d from to moves =
      let some : is_some (move_of es now target d) ≡ true = ap is_some (move_made es now target from to d moves) in
      let has = has_top es (move_of es now target) tree d some in
      let t : ℕ = top_of es (move_of es now target) d in
      let inside : t < length es = move_inside es now target t (top_moves es (move_of es now target) t has.top) in (
        order_of es (move_of es now target) (length es) t,
        Contains-map (order_of es (move_of es now target) (length es)) (tops es (move_of es now target) (length es)) t
            (kept_below (is_top es (move_of es now target)) (length es) t inside has.top),
        in_dirs t d (member es (move_of es now target) tree t d some refl),
      )

  top_at : (k : ℕ) → k < length (tops es (move_of es now target) (length es))
      → get_or (map top (orders es now target)) k 0 ≡ get_or (tops es (move_of es now target) (length es)) k 0
  top_at k h =
      let f : ℕ → Order = order_of es (move_of es now target) (length es) in
      let ts : List ℕ = tops es (move_of es now target) (length es) in
      let is : is_top es (move_of es now target) (get_or ts k 0)
      ≡ true = (passes_below (is_top es (move_of es now target)) (length es) (get_or ts k 0) (Contains-get_or ts k 0 h)).1 in
      get_or-map top (map f ts) k no_order 0 (rw (length-map ts f) h) ∙ ap top (get_or-map f ts k 0 no_order h) ∙ first_is (get_or ts k 0) is

  tops_rise : IsStrictlyIncreasing (map top (orders es now target))
  tops_rise k h =
      let ts : List ℕ = tops es (move_of es now target) (length es) in
      let size : length (map top (orders es now target)) ≡ length ts = length-map (orders es now target) top
      ∙ length-map ts (order_of es (move_of es now target) (length es)) in
      let here = top_at k (omega (arith, h, size)) in
      let next = top_at (k + 1) (omega (arith, h, size)) in
      let rises : get_or ts k 0 < get_or ts (k + 1) 0 = kept_rises (is_top es (move_of es now target)) (length es) k (omega (arith, h, size)) in
      omega (arith, here, next, rises)

  pub are_orders : AreOrders es now target (orders es now target)
  are_orders = record {
    each = λ o h. (let of = of_top o h in subst (IsOrder es now target) of.1.order (is_order of.0 of.1.is));
    all = all_in;
    once = λ o p d ho hp d_o d_p.
        let first = of_top o ho in
        let second = of_top p hp in
        sym first.1.order ∙ ap (order_of es (move_of es now target) (length es))
        (sym (top_by o first.0 d first.1 d_o) ∙ top_by p second.0 d second.1 d_p) ∙ second.1.order;
    tops = tops_rise;
  }
