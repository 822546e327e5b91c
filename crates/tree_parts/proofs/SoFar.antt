-- The orders of the directories so far, and one directory more.
use Rattle.std.proofs.Common.{◌≡◌, ◌≢◌, ℕ, zero, suc, ◌<◌, ◌+◌, List, [], ◌∷◌, ◌++◌, length, map, sym, ap}
use Rattle.std.proofs.Common.{◌∙◌, refl, arith, true, false, eqb, get_or, set, append-nil, Option, Some, None, inl, inr}
use Rattle.std.specs.Prelude.{filter, is_some, not}
use Rattle.std.specs.List.{Contains, range_with_len}
use Rattle.std.proofs.lemmas.Bool.{and_left, and_right, cases_eq, cases_lt, cases_order, ne_eqb, false≢true}
use Rattle.std.proofs.lemmas.List.{get_or-map, get_or-set_other, get_or-set_same, get_or_append_left, get_or_push, length-map}
use Rattle.std.proofs.lemmas.List.{length-set, length_push, map-append, nil_from_length, same_lists}
use Rattle.std.proofs.lemmas.List.Elements.{Contains-get_or}
use Rattle.mds_types.specs.declared.order.Order.{Order}
use Rattle.dirtree.specs.Tree.{Entry, IsTree, parent_of}
use Rattle.dirtree.proofs.Walks.{above}
use Rattle.tree_parts.specs.declared.moves.Move.{Move}
use Rattle.tree_parts.specs.Found.{begun, no_order, with_dir}
use Rattle.tree_parts.specs.Moves.{is_same_move, is_top, top_of}
use Rattle.tree_parts.specs.Orders.{from_of, is_member, order_of, to_of, tops}
use Rattle.tree_parts.proofs.Numbers.{kept_more, kept_rises, map_agree, passes_below, places_rise}
use Rattle.tree_parts.proofs.Tops.{goes_along, low, member, top_moves, top_of-other, top_of-top}

-- the orders of the directories below n; and for each of them that moves, where its order is
pub record IsSoFar (es : List (Option Entry)) (move : ℕ → Option Move) (n : ℕ) (os : List Order) (places : List ℕ) : Type 0 where
  pub listed : os ≡ map (order_of es move n) (tops es move n)
  pub within : (d : ℕ) → d < n → is_some (move d) ≡ true → get_or places d 0 < length os
  pub place : (d : ℕ) → d < n → is_some (move d) ≡ true → get_or (tops es move n) (get_or places d 0) 0 ≡ top_of es move d

earlier : (d n : ℕ) → d < n + 1 → d ≢ n → d < n
earlier d n h apart = omega (arith, h, apart)

module _ (es : List (Option Entry)) (move : ℕ → Option Move) where
  pub none_yet : (places : List ℕ) → IsSoFar es move 0 [] places
  none_yet places = record { listed = refl; within = λ d h. absurd (omega (arith, h)); place = λ d h. absurd (omega (arith, h)) }

  -- an order that the next number isn't in stays
  order_stays : (n t : ℕ) → is_member es move t n ≡ false → order_of es move (n + 1) t ≡ order_of es move n t
  order_stays n t other =
      let all : filter (is_member es move t) (range_with_len 0 (n + 1))
      ≡ filter (is_member es move t) (range_with_len 0 n) = kept_more (is_member es move t) n
      ∙ (rw other (append-nil (filter (is_member es move t) (range_with_len 0 n)))) in
      ap (λ (ds : List ℕ). record { from = from_of (move t); to = to_of (move t); dirs = ds }) all

  order_grows : (n t : ℕ) → is_member es move t n ≡ true → order_of es move (n + 1) t ≡ with_dir (order_of es move n t) n
  order_grows n t is =
      let all : filter (is_member es move t) (range_with_len 0 (n + 1)) ≡ filter (is_member es move t) (range_with_len 0 n)
      ++ n ∷ [] = kept_more (is_member es move t) n ∙ (rw is refl) in
      ap (λ (ds : List ℕ). record { from = from_of (move t); to = to_of (move t); dirs = ds }) all

  tops_stay : (n : ℕ) → is_top es move n ≡ false → tops es move (n + 1) ≡ tops es move n
  tops_stay n other = kept_more (is_top es move) n ∙ (rw other (append-nil (tops es move n)))

  tops_grow : (n : ℕ) → is_top es move n ≡ true → tops es move (n + 1) ≡ tops es move n ++ n ∷ []
  tops_grow n is = kept_more (is_top es move) n ∙ (rw is refl)

  not_top : (n : ℕ) → is_some (move n) ≡ false → is_top es move n ≡ false
  not_top zero h = h
  not_top (suc n) h = and_left (is_some (move (suc n))) (not (is_same_move (move (parent_of es (suc n))) (move (suc n)))) h

  -- what does not move changes nothing
  pub skipped : (n : ℕ) (os : List Order) (places : List ℕ) → move n ≡ None → IsSoFar es move n os places → IsSoFar es move (n + 1) os places
  skipped n os places still so =
      let none : is_some (move n) ≡ false = ap is_some still in
      let same : tops es move (n + 1) ≡ tops es move n = tops_stay n (not_top n none) in
      let before = λ (d : ℕ) (h : d < n + 1) (some : is_some (move d) ≡ true). earlier d n h
      (λ here. false≢true (sym none ∙ sym (ap (λ (e : ℕ). is_some (move e)) here) ∙ some)) in
      record {
        listed = so.listed ∙ map_agree (order_of es move n) (order_of es move (n + 1)) (tops es move n)
            (λ t h. sym (order_stays n t (and_left (is_some (move n)) (eqb (top_of es move n) t) none)))
            ∙ ap (map (order_of es move (n + 1))) (sym same);
        within = λ d h some. so.within d (before d h some) some;
        place = λ d h some. ap (λ (ts : List ℕ). get_or ts (get_or places d 0) 0) same ∙ so.place d (before d h some) some;
      }

  size : (n : ℕ) (os : List Order) (places : List ℕ) → IsSoFar es move n os places → length os ≡ length (tops es move n)
  size n os places so = ap length so.listed ∙ length-map (tops es move n) (order_of es move n)

  module _ (tree : IsTree es) where
    -- no directory below a top is in its order
    none_before : (n : ℕ) → filter (is_member es move n) (range_with_len 0 n) ≡ []
    none_before n = nil_from_length (filter (is_member es move n) (range_with_len 0 n))
        (elim (cases_lt 0 (length (filter (is_member es move n) (range_with_len 0 n)))) [
          | inl some ↦
              let kept = passes_below (is_member es move n) n (get_or (filter (is_member es move n) (range_with_len 0 n)) 0 0)
              (Contains-get_or (filter (is_member es move n) (range_with_len 0 n)) 0 0 some) in
              absurd (omega (arith, kept.0, low es move tree n (get_or (filter (is_member es move n) (range_with_len 0 n)) 0 0) kept.1))
          | inr none ↦ omega (arith, none)
        ])

    first_order : (n : ℕ) (made : Move) → is_top es move n ≡ true → move n ≡ Some made → order_of es move (n + 1) n ≡ begun made n
    first_order n made is moves =
        let here : is_member es move n n ≡ true = member es move tree n n (top_moves es move n is) (top_of-top es move n is) in
        let dirs : filter (is_member es move n) (range_with_len 0 (n + 1)) ≡ n ∷ [] = kept_more (is_member es move n) n ∙ (rw (here, none_before n) refl) in
        ap (λ (ds : List ℕ). record { from = from_of (move n); to = to_of (move n); dirs = ds }) dirs
        ∙ ap (λ (m : Option Move). record { from = from_of m; to = to_of m; dirs = n ∷ [] }) moves

    -- a top begins an order
    pub begun_more : (n : ℕ) (os : List Order) (places : List ℕ) (made : Move) → n < length places → is_top es move n ≡ true
        → move n ≡ Some made → IsSoFar es move n os places → IsSoFar es move (n + 1) (os ++ begun made n ∷ []) (set places n (length os))
    begun_more n os places made inside is moves so =
        let ts : List ℕ = tops es move n in
        let many : length os ≡ length ts = size n os places so in
        let grown : tops es move (n + 1) ≡ ts ++ n ∷ [] = tops_grow n is in
        let other = λ (t : ℕ) (h : Contains ts t). (let kept = passes_below (is_top es move) n t h in
        order_stays n t (and_right (is_some (move n)) (eqb (top_of es move n) t)
        (ne_eqb (top_of es move n) t (λ same. omega (arith, kept.0, same, top_of-top es move n is))))) in
        let longer : length (os ++ begun made n ∷ []) ≡ length os + 1 = length_push os (begun made n) in
        let old = λ (d : ℕ) (other : d ≢ n). get_or-set_other places n d (length os) 0 other in
        let new : get_or (set places n (length os)) n 0 ≡ length os = get_or-set_same places n (length os) 0 inside in
        record {
          listed = ap (λ (xs : List Order). xs ++ begun made n ∷ [])
              (so.listed ∙ map_agree (order_of es move n) (order_of es move (n + 1)) ts (λ t h. sym (other t h)))
              ∙ ap (λ (o : Order). map (order_of es move (n + 1)) ts ++ o ∷ []) (sym (first_order n made is moves))
              ∙ sym (map-append (order_of es move (n + 1)) ts (n ∷ []))
              ∙ ap (map (order_of es move (n + 1))) (sym grown);
          within = λ d h some. elim (cases_eq d n) [
            | inl here ↦ rw here (omega (arith, new, longer))
            | inr apart ↦ omega (arith, old d apart, so.within d (earlier d n h apart) some, longer)
          ];
          place = λ d h some. elim (cases_eq d n) [
            | inl here ↦ rw (here, new, grown) (get_or_push ts n 0 (length os) (sym many) ∙ sym (top_of-top es move n is))
            | inr apart ↦
                let at : get_or places d 0 < length ts = omega (arith, so.within d (earlier d n h apart) some, many) in
                rw (old d apart, grown) (get_or_append_left ts (n ∷ []) 0 (get_or places d 0) at ∙ so.place d (earlier d n h apart) some)
          ];
        }

    -- tops at different places differ
    tops_differ : (n k i : ℕ) → k < length (tops es move n) → i < length (tops es move n) → k ≢ i → get_or (tops es move n) k 0 ≢ get_or (tops es move n) i 0
    tops_differ n k i hk hi other same = elim (cases_order k i) [
      | inl here ↦ absurd (other here)
      | inr (inl less) ↦ let rises = places_rise (tops es move n) k i (kept_rises (is_top es move) n) less hi in omega (arith, same, rises)
      | inr (inr more) ↦ let rises = places_rise (tops es move n) i k (kept_rises (is_top es move) n) more hk in omega (arith, same, rises)
    ]

    -- one directory more in the order of top t, which is at place i
    added : (n i t : ℕ) (os : List Order) → os ≡ map (order_of es move n) (tops es move n) → i < length (tops es move n)
        → get_or (tops es move n) i 0 ≡ t → top_of es move n ≡ t → is_some (move n) ≡ true
        → set os i (with_dir (get_or os i no_order) n) ≡ map (order_of es move (n + 1)) (tops es move n)
    added n i t os listed inside at top some =
        let ts : List ℕ = tops es move n in
        let long : length os ≡ length ts = ap length listed ∙ length-map ts (order_of es move n) in
        let sizes : length (set os i (with_dir (get_or os i no_order) n))
        ≡ length (map (order_of es move (n + 1)) ts) = length-set os i (with_dir (get_or os i no_order) n) ∙ long
        ∙ sym (length-map ts (order_of es move (n + 1))) in
        let was = λ (k : ℕ) (d : Order) (h : k < length ts). ap (λ (xs : List Order). get_or xs k d) listed ∙ get_or-map (order_of es move n) ts k 0 d h in
        let is = λ (k : ℕ) (d : Order) (h : k < length ts). get_or-map (order_of es move (n + 1)) ts k 0 d h in
        same_lists (set os i (with_dir (get_or os i no_order) n)) (map (order_of es move (n + 1)) ts) sizes (λ k d h.
        let within : k < length ts = omega (arith, h, length-set os i (with_dir (get_or os i no_order) n), long) in
        elim (cases_eq k i) [
          | inl here ↦
              let grown : order_of es move (n + 1) (get_or ts i 0)
              ≡ with_dir (order_of es move n (get_or ts i 0)) n =
              order_grows n (get_or ts i 0) (member es move tree (get_or ts i 0) n some (top ∙ sym at)) in
              rw (here, get_or-set_same os i (with_dir (get_or os i no_order) n) d (omega (arith, inside, long)))
              (ap (λ (o : Order). with_dir o n) (was i no_order inside) ∙ sym grown ∙ sym (is i d inside))
          | inr apart ↦
              let stays : order_of es move (n + 1) (get_or ts k 0)
              ≡ order_of es move n (get_or ts k 0) = order_stays n (get_or ts k 0)
              (and_right (is_some (move n)) (eqb (top_of es move n) (get_or ts k 0))
              (ne_eqb (top_of es move n) (get_or ts k 0) (λ same. tops_differ n k i within inside apart (sym same ∙ top ∙ sym at)))) in
              get_or-set_other os i k (with_dir (get_or os i no_order) n) d apart ∙ was k d within ∙ sym stays ∙ sym (is k d within)
        ])

    -- what moves as its parent does joins its parent's order
    pub joined_more : (n p : ℕ) (os : List Order) (places : List ℕ) → n < length places → is_some (move n) ≡ true → is_top es move n ≡ false
        → p ≡ parent_of es n → IsSoFar es move n os places
        → IsSoFar es move (n + 1) (set os (get_or places p 0) (with_dir (get_or os (get_or places p 0) no_order) n))
        (set places n (get_or places p 0))
    joined_more n p os places inside some other parent so =
        let ts : List ℕ = tops es move n in
        let along = goes_along es move n some other in
        let less : p < n = omega (arith, parent, above es n tree along.0) in
        let moves : is_some (move p) ≡ true = ap (λ (d : ℕ). is_some (move d)) parent ∙ ap is_some along.1 ∙ some in
        let place : ℕ = get_or places p 0 in
        let within : place < length os = so.within p less moves in
        let same : top_of es move p ≡ top_of es move n = ap (top_of es move) parent ∙ sym (top_of-other es move tree n along.0 other) in
        let at : get_or ts place 0 ≡ top_of es move n = so.place p less moves ∙ same in
        let stay : tops es move (n + 1) ≡ ts = tops_stay n other in
        let many : length os ≡ length ts = size n os places so in
        let long : length (set os place (with_dir (get_or os place no_order) n)) ≡ length os = length-set os place (with_dir (get_or os place no_order) n) in
        let old = λ (d : ℕ) (other : d ≢ n). get_or-set_other places n d place 0 other in
        let new : get_or (set places n place) n 0 ≡ place = get_or-set_same places n place 0 inside in
        record {
          listed = added n place (top_of es move n) os so.listed (omega (arith, within, many)) at refl some ∙ ap (map (order_of es move (n + 1))) (sym stay);
          within = λ d h some. elim (cases_eq d n) [
            | inl here ↦ rw here (omega (arith, new, long, within))
            | inr apart ↦ omega (arith, old d apart, so.within d (earlier d n h apart) some, long)
          ];
          place = λ d h some. elim (cases_eq d n) [
            | inl here ↦ rw (here, new, stay) at
            | inr apart ↦ rw (old d apart, stay) (so.place d (earlier d n h apart) some)
          ];
        }
