-- The pin that holds a directory, from that of its parent.
use Rattle.std.proofs.Common.{◌≡◌, ℕ, zero, suc, ◌<◌, ◌+◌, List, [], ◌∷◌, ◌++◌, length, map, sym, ap, ◌∙◌}
use Rattle.std.proofs.Common.{refl, arith, length-append, Bool, true, false, Option, Some, None, get_or, set, cond, add-one, inl, inr}
use Rattle.std.specs.Option.{option_map, option_map_or}
use Rattle.std.specs.Prelude.{is_some, is_none, filter}
use Rattle.std.proofs.lemmas.Bool.{and_right, cases_eq}
use Rattle.std.proofs.lemmas.List.{get_or-map, get_or-set_same, get_or-set_other, get_or_append_left, get_or_push}
use Rattle.std.proofs.lemmas.List.Elements.{filter-append}
use Rattle.std.proofs.lemmas.Grind.{common_steps}
use Rattle.dirtree.specs.declared.tree.TreeRow.{TreeRow}
use Rattle.dirtree.specs.Tree.{Entry, IsTree, entry_at, is_there, parent_of, row_at}
use Rattle.dirtree.proofs.Walks.{up_parent}
use Rattle.dir_pins.specs.Pins.{below, first_pin, is_unpinned, nearer, nearest_pin, own_pin}

nearer-none : (pin : Option ℕ) → nearer pin None ≡ pin
nearer-none None = refl
nearer-none (Some rank) = refl

pub at_root : (es : List (Option Entry)) (own : List (Option ℕ)) → nearest_pin es own 0 ≡ own_pin own 0
at_root es own = nearer-none (own_pin own 0)

pub below_root : (es : List (Option Entry)) (own : List (Option ℕ)) (d : ℕ) → IsTree es → 0 < d
    → nearest_pin es own d ≡ nearer (own_pin own d) (nearest_pin es own (parent_of es d))
below_root es own zero tree some = absurd (omega arith)
below_root es own (suc d) tree some = ap (λ (ds : List ℕ). nearer (own_pin own (suc d)) (first_pin own ds)) (up_parent es d tree)

-- its own pin holds it
pub own_holds : (es : List (Option Entry)) (own : List (Option ℕ)) (d rank : ℕ) → IsTree es → own_pin own d ≡ Some rank → nearest_pin es own d ≡ Some rank
own_holds es own zero rank tree h = at_root es own ∙ h
own_holds es own (suc d) rank tree h = below_root es own (suc d) tree (omega arith)
    ∙ ap (λ (pin : Option ℕ). nearer pin (nearest_pin es own (parent_of es (suc d)))) h

-- without one its parent's does
pub parent_holds : (es : List (Option Entry)) (own : List (Option ℕ)) (d : ℕ) → IsTree es → 0 < d → own_pin own d ≡ None
    → nearest_pin es own d ≡ nearest_pin es own (parent_of es d)
parent_holds es own d tree some h = below_root es own d tree some ∙ ap (λ (pin : Option ℕ). nearer pin (nearest_pin es own (parent_of es d))) h

-- what a row says of its directory
pub record IsRow (es : List (Option Entry)) (d : ℕ) (row : TreeRow) : Type 0 where
  pub there : is_there es d ≡ true
  pub parent : parent_of es d ≡ row.parent

row_read : (e : Option Entry) (d : ℕ) (row : TreeRow)
    → Some row ≡ option_map (λ e. record { dir = d; parent = e.parent; inodes = e.inodes }) e
    → (is_some e ≡ true) × (option_map_or (λ e. e.parent) e 0 ≡ row.parent)
row_read None d row h = cc
row_read (Some e) d row h = (refl, sym (ap (λ (r : TreeRow). r.parent) (only h)))
  where
    only : {x y : TreeRow} → Some x ≡ Some y → x ≡ y
    only h = cc

pub is_row : (es : List (Option Entry)) (d : ℕ) (row : TreeRow) → Some row ≡ row_at es d → IsRow es d row
is_row es d row h = let read = row_read (entry_at es d) d row h in record { there = read.0; parent = read.1 }

-- without a pin of its own a directory is unpinned if its parent is
pub unpinned_by_parent : (es : List (Option Entry)) (own : List (Option ℕ)) (d : ℕ) → IsTree es → 0 < d → is_there es d ≡ true
    → own_pin own d ≡ None → is_unpinned es own (parent_of es d) ≡ is_unpinned es own d
unpinned_by_parent es own d tree some there free =
    rw (tree.parents d there, there) (ap is_none (sym (parent_holds es own d tree some free)))

pub pinned : (es : List (Option Entry)) (own : List (Option ℕ)) (d rank : ℕ) → IsTree es → own_pin own d ≡ Some rank → is_unpinned es own d ≡ false
pinned es own d rank tree h = and_right (is_there es d) (is_none (nearest_pin es own d)) (ap is_none (own_holds es own d rank tree h))

read_own : (own : List (Option ℕ)) (d : ℕ) (pin : Option ℕ) → d < length own → pin ≡ get_or own d pin → own_pin own d ≡ pin
read_own own d pin inside is = grind (arith, common_steps)

-- the own pin that was read, from the list that the view hides
pub own_at : (own items : List (Option ℕ)) (d n : ℕ) (pin : Option ℕ) → items ≡ own → n ≡ d → d < length own → pin ≡ get_or items n pin → own_pin own d ≡ pin
own_at own items d n pin view at inside is = read_own own d pin inside (is ∙ (rw (view, at) refl))

pub no_some : (pin : Option ℕ) → is_some pin ≡ false → pin ≡ None
no_some None h = refl
no_some (Some rank) h = cc

-- the numbers so far and one more
pub below_more : (test : ℕ → Bool) (n : ℕ) → filter test (below (n + 1)) ≡ filter test (below n) ++ cond (test n) (n ∷ []) []
below_more test n = rw add-one (filter-append test (below n) (n ∷ []))

pub known_more : (known : List Bool) (test : ℕ → Bool) (n : ℕ) (v : Bool) → n < length known → v ≡ test n
    → ((d : ℕ) → d < n → get_or known d false ≡ test d) → (d : ℕ) → d < n + 1 → get_or (set known n v) d false ≡ test d
known_more known test n v inside is before d h = elim (cases_eq d n) [
  | inl here ↦ rw here (get_or-set_same known n v false inside ∙ is)
  | inr other ↦ get_or-set_other known n d v false other ∙ before d (omega (arith, h, other))
]

-- the mark that was read
pub read_mark : (marks : List Bool) (n : ℕ) (v : Bool) → n < length marks → v ≡ get_or marks n v → v ≡ get_or marks n false
read_mark marks n v inside is = grind (arith, common_steps)

pub length_below : (n : ℕ) → length (below n) ≡ n
length_below zero = refl
length_below (suc n) = omega (arith, length-append (below n) (n ∷ []), length_below n)

number_below : (n k d : ℕ) → k < n → get_or (below n) k d ≡ k
number_below zero k d h = absurd (omega arith)
number_below (suc n) k d h = elim (cases_eq k n) [
  | inl here ↦ rw here (get_or_push (below n) n d n (length_below n))
  | inr other ↦ get_or_append_left (below n) (n ∷ []) d k (omega (arith, h, other, length_below n)) ∙ number_below n k d (omega (arith, h, other))
]

-- what was read of a list of the numbers so far
pub read_below : (f : ℕ → Option ℕ) (n k : ℕ) (v : Option ℕ) → k < n → v ≡ get_or (map f (below n)) k v → v ≡ f k
read_below f n k v h is =
    is ∙ (get_or-map f (below n) k 0 v (omega (arith, h, length_below n)) ∙ ap f (number_below n k 0 h))

-- a number that is no directory's counts as the root's child
pub gone_above : (es : List (Option Entry)) (d : ℕ) → ◌≡◌ {A = Option TreeRow} None (row_at es d) → parent_of es d ≡ 0
gone_above es d h = on (entry_at es d) h
  where
    on : (e : Option Entry) → ◌≡◌ {A = Option TreeRow} None (option_map (λ e. record { dir = d; parent = e.parent; inodes = e.inodes }) e)
        → option_map_or (λ e. e.parent) e 0 ≡ 0
    on None h = refl
    on (Some e) h = absurd (cc)
