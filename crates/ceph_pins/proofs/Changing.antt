-- Pins after changes, and after the changes that undo them.
use Rattle.std.proofs.Common.{◌≡◌, ◌∙◌, ◌==◌, ◌<◌, ◌+◌, ℕ, false, true, List, [], ◌∷◌, ◌++◌, Option, get_or, length, map, take, refl, ap, ⊎_elim}
use Rattle.std.proofs.lemmas.Bool.{cases_Bool, eqb-true, both_ways}
use Rattle.std.proofs.lemmas.List.{take_more}
use Rattle.std.proofs.lemmas.Grind.{reverse_onto}
use Rattle.ceph_plan.specs.Changes.{applied, before_pin, changed}
use Rattle.ceph_plan.specs.declared.row.PinChange.{PinChange}
use Rattle.ceph_plan.specs.declared.row.PinRow.{PinRow}
use Rattle.ceph_pins.specs.Back.{inverted, restored}
use Rattle.ceph_pins.specs.Standing.{is_changed}

-- one more change at the end
pub applied_more : (own : ℕ → Option ℕ) (changes : List PinChange) (change : PinChange) (i : ℕ)
    → applied own (changes ++ change ∷ []) i ≡ changed (applied own changes) change i
applied_more own [] change i = refl
applied_more own (first ∷ changes) change i = applied_more (changed own first) changes change i

-- the first changes, and one more of them
pub applied_next : (own : ℕ → Option ℕ) (changes : List PinChange) (n : ℕ) (d : PinChange) (i : ℕ) → n < length changes
    → applied own (take (n + 1) changes) i ≡ changed (applied own (take n changes)) (get_or changes n d) i
applied_next own changes n d i inside =
    ap (λ (those : List PinChange). applied own those i) (take_more changes n d inside) ∙ applied_more own (take n changes) (get_or changes n d) i

inverted_more : (rows : List PinRow) (change : PinChange) (changes : List PinChange)
    → inverted rows (change ∷ changes) ≡ inverted rows changes ++ restored rows change ∷ []
inverted_more rows change changes = reverse_onto (map (restored rows) changes) (restored rows change) []

-- what undoes a change and then others
last : (rows : List PinRow) (own : ℕ → Option ℕ) (change : PinChange) (changes : List PinChange) (i : ℕ)
    → applied own (inverted rows (change ∷ changes)) i ≡ changed (applied own (inverted rows changes)) (restored rows change) i
last rows own change changes i =
    ap (λ (those : List PinChange). applied own those i) (inverted_more rows change changes) ∙ applied_more own (inverted rows changes) (restored rows change) i

hits : (rows : List PinRow) (own : ℕ → Option ℕ) (change : PinChange) (i : ℕ) → (change.row == i) ≡ true
    → changed own (restored rows change) i ≡ before_pin rows i
hits rows own change i is = rw is (ap (before_pin rows) (eqb-true change.row i is))

misses : (own : ℕ → Option ℕ) (change : PinChange) (i : ℕ) → (change.row == i) ≡ false → changed own change i ≡ own i
misses own change i is = rw is refl

-- a row that has its old pin keeps it
stays : (rows : List PinRow) (own : ℕ → Option ℕ) (changes : List PinChange) (i : ℕ) → own i ≡ before_pin rows i
    → applied own (inverted rows changes) i ≡ before_pin rows i
stays rows own [] i same = same
stays rows own (change ∷ changes) i same =
    last rows own change changes i
    ∙ ⊎_elim (λ (is : (change.row == i) ≡ true). hits rows (applied own (inverted rows changes)) change i is)
    (λ (is : (change.row == i) ≡ false). misses (applied own (inverted rows changes)) (restored rows change) i is ∙ stays rows own changes i same)
    (cases_Bool (change.row == i))

-- a row that was changed gets its old pin
returns : (rows : List PinRow) (own : ℕ → Option ℕ) (changes : List PinChange) (i : ℕ) → is_changed changes i ≡ true
    → applied own (inverted rows changes) i ≡ before_pin rows i
returns rows own [] i some = absurd (both_ways false refl some)
returns rows own (change ∷ changes) i some =
    last rows own change changes i
    ∙ ⊎_elim (λ (is : (change.row == i) ≡ true). hits rows (applied own (inverted rows changes)) change i is)
    (λ (is : (change.row == i) ≡ false). misses (applied own (inverted rows changes)) (restored rows change) i is ∙ returns rows own changes i (rw is at some))
    (cases_Bool (change.row == i))

-- a row that wasn't changed has its old pin
untouched : (own : ℕ → Option ℕ) (changes : List PinChange) (i : ℕ) → is_changed changes i ≡ false → applied own changes i ≡ own i
untouched own [] i none = refl
untouched own (change ∷ changes) i none =
    ⊎_elim (λ (is : (change.row == i) ≡ true). absurd (both_ways true (rw is at none) refl))
    (λ (is : (change.row == i) ≡ false). untouched (changed own change) changes i (rw is at none) ∙ misses own change i is)
    (cases_Bool (change.row == i))

-- changes and what undoes them leave each row its pin
pub undone : (rows : List PinRow) (changes : List PinChange) (i : ℕ) → applied (applied (before_pin rows) changes) (inverted rows changes) i ≡ before_pin rows i
undone rows changes i =
    ⊎_elim (λ (is : is_changed changes i ≡ true). returns rows (applied (before_pin rows) changes) changes i is)
    (λ (is : is_changed changes i ≡ false). stays rows (applied (before_pin rows) changes) changes i (untouched (before_pin rows) changes i is))
    (cases_Bool (is_changed changes i))
