-- The rows' own pins while they are changed.
use Rattle.std.specs.Prelude.{◌≡◌, ◌≢◌, ◌<◌, ◌⊎◌, All, ℕ, zero, suc, Bool, ◌==◌, ◌&&◌, ◌++◌, not, is_some, is_none}
use Rattle.std.specs.Prelude.{List, [], ◌∷◌, length, take, Option, Some, None, nat_lt, if◌then◌else◌}
use Rattle.ceph_plan.specs.declared.hold.Hold.{Hold}
use Rattle.ceph_plan.specs.declared.row.PinChange.{PinChange}
use Rattle.ceph_plan.specs.declared.row.PinRow.{PinRow}
use Rattle.ceph_plan.specs.Rule.{IsAt, IsNearest, IsRealized, first_of, foreign_at, row_at, target_at, without}
use Rattle.ceph_plan.specs.Holds.{hold_at, is_own, rests_at}

-- the rows' own pins before: foreign ones, and those of an earlier plan
abbrev pub before_pin : List PinRow → ℕ → Option ℕ
before_pin rows i = first_of (foreign_at rows i) (row_at rows i).earlier

-- the pins once one change is made, and once all are made
abbrev pub changed : (ℕ → Option ℕ) → PinChange → ℕ → Option ℕ
changed own change i = if change.row == i then change.pin else own i

abbrev pub applied : (ℕ → Option ℕ) → List PinChange → ℕ → Option ℕ
applied own [] = own
applied own (change ∷ changes) = applied (changed own change) changes

-- each change gives its row another pin than it had before, or takes the one that it had
abbrev pub AreNeeded : List PinRow → List PinChange → Type 0
AreNeeded rows changes = All (λ change. before_pin rows change.row ≢ change.pin) changes

-- no change is of a row whose pin is to stay
abbrev pub AreUntouched : List PinRow → List PinChange → Type 0
AreUntouched rows changes = All (λ change. foreign_at rows change.row ≡ None) changes

-- without any one of these pins, but those that are to stay, its row is elsewhere
abbrev pub AreForced : List PinRow → (ℕ → Option ℕ) → Type 0
AreForced rows own =
    (i : ℕ) → foreign_at rows i ≡ None → own i ≢ None → ¬ (IsAt rows (without i own) i (target_at rows i))

-- what a pin holds that is to stay, it holds with these pins
abbrev pub StillHolds : List PinRow → (ℕ → Option ℕ) → Type 0
StillHolds rows own = (i r : ℕ) → IsNearest rows (foreign_at rows) i r → IsNearest rows own i r

-- after any first k changes each row is where it was, or where it is in the end
abbrev pub MovesOnce : List PinRow → List PinChange → Type 0
MovesOnce rows changes =
    (k i r : ℕ) → i < length rows → IsAt rows (applied (before_pin rows) (take k changes)) i r
    → IsAt rows (before_pin rows) i r ⊎ IsAt rows (applied (before_pin rows) changes) i r

-- once all changes are made, each row that no foreign pin holds is at its target, whether a pin puts it there or it
-- rests there; once some are made, each row is where it was or where it is in the end. Each change gives its row
-- another pin than it had, and without any pin of ours that is there in the end its row is elsewhere. None is of a row
-- whose pin is to stay, and what such a pin holds it still holds
pub record AreChangesFor (rows : List PinRow) (changes : List PinChange) : Type 0 where
  pub realized : IsRealized rows (applied (before_pin rows) changes)
  pub once : MovesOnce rows changes
  pub needed : AreNeeded rows changes
  pub fewest : AreForced rows (applied (before_pin rows) changes)
  pub untouched : AreUntouched rows changes
  pub kept : StillHolds rows (applied (before_pin rows) changes)

-- the new pins are set at the rows from this one on; the old ones are still there
abbrev pub while_set : (ℕ → Option ℕ) → (ℕ → Option ℕ) → ℕ → ℕ → Option ℕ
while_set old new at j = if nat_lt j at then old j else first_of (new j) (old j)

-- all new pins are set; the old ones are taken away at the rows below this one
abbrev pub while_unset : (ℕ → Option ℕ) → (ℕ → Option ℕ) → ℕ → ℕ → Option ℕ
while_unset old new at j = if nat_lt j at then new j else first_of (new j) (old j)

-- a row's own pin is its target already
abbrev pub stands : PinRow → Bool
stands row = rests_at (first_of row.foreign row.earlier) row.target

-- a new pin that the row doesn't have already
abbrev pub is_set : PinRow → Hold → Bool
is_set row hold = is_own hold && not (stands row)

-- an earlier pin that is no longer wanted
abbrev pub is_dropped : PinRow → Hold → Bool
is_dropped row hold = is_none row.foreign && (is_some row.earlier && not (is_own hold))

-- the new pins of the rows below n that they don't have already, by falling rows
abbrev pub sets_below : List PinRow → List Hold → ℕ → List PinChange
sets_below rows holds zero = []
sets_below rows holds (suc n) =
    (if is_set (row_at rows n) (hold_at holds n) then record {
      row =
          n;
      pin = Some (target_at rows n);
    } ∷ [] else []) ++ sets_below rows holds n

-- the pins of n rows from m on that are taken away, by rising rows
abbrev pub drops_from : List PinRow → List Hold → ℕ → ℕ → List PinChange
drops_from rows holds zero m = []
drops_from rows holds (suc n) m =
    (if is_dropped (row_at rows m) (hold_at holds m) then record {
      row =
          m;
      pin = None;
    } ∷ [] else []) ++ drops_from rows holds n (suc m)
