-- What holds a row, from what holds its parent. (How it is found; what it comes to is said in Rule.)
use Rattle.std.specs.Prelude.{◌≡◌, ◌==◌, ◌<◌, ◌++◌, ℕ, zero, suc, Bool, true, false, List, [], ◌∷◌}
use Rattle.std.specs.Prelude.{length, slice_index_or, Option, Some, None, is_some, if◌then◌else◌}
use Rattle.ceph_plan.specs.declared.row.PinRow.{PinRow}
use Rattle.ceph_plan.specs.declared.row.Pin.{Pin}
use Rattle.ceph_plan.specs.declared.hold.Hold.{Hold}
use Rattle.ceph_plan.specs.declared.hold.Hold.TheVariants.{Foreign, Free, Own, Above}
use Rattle.ceph_plan.specs.Rule.{AreRows, row_at, parent_at, target_at}

abbrev pub rests_at : Option ℕ → ℕ → Bool
rests_at None target = false
rests_at (Some rank) target = rank == target

abbrev pub hold_below : Hold → Bool → Bool → Hold
hold_below Foreign rests same = Foreign
hold_below Free rests same = if rests then Free else Own
hold_below Own rests same = if same then Above else Own
hold_below Above rests same = if same then Above else Own

abbrev pub hold_of : PinRow → PinRow → Hold → Hold
hold_of row parent above =
    if is_some row.foreign then Foreign
    else hold_below above (rests_at row.rest row.target) (row.target == parent.target)

abbrev pub hold_at : List Hold → ℕ → Hold
hold_at holds i = slice_index_or holds i Free

-- the holds of the rows below n are found from their parents'
pub record AreHolds (rows : List PinRow) (holds : List Hold) (n : ℕ) : Type 0 where
  pub root : 0 < n → hold_at holds 0 ≡ Free
  pub below : (i : ℕ) → 0 < i → i < n → hold_at holds i
      ≡ hold_of (row_at rows i) (row_at rows (parent_at rows i)) (hold_at holds (parent_at rows i))

-- this is what holds each of these rows
pub record HoldEach (rows : List PinRow) (holds : List Hold) : Type 0 where
  pub are : AreRows rows
  pub size : length holds ≡ length rows
  pub each : AreHolds rows holds (length rows)

abbrev pub is_own : Hold → Bool
is_own Own = true
is_own Foreign = false
is_own Free = false
is_own Above = false

-- a pin for each row below n that has a new one, by falling rows
abbrev pub pins_below : List PinRow → List Hold → ℕ → List Pin
pins_below rows holds zero = []
pins_below rows holds (suc n) =
    (if is_own (hold_at holds n) then record {
      row =
          n;
      rank = target_at rows n;
    } ∷ [] else []) ++ pins_below rows holds n
