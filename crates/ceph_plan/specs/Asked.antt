-- What is asked of export pins.
use Rattle.std.specs.Prelude.{◌≡◌, ◌==◌, ◌<◌, ◌&&◌, ◌||◌, ℕ, Bool, List, Option, Some, None}
use Rattle.std.specs.Prelude.{false, is_none, length, slice_index_or, if◌then◌else◌}
use Rattle.mds_types.specs.declared.problem.ProblemRow.{ProblemRow}
use Rattle.mds_types.specs.Problem.{now_at, parent_at}
use Rattle.ceph_plan.specs.declared.row.PinRow.{PinRow}
use Rattle.ceph_plan.specs.Rule.{row_at}
use Rattle.ceph_plan.specs.Packing.{packed_rank}
use Rattle.ceph_plan.specs.declared.proposal.OwnPins.{OwnPins}

-- what is read past the last row
abbrev pub no_pins : OwnPins
no_pins = record { foreign = None; earlier = None; is_left = false }

abbrev pub own_at : List OwnPins → ℕ → OwnPins
own_at own i = slice_index_or own i no_pins

-- where a row is while no pin holds it. The root is at rank 0. While Ceph's balancer is off the others stay where they
-- are; but one that a pin of an earlier plan has away from the row above isn't taken to stay, and neither is any while
-- the balancer is on
abbrev pub rest_where : List ProblemRow → Option ℕ → Bool → ℕ → Option ℕ
rest_where rows earlier rests i =
    if i == 0 then Some 0
    else if rests && (is_none earlier || (now_at rows i == now_at rows (parent_at rows i))) then Some (now_at rows i)
    else None

-- a row is to be at the rank of its part, and its own pins are what they are
abbrev pub asked_row : List ProblemRow → List ℕ → List ℕ → List OwnPins → Bool → ℕ → PinRow
asked_row rows part rank own rests i = record {
  parent = parent_at rows i;
  target = packed_rank rank part i;
  foreign = (own_at own i).foreign;
  earlier = (own_at own i).earlier;
  rest = rest_where rows (own_at own i).earlier rests i;
}

-- that is asked of the first n rows
pub record ArePinRows (rows : List ProblemRow) (part rank : List ℕ) (own : List OwnPins) (n : ℕ)
    (rests : Bool) (found : List PinRow) : Type 0 where
  pub size : length found ≡ n
  pub asked : (i : ℕ) → i < n → row_at found i ≡ asked_row rows part rank own rests i
