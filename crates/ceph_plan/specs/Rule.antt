-- Ceph's rule for export pins, and lists of pins that realize it.
use Rattle.std.specs.Prelude.{◌≡◌, ◌≢◌, ◌==◌, ◌<◌, ◌≤◌, ◌⊎◌, ℕ, zero, suc, List, [], ◌∷◌, length}
use Rattle.std.specs.Prelude.{slice_index_or, Option, Some, None, if◌then◌else◌}
use Rattle.mds_types.specs.declared.limits.TheConstants.{DIR_LIMIT}
use Rattle.ceph_plan.specs.declared.row.PinRow.{PinRow}
use Rattle.ceph_plan.specs.declared.row.Pin.{Pin}

-- what is read past the last row
abbrev pub no_row : PinRow
no_row = record { parent = 0; target = 0; foreign = None; earlier = None; rest = None }

abbrev pub row_at : List PinRow → ℕ → PinRow
row_at rows i = slice_index_or rows i no_row

abbrev pub parent_at : List PinRow → ℕ → ℕ
parent_at rows i = (row_at rows i).parent

abbrev pub target_at : List PinRow → ℕ → ℕ
target_at rows i = (row_at rows i).target

abbrev pub foreign_at : List PinRow → ℕ → Option ℕ
foreign_at rows i = (row_at rows i).foreign

abbrev pub rest_at : List PinRow → ℕ → Option ℕ
rest_at rows i = (row_at rows i).rest

-- the row this many steps above row i; the root is its own parent
abbrev pub climb : List PinRow → ℕ → ℕ → ℕ
climb rows zero i = i
climb rows (suc steps) i = climb rows steps (parent_at rows i)

-- parents come before their children; the root has no pin, and rests at its target
pub record AreRows (rows : List PinRow) : Type 0 where
  pub few : length rows ≤ DIR_LIMIT
  pub root : parent_at rows 0 ≡ 0
  pub above : (i : ℕ) → 0 < i → i < length rows → parent_at rows i < i
  pub root_free : foreign_at rows 0 ≡ None
  pub root_rests : 0 < length rows → rest_at rows 0 ≡ Some (target_at rows 0)

-- where the rows have these pins of their own, the first one from row i up is on rank r
pub record IsNearest (rows : List PinRow) (own : ℕ → Option ℕ) (i r : ℕ) : Type 0 where
  pub steps : ℕ
  pub pin : own (climb rows steps i) ≡ Some r
  pub nearer : (n : ℕ) → n < steps → own (climb rows n i) ≡ None

-- no pin at row i or above it
pub record IsFree (rows : List PinRow) (own : ℕ → Option ℕ) (i : ℕ) : Type 0 where
  pub none : (n : ℕ) → own (climb rows n i) ≡ None

-- Ceph's rule: the nearest pin at or above decides; where there is none, the directory is where it rests
abbrev pub IsAt : List PinRow → (ℕ → Option ℕ) → ℕ → ℕ → Type 0
IsAt rows own i r = IsNearest rows own i r ⊎ (IsFree rows own i × (rest_at rows i ≡ Some r))

-- a row that no foreign pin holds
pub record IsOurs (rows : List PinRow) (i : ℕ) : Type 0 where
  pub inside : i < length rows
  pub free : IsFree rows (foreign_at rows) i

-- these pins put each row of ours at its target
abbrev pub IsRealized : List PinRow → (ℕ → Option ℕ) → Type 0
IsRealized rows own = (i : ℕ) → IsOurs rows i → IsAt rows own i (target_at rows i)

-- pins that leave the foreign ones as they are, and none on the root
pub record IsChoice (rows : List PinRow) (own : ℕ → Option ℕ) : Type 0 where
  pub root : own 0 ≡ None
  pub foreign : (i r : ℕ) → foreign_at rows i ≡ Some r → own i ≡ Some r

-- the rows below the root rest alike: all where the root is, or none at a rank that is known
pub record IsSettled (rows : List PinRow) : Type 0 where
  pub same : (i j : ℕ) → 0 < i → 0 < j → i < length rows → j < length rows → rest_at rows i ≡ rest_at rows j
  pub root : (i r : ℕ) → i < length rows → rest_at rows i ≡ Some r → rest_at rows 0 ≡ Some r

-- what is read past the last pin
abbrev pub no_pin : Pin
no_pin = record { row = 0; rank = 0 }

abbrev pub pin_index : List Pin → ℕ → Pin
pin_index pins p = slice_index_or pins p no_pin

abbrev pub row_index : List Pin → ℕ → ℕ
row_index pins p = (pin_index pins p).row

-- the rank that the list pins row i to
abbrev pub pin_at : List Pin → ℕ → Option ℕ
pin_at [] i = None
pin_at (pin ∷ pins) i = if pin.row == i then Some pin.rank else pin_at pins i

-- the first that is there counts
abbrev pub first_of : Option ℕ → Option ℕ → Option ℕ
first_of None other = other
first_of (Some rank) other = Some rank

-- the rows' own pins, where the list is set in addition to the foreign ones
abbrev pub own_pin : List PinRow → List Pin → ℕ → Option ℕ
own_pin rows pins i = first_of (foreign_at rows i) (pin_at pins i)

-- the pins but that of row i
abbrev pub without : ℕ → (ℕ → Option ℕ) → ℕ → Option ℕ
without i own j = if j == i then None else own j

-- a pin for a row of ours below the root, at the row's target
pub record IsOursPinned (rows : List PinRow) (pin : Pin) : Type 0 where
  pub below : 0 < pin.row
  pub ours : IsOurs rows pin.row
  pub target : pin.rank ≡ target_at rows pin.row

-- by Ceph's rule the pins put each row of ours at its target, and what foreign pins hold stays where it is. Each is
-- for a row of ours below the root, at that row's target, and without it the row is elsewhere. Where all rows rest at
-- one rank, or at none that is known, whatever puts each row at its target pins each of these rows. A row comes before
-- each row above it, and once
pub record ArePinsFor (rows : List PinRow) (pins : List Pin) : Type 0 where
  pub realized : IsRealized rows (own_pin rows pins)
  pub kept : (i r : ℕ) → IsNearest rows (foreign_at rows) i r → IsNearest rows (own_pin rows pins) i r
  pub ours : (p : ℕ) → p < length pins → IsOursPinned rows (pin_index pins p)
  pub needed : (i : ℕ) → pin_at pins i ≢ None → ¬ (IsAt rows (without i (own_pin rows pins)) i (target_at rows i))
  pub least : IsSettled rows → (other : ℕ → Option ℕ) → IsChoice rows other → IsRealized rows other
      → (i : ℕ) → pin_at pins i ≢ None → other i ≢ None
  pub order : (p q steps : ℕ) → p < q → q < length pins → climb rows steps (row_index pins q) ≢ row_index pins p
