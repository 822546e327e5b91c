-- What each pin of this program brings to its rank once changes of pins are made.
use Rattle.std.specs.Prelude.{◌≡◌, ◌==◌, ◌<◌, ◌-◌, ◌++◌, ◌||◌, ℕ, zero, suc, Bool, is_some, List, [], ◌∷◌}
use Rattle.std.specs.Prelude.{length, min, nat_le, slice_index, Option, Some, None, if◌then◌else◌}
use Rattle.std.specs.List.Sorted.{IsNonDecreasingBy, IsPermutation}
use Rattle.mds_types.specs.Sums.{sum_below}
use Rattle.ceph_pins.specs.OwnList.{earlier_pin}
use Rattle.ceph_plan.specs.declared.row.PinChange.{PinChange}
use Rattle.ceph_plan.specs.declared.row.PinRow.{PinRow}
use Rattle.ceph_plan.specs.Changes.{applied}
use Rattle.ceph_plan.specs.Rule.{parent_at, target_at}
use Rattle.ceph_snapshot.specs.declared.directory.Directory.{Directory}
use Rattle.ceph_snapshot.specs.declared.held.Held.{Held}
use Rattle.ceph_snapshot.specs.Holding.{heat_at, held_at, inodes_at, most_heat, now_at}
use Rattle.ceph_report.specs.Amounts.{going_of}
use Rattle.ceph_report.specs.declared.moves.Brought.{Brought}
use Rattle.ceph_report.specs.declared.moves.Brought.TheVariants.{Heat, Inodes}
use Rattle.ceph_report.specs.declared.moves.Move.{Move}

-- the rank that this program pins row i to, once the changes are made
abbrev pub pin_after : List PinRow → List PinChange → ℕ → Option ℕ
pin_after rows changes i = applied (earlier_pin rows) changes i

abbrev pub is_pinned_after : List PinRow → List PinChange → ℕ → Bool
is_pinned_after rows changes i = is_some (pin_after rows changes i)

-- what leads directory i, which has this parent: itself where it leads, or else what leads its parent
abbrev pub leader_of : Bool → ℕ → ℕ → List ℕ → ℕ
leader_of leads parent i leaders = if leads || nat_le i parent then i else slice_index leaders parent

pub record AreLeaders (parent : ℕ → ℕ) (leads : ℕ → Bool) (n : ℕ) (leaders : List ℕ) : Type 0 where
  pub size : length leaders ≡ n
  pub led : (i : ℕ) → i < n → slice_index leaders i ≡ leader_of (leads i) (parent i) i leaders

-- what directory i has, and how much of it goes to another rank
abbrev pub brought_amount : Brought → List Directory → ℕ → ℕ
brought_amount Heat directories i = heat_at directories i
brought_amount Inodes directories i = inodes_at directories i

abbrev pub leaving_at : Brought → List Directory → List Held → List PinRow → ℕ → ℕ
leaving_at what directories holds rows i =
    going_of (now_at directories i) (held_at holds i) (target_at rows i) (brought_amount what directories i)

-- what the pin of directory i brings: what goes to another rank of all that it leads, as far as 64 bits count
abbrev pub brought_by : Brought → List Directory → List Held → List PinRow → List ℕ → ℕ → ℕ → ℕ
brought_by what directories holds rows leaders n i =
    sum_below n (λ j. if slice_index leaders j == i then leaving_at what directories holds rows j else 0)

abbrev pub brought_at : Brought → List Directory → List Held → List PinRow → List ℕ → ℕ → ℕ
brought_at what directories holds rows leaders i =
    min most_heat (brought_by what directories holds rows leaders (length rows) i)

-- the inodes that the pin of each directory brings
pub record AreBrought (directories : List Directory) (holds : List Held) (rows : List PinRow) (changes : List PinChange)
    (inodes : List ℕ) : Type 0 where
  pub leaders : List ℕ
  pub led : AreLeaders (parent_at rows) (is_pinned_after rows changes) (length rows) leaders
  pub size : length inodes ≡ length rows
  pub each : (i : ℕ) → i < length rows → slice_index inodes i ≡ brought_at Inodes directories holds rows leaders i

-- the move of a pin that brings inodes
abbrev pub pin_move : Option ℕ → ℕ → ℕ → ℕ → Option Move
pin_move None inodes heat i = None
pin_move (Some to) inodes heat i =
    if inodes == 0 then None else Some (record { inodes = inodes; heat = heat; directory = i; to = to })

abbrev pub moved_after : List Move → Option Move → List Move
moved_after moves None = moves
moved_after moves (Some one) = moves ++ (one ∷ [])

-- and of all pins below n
abbrev pub moves_below : (ℕ → Option Move) → ℕ → List Move
moves_below move zero = []
moves_below move (suc n) = moved_after (moves_below move n) (move n)

-- what each pin brings, the most inodes first. Pins that bring nothing are left out
pub record AreMoves (directories : List Directory) (holds : List Held) (rows : List PinRow) (changes : List PinChange)
    (moves : List Move) : Type 0 where
  pub leaders : List ℕ
  pub led : AreLeaders (parent_at rows) (is_pinned_after rows changes) (length rows) leaders
  pub each : IsPermutation
      (moves_below
      (λ i. pin_move (pin_after rows changes i) (brought_at Inodes directories holds rows leaders i)
      (brought_at Heat directories holds rows leaders i) i)
      (length rows))
      moves
  pub most_first : IsNonDecreasingBy (λ one. most_heat - one.inodes) moves
