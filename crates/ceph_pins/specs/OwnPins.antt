-- The pins that directories have of their own, as the planner of pins takes them.
use Rattle.std.specs.Prelude.{◌≡◌, ◌==◌, ◌<◌, ◌↔◌, ℕ, IsTrue, List, length, Option, Some, None, if◌then◌else◌}
use Rattle.ceph_plan.specs.Rule.{first_of}
use Rattle.ceph_plan.specs.declared.proposal.OwnPins.{OwnPins}
use Rattle.ceph_plan.specs.Asked.{own_at}
use Rattle.ceph_snapshot.specs.declared.directory.Directory.{Directory}
use Rattle.ceph_pins.specs.Left.{IsLeft}
use Rattle.ceph_snapshot.specs.Policies.{dir_path_at}
use Rattle.ceph_snapshot.specs.Holding.{earlier_at, is_fixed_at, now_at, pin_at}

-- the pin that is to stay: somebody else's, or else where it lies, where it is spread or may not be pinned. The root
-- has none
abbrev pub foreign_at : List Directory → ℕ → Option ℕ
foreign_at directories i =
    if i == 0 then None
    else first_of (pin_at directories i) (if is_fixed_at directories i then Some (now_at directories i) else None)

-- the pins of directory i, and whether it is to be left
pub record IsOwnPins (directories : List Directory) (list : List (List ℕ)) (i : ℕ) (own : OwnPins) : Type 0 where
  pub foreign : own.foreign ≡ foreign_at directories i
  pub earlier : own.earlier ≡ earlier_at directories i
  pub left : IsTrue own.is_left ↔ IsLeft list (dir_path_at directories i)

-- those of the first n directories, and no more
pub record AreOwnPins (directories : List Directory) (list : List (List ℕ)) (n : ℕ) (own : List OwnPins) : Type 0 where
  pub size : length own ≡ n
  pub each : (i : ℕ) → i < n → IsOwnPins directories list i (own_at own i)
