use Rattle.std.proofs.Common.{◌≡◌, ◌<◌, ℕ, List, Some}
use Rattle.std.specs.List.{slice_get}
use Rattle.ceph_dumps.specs.PathList.{path_bytes}
use Rattle.ceph_pins.specs.Left.{IsLeftBy}
use Rattle.ceph_pins.proofs.left.is_left.Given as goal

-- none so far leaves it
abbrev pub invariant-loop-at : goal.invariant-loop-at
invariant-loop-at l =
    (k : ℕ) (listed : List ℕ) → k < l.at → slice_get (path_bytes l.list) k ≡ Some listed → ¬ IsLeftBy listed l.path
