-- What the items of a list, and the values of an object, say one by one.
use Rattle.std.proofs.Common.{ℕ, List, ◌++◌, drop, Option}
use Rattle.std.proofs.Common.{option_map, Bor}
use Rattle.json.specs.Json.{Json}
use Rattle.json.specs.Value.{items_view, members_view}
use Rattle.json.specs.declared.value.Value.{Value}
use Rattle.ceph_dumps.specs.Cluster.{active_ranks}
use Rattle.ceph_dumps.specs.Members.{each}

abbrev behind : {A : Type 0} → List A → Option (List A) → Option (List A)
behind done left = option_map (λ more. done ++ more) left

module _ {A X : Type 0} (said : Json → Option A) where
  abbrev pub items_left : List A → ℕ → List (Value X) → Option (List A)
  items_left done at list = behind done (each said (items_view (drop at list)))

module _ {X : Type 0} where
  abbrev pub ranks_left : List ℕ → ℕ → List (Bor (List ℕ) × Value X) → Option (List ℕ)
  ranks_left done at daemons = behind done (active_ranks (members_view (drop at daemons)))
