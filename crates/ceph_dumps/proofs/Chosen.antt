-- The only member of a name, and items one by one.
use Rattle.std.proofs.Common.{ℕ, List, [], ◌∷◌, drop, Option, Some, None}
use Rattle.std.proofs.Common.{Bor}
use Rattle.json.specs.Json.{Json}
use Rattle.json.specs.Value.{members_view}
use Rattle.json.specs.declared.value.Value.{Value}
use Rattle.ceph_dumps.specs.Members.{values_named, the_only}

-- the only one of values of which one may have come before
abbrev pub only_behind : Option Json → List Json → Option (Option Json)
only_behind None values = the_only values
only_behind (Some found) [] = Some (Some found)
only_behind (Some found) (value ∷ values) = None

module _ {A : Type 0} (name : List ℕ) where
  abbrev pub values_from : ℕ → List (Bor (List ℕ) × Value A) → List Json
  values_from at members = values_named name (members_view (drop at members))
