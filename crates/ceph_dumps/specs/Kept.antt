-- The members of an object that are read, where others are passed over.
use Rattle.std.specs.Prelude.{Bool, List, ℕ, Option, Some, None, if◌then◌else◌}
use Rattle.json.specs.Json.{Json, array, boolean, member, Members, no_members, null, number, object, string}

abbrev pub members_kept : (List ℕ → Bool) → Members → Members
members_kept kept no_members = no_members
members_kept kept (member key value rest) =
    if kept key then member key value (members_kept kept rest) else members_kept kept rest

-- an object without the members that are passed over
abbrev pub slim : (List ℕ → Bool) → Json → Option Json
slim kept null = None
slim kept (boolean truth) = None
slim kept (number text) = None
slim kept (string text) = None
slim kept (array items) = None
slim kept (object members) = Some (object (members_kept kept members))
