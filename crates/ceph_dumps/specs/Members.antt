-- What an object of a dump has in a member of a name, and what the items of a list say.
use Rattle.std.specs.Prelude.{Bool, List, [], ◌∷◌, ℕ, Option, Some, None, option_and_then, option_map, if◌then◌else◌}
use Rattle.std.specs.Str.{bytes_eq}
use Rattle.json.specs.Find.{as_array, as_bool, as_object, as_str}
use Rattle.json.specs.Json.{Items, Json, Members, item, member, no_items, no_members}

-- the values of the members of this name
abbrev pub values_named : List ℕ → Members → List Json
values_named name no_members = []
values_named name (member key value rest) =
    if bytes_eq key name then value ∷ values_named name rest else values_named name rest

-- the only one, where there is one; nothing where there are more
abbrev pub the_only : List Json → Option (Option Json)
the_only [] = Some None
the_only (value ∷ []) = Some (Some value)
the_only (value ∷ other ∷ rest) = None

-- a member that an object has once at most, and one that it has once
abbrev pub optional : List ℕ → Json → Option (Option Json)
optional name value = option_and_then (λ members. the_only (values_named name members)) (as_object value)

abbrev pub required : List ℕ → Json → Option Json
required name value = option_and_then (λ found. found) (optional name value)

-- the string, and the truth value, in the one member of this name
abbrev pub text_in : List ℕ → Json → Option (List ℕ)
text_in name value = option_and_then as_str (required name value)

abbrev pub truth_in : List ℕ → Json → Option Bool
truth_in name value = option_and_then as_bool (required name value)

-- what the items of a list say, if each says something
abbrev pub each : {A : Type 0} → (Json → Option A) → Items → Option (List A)
each said no_items = Some []
each said (item value rest) =
    option_and_then (λ first. option_map (λ others. first ∷ others) (each said rest)) (said value)

abbrev pub list_of : {A : Type 0} → (Json → Option A) → Json → Option (List A)
list_of said value = option_and_then (each said) (as_array value)

-- the same of the list in the one member of this name
abbrev pub list_in : {A : Type 0} → (Json → Option A) → List ℕ → Json → Option (List A)
list_in said name value = option_and_then (list_of said) (required name value)
