-- What is said by what the reader takes from the tokens of a text.
use Rattle.std.specs.Prelude.{List, [], ◌∷◌, ℕ, Option, Some, None, option_and_then, option_map}
use Rattle.json.specs.Json.{Json, Members}
use Rattle.json.specs.Token.{Token}
use Rattle.ceph_dumps.specs.Members.{list_of, values_named, the_only}

-- what a part of the text says, and the tokens after it
abbrev pub said_of : {A B : Type 0} → (A → Option B) → Option (A × List Token) → Option (B × List Token)
said_of said None = None
said_of said (Some part) = option_map (λ what. (what, part.1)) (said part.0)

-- what a value says that need not be there
abbrev pub if_any : {A : Type 0} → (Json → Option A) → Option Json → Option (Option A)
if_any said None = Some None
if_any said (Some value) = option_map Some (said value)

-- what the list in the member of this name says, where there is one
abbrev pub list_named : {A : Type 0} → (Json → Option A) → List ℕ → Members → Option (Option (List A))
list_named said name members = option_and_then (if_any (list_of said)) (the_only (values_named name members))

-- what follows the bracket that opens a list, and an object, where one stands
abbrev pub after_open_array : List Token → Option (List Token)
after_open_array [] = None
after_open_array (Token.begin_object ∷ rest) = None
after_open_array (Token.end_object ∷ rest) = None
after_open_array (Token.begin_array ∷ rest) = Some rest
after_open_array (Token.end_array ∷ rest) = None
after_open_array (Token.key text ∷ rest) = None
after_open_array (Token.string text ∷ rest) = None
after_open_array (Token.number text ∷ rest) = None
after_open_array (Token.boolean truth ∷ rest) = None
after_open_array (Token.null ∷ rest) = None
after_open_array (Token.bad ∷ rest) = None

abbrev pub after_open_object : List Token → Option (List Token)
after_open_object [] = None
after_open_object (Token.begin_object ∷ rest) = Some rest
after_open_object (Token.end_object ∷ rest) = None
after_open_object (Token.begin_array ∷ rest) = None
after_open_object (Token.end_array ∷ rest) = None
after_open_object (Token.key text ∷ rest) = None
after_open_object (Token.string text ∷ rest) = None
after_open_object (Token.number text ∷ rest) = None
after_open_object (Token.boolean truth ∷ rest) = None
after_open_object (Token.null ∷ rest) = None
after_open_object (Token.bad ∷ rest) = None
