-- The list of all operations, and the word that counts them.
use Rattle.std.specs.Prelude.{ℕ, ◌≡◌, ◌==◌, true, List, [], ◌∷◌, ◌++◌, length, MatchBool}
use Rattle.logbook.specs.Pages.{Cell, Step, View, Book, Named}
use Rattle.authority_map.specs.Operations.{Operation}

-- the one word has the length of the list
abbrev pub IsCounted : List Cell → List Operation → Type 0
IsCounted cells operations = cells ≡ (length operations, true) ∷ []

-- the word that counts, of this book
abbrev pub counter_of : Book → Named
counter_of book = record { tracked = true; key = 0; book = book }

-- the operation that was asked for comes next, where the count was as expected
abbrev pub Appends : Step Operation → View Operation ℕ → ℕ → View Operation ℕ → Type 0
Appends asked before found after = MatchBool (found == asked.old) (after.0 ≡ before.0 ++ asked.ask ∷ []) (Unit {0})
