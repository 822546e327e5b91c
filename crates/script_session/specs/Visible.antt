-- Where a script's output says that it is out of memory.
use Rattle.std.specs.Prelude.{◌≡◌, ◌⊎◌, ℕ, ◌+◌, Bool, true, false, List, [], ◌∷◌, ◌++◌}
use Rattle.script_engine.specs.Answers.{Answer, fault_text}
use Rattle.script_commands.specs.Commands as line
use Rattle.script_commands.specs.Commands.{Asked, asked}
use Rattle.script_board.specs.declared.fault.Fault.TheVariants.{Memory}
use Rattle.script_session.specs.Fault.{words}
use Rattle.script_session.specs.Does.{Changes, Meaning, Prints, Steps, meaning}
use Rattle.script_session.specs.Session.{SessionData, published}

-- the answer ends with the line that says `Memory`
abbrev pub SaysMemory : ℕ → Answer → Type 0
SaysMemory number a = (front : List ℕ) × (a.text ≡ front ++ fault_text number (words Memory))

-- none of these answers says so, the first of them being that to the line with this number
abbrev pub NoneSaysMemory : ℕ → List Answer → Type 0
NoneSaysMemory number [] = Unit {0}
NoneSaysMemory number (a ∷ more) = (SaysMemory number a → ⊥) × NoneSaysMemory (number + 1) more

-- Whether a line's answer is the same however much of the map is published: not so `go` and `traffic`, whose requests
-- are asked of the ranks that the published map names, nor the report, which shows them. (The answer doesn't say that
-- no memory was left to publish the map.)
abbrev pub ignores_map : Meaning → Bool
ignores_map (Changes change) = true
ignores_map (Prints print) = true
ignores_map (Steps step) = true
ignores_map _ = false

abbrev pub tells_all : Asked → Bool
tells_all (line.Asks command) = ignores_map (meaning command)
tells_all _ = true

-- a line whose answer is known once it is known that it doesn't say `Memory`
abbrev pub is_visible : List ℕ → Bool
is_visible bytes = tells_all (asked bytes)

-- no line of the answer says `Memory`
abbrev pub TellsNoMemory : ℕ → Answer → Type 0
TellsNoMemory number a = (front back : List ℕ) → a.text ≡ front ++ (fault_text number (words Memory) ++ back) → ⊥

-- the answer is the one that is due, and so is the session after it, except that its map may be unpublished
abbrev pub IsSeenAs : Answer → SessionData → Answer × SessionData → Type 0
IsSeenAs a new due = (a.text ≡ due.0.text) × (a.accepted ≡ due.0.accepted) × ((new ≡ due.1) ⊎ (published new ≡ due.1))
