-- What a line of a script does, and what is written for it.
use Rattle.std.specs.Prelude.{◌≡◌, ◌<◌, ℕ, ◌==◌, Bool, true, false, not, if◌then◌else◌}
use Rattle.std.specs.Prelude.{List, [], ◌++◌, length, take, ◌⊎◌, Option, Some, None, Result, Ok, Err}
use Rattle.std.specs.List.{flat_map}
use Rattle.std.specs.Option.{option_map}
use Rattle.script_engine.specs.Answers.{Answer, fault_text}
use Rattle.script_commands.specs.Commands as line
use Rattle.script_commands.specs.Commands.{Command, Asked, asked}
use Rattle.script_board.specs.declared.fault.Fault.{Fault}
use Rattle.script_board.specs.declared.fault.Fault.TheVariants.{Syntax, NoRanks, Memory}
use Rattle.script_board.specs.Board.{BoardData, empty_board, publish}
use Rattle.script_board.specs.Fault.{is_memory}
use Rattle.script_session.specs.Printed.{Printed, joined, only_lines}
use Rattle.script_session.specs.Does.{Does, IsQuiet, cause, failure, meaning}
use Rattle.script_session.specs.Fault.{words}

-- what a script has made so far, in a tree that gives numbers below the limit: nothing until `ranks` was accepted
pub record SessionData : Type 0 where
  pub limit : ℕ
  pub board : Option BoardData

-- No other command is accepted before `ranks`.
abbrev pub at_beginning : ℕ → Command → Result BoardData Fault
at_beginning limit (line.Ranks n) = Ok (empty_board limit n)
at_beginning limit command = Err NoRanks

abbrev pub cause_at : ℕ → Option BoardData → Command → Option Fault
cause_at limit None command = failure (at_beginning limit command)
cause_at limit (Some b) command = cause b (meaning command)

abbrev pub DoesAt : ℕ → Option BoardData → Command → Printed → Bool → BoardData → Type 0
DoesAt limit None command p ample new = IsQuiet (at_beginning limit command) p ample new
DoesAt limit (Some b) command p ample new = Does b (meaning command) p ample new

-- why a line is refused
abbrev pub asked_cause : SessionData → Asked → Option Fault
asked_cause s line.Nothing = None
asked_cause s line.Syntax = Some Syntax
asked_cause s (line.Asks command) = cause_at s.limit s.board command

-- a line that says nothing
abbrev pub IsStill : SessionData → Printed → Bool → SessionData → Type 0
IsStill s p ample new = (p ≡ only_lines []) × (ample ≡ true) × (new ≡ s)

-- What is asked for is done: this is printed, and this is the session before its map is published.
abbrev pub IsDone : SessionData → Asked → Printed → Bool → SessionData → Type 0
IsDone s line.Nothing p ample new = IsStill s p ample new
IsDone s line.Syntax p ample new = ⊥
IsDone s (line.Asks command) p ample new =
    (b : BoardData) × DoesAt s.limit s.board command p ample b × (new ≡ record s { board = Some b })

-- a line for each refusal
abbrev pub refusal_lines : ℕ → List Fault → List ℕ
refusal_lines number refused = flat_map (λ fault. fault_text number (words fault)) refused

-- A line that refused a request or a deposit isn't accepted.
abbrev pub done_answer : ℕ → Printed → Bool → Answer
done_answer number p ample =
    record {
      text = joined p.lines ++ refusal_lines number p.refused;
      accepted = length p.refused == 0;
      ample = ample;
    }

abbrev pub fault_answer : ℕ → Fault → Answer
fault_answer number fault =
    record { text = fault_text number (words fault); accepted = false; ample = not (is_memory fault) }

abbrev pub out_of_memory : ℕ → Answer
out_of_memory number = record { text = fault_text number (words Memory); accepted = false; ample = false }

-- the session with its map published, if it has a board
abbrev pub published : SessionData → SessionData
published s = record s { board = option_map publish s.board }

-- after each line that is accepted the map is published
abbrev pub settled : Printed → SessionData → SessionData
settled p s = if length p.refused == 0 then published s else s

-- The line is answered, and the map is published, or there was no memory for that: then the operations stay pending,
-- and the answer is the same.
abbrev pub IsSettled : ℕ → Printed → Bool → SessionData → Answer → SessionData → Type 0
IsSettled number p ample mid a new =
    ((a ≡ done_answer number p ample) × (new ≡ settled p mid))
    ⊎ ((a ≡ done_answer number p false) × (new ≡ mid))

-- the answer where memory was refused for a line of a reply: the lines before it are kept
abbrev pub cut_answer : ℕ → List (List ℕ) → Answer
cut_answer number lines =
    record { text = joined lines ++ fault_text number (words Memory); accepted = false; ample = false }

-- What was done is printed and the map published, or memory was refused for a line of it.
abbrev pub IsTold : ℕ → Printed → Bool → SessionData → Answer → SessionData → Type 0
IsTold number p ample mid a new =
    IsSettled number p ample mid a new
    ⊎ ((count : ℕ) × (count < length p.lines) × (a ≡ cut_answer number (take count p.lines)) × (new ≡ mid))

-- A line is answered so: what it asks for is done; or a cause applies, and nothing has changed; or none does, but
-- memory was refused, and nothing has changed. (A line that finds no room for its bytes or its fields is another case.)
abbrev pub answers : SessionData → ℕ → List ℕ → Answer → SessionData → Type 0
answers old number bytes a new =
    ((p : Printed) × (ample : Bool) × (mid : SessionData) × IsDone old (asked
    bytes) p ample mid × IsTold number p ample mid a new)
    ⊎ ((fault : Fault) × (asked_cause old (asked bytes) ≡ Some fault) × (a ≡ fault_answer number fault) × (new ≡ old))
    ⊎ ((asked_cause old (asked bytes) ≡ None) × (a ≡ out_of_memory number) × (new ≡ old))

-- the session at the beginning of a script
abbrev pub beginning : ℕ → SessionData
beginning limit = record { limit = limit; board = None }
