-- The tickets that answers name.
use Rattle.std.specs.Prelude.{ℕ, List, [], ◌∷◌, ◌++◌, Option, Some, None}
use Rattle.rank_threads.specs.declared.work.WorkAnswer.{WorkAnswer}

abbrev pub ticket_named : Option ℕ → List ℕ
ticket_named None = []
ticket_named (Some ticket) = ticket ∷ []

-- the tickets that the answers of a rank name, in order
abbrev pub tickets_of : List WorkAnswer → List ℕ
tickets_of [] = []
tickets_of (a ∷ answers) = ticket_named a.ticket ++ tickets_of answers

-- the tickets that the answers of all ranks name
abbrev pub all_tickets : List (List WorkAnswer) → List ℕ
all_tickets [] = []
all_tickets (a ∷ answers) = tickets_of a ++ all_tickets answers
