-- The tickets that answers name.
use Rattle.std.proofs.Common.{◌≡◌, ℕ, List, [], ◌∷◌, ◌++◌, sym, ap, ◌∙◌, append-nil, append_assoc}
use Rattle.rank_threads.specs.declared.work.WorkAnswer.{WorkAnswer}
use Rattle.rank_threads.specs.Tickets.{all_tickets, ticket_named, tickets_of}

pub tickets_more : (answers : List WorkAnswer) (a : WorkAnswer) → tickets_of (answers ++ a ∷ []) ≡ tickets_of answers ++ ticket_named a.ticket
tickets_more [] a = append-nil (ticket_named a.ticket)
tickets_more (b ∷ answers) a = ap (λ (l : List ℕ). ticket_named b.ticket ++ l) (tickets_more answers a)
    ∙ sym (append_assoc (ticket_named b.ticket) (tickets_of answers) (ticket_named a.ticket))

pub all_more : (answers : List (List WorkAnswer)) (given : List WorkAnswer) → all_tickets (answers ++ given ∷ []) ≡ all_tickets answers ++ tickets_of given
all_more [] given = append-nil (tickets_of given)
all_more (a ∷ answers) given = ap (λ (l : List ℕ). tickets_of a ++ l) (all_more answers given)
    ∙ sym (append_assoc (tickets_of a) (all_tickets answers) (tickets_of given))
