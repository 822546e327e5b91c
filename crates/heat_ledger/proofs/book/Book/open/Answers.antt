use Rattle.std.proofs.Common.{◌≡◌, ◌+◌, ◌*◌, ◌∙◌, ℕ, List, true, replicate, ap, arith}
use Rattle.heat_ledger.specs.Rows.{evens}
use Rattle.heat_ledger.specs.Ledger.{BookData}
use Rattle.heat_ledger.proofs.RowLemmas.{evens_zeros}
use Rattle.heat_ledger.proofs.book.Book.open.Goals as goal

-- an open book that has counted this
abbrev book_of : ℕ → List ℕ → List ℕ → BookData
book_of shares counted begun = record { is_open = true; shares = shares; counted = counted; begun = begun }

pub returns-clause-book : goal.returns-clause-book
returns-clause-book g c =
    let limit = c.args.limit in
    let entries : 2 * limit ≡ limit + limit = omega arith in
    let rows = c.in-Ok.ensures.rows in
    let counted : c.in-Ok.room.counted.items ≡ replicate (limit + limit) 0 = rows.0 ∙ ap (λ (n : ℕ). replicate n 0) entries in
    let begun : evens c.in-Ok.room.begun.items ≡ replicate limit 0 = ap evens (rows.1 ∙ ap (λ (n : ℕ). replicate n 0) entries) ∙ evens_zeros limit in
    ap (λ (l : List ℕ). book_of c.args.shares l (evens c.in-Ok.room.begun.items)) counted ∙ ap (book_of c.args.shares (replicate (limit + limit) 0)) begun
