use Rattle.std.proofs.Common.{◌≡◌, ◌<◌, ℕ, List, Option, None, ap, sym, ◌∙◌, arith}
use Rattle.std.proofs.lemmas.Grind.{common_steps}
use Rattle.dirtree.specs.Tree.{Entry, parent_of}
use Rattle.dirtree.proofs.Walks.{above}
use Rattle.dir_pins.specs.Pins.{PinTable, own_pin}
use Rattle.dir_pins.proofs.NearestPin.{IsRow, is_row, no_some, own_at, unpinned_by_parent}
use Rattle.dir_pins.proofs.pins.Pins.is_unpinned.Goals as goal

pub returns-else-eq : goal.returns-else-eq
returns-else-eq c =
    let es : List (Option Entry) = c.args.tree.now.entries in
    let own : List (Option ℕ) = c.args.self.now.own in
    let d : ℕ = c.args.dir in
    let view : c.self.inside.own.items ≡ own = ap (λ (t : PinTable). t.own) c.self.view_is in
    let row : IsRow es d c.in-Some.row = is_row es d c.in-Some.row c.in-Some.ensures.row in
    let some : 0 < d = grind (arith, common_steps, c.if-eq.ensures) in
    let none : c.index.result.now ≡ None = no_some c.index.result.now (sym c.if-is_some.ensures) in
    let free : own_pin own d ≡ None = own_at own c.self.inside.own.items d c.number.result c.index.result.now view c.number.ensures
    (omega (arith, c.in-Some.ensures.below, c.requires.room)) c.index.ensures ∙ none in
    rw (c.number-else-eq.ensures, ← row.parent) (c.requires.below (parent_of es d) (above es d c.in-Some.ensures.tree some)
    ∙ unpinned_by_parent es own d c.in-Some.ensures.tree some row.there free)
