use Rattle.std.proofs.Common.{◌≡◌, ◌<◌, ℕ, List, Option, None, ap, sym, ◌∙◌, arith}
use Rattle.std.proofs.lemmas.Grind.{common_steps}
use Rattle.dirtree.specs.Tree.{Entry}
use Rattle.dir_pins.specs.Pins.{PinTable, own_pin}
use Rattle.dir_pins.proofs.NearestPin.{IsRow, is_row, own_at, parent_holds}
use Rattle.dir_pins.proofs.pins.Pins.pin_of.Goals as goal

pub loop-row-preserved : goal.loop-row-preserved
loop-row-preserved c =
    let es : List (Option Entry) = c.args.tree.now.entries in
    let own : List (Option ℕ) = c.args.self.now.own in
    let d : ℕ = c.loop-row.at in
    let view : c.self.inside.own.items ≡ own = ap (λ (t : PinTable). t.own) c.self.view_is in
    let row : IsRow es d c.in-Some.row = is_row es d c.in-Some.row c.in-Some.ensures.row in
    let some : 0 < d = grind (arith, common_steps, c.if-eq.ensures) in
    let free : own_pin own d ≡ None = own_at own c.self.inside.own.items d c.number.result c.index.result.now view c.number.ensures
    (omega (arith, c.in-Some.ensures.below, c.requires)) c.index.ensures ∙ c.in_default-index.is in
    record {
      there = rw (← row.parent) (c.in-Some.ensures.tree.parents d row.there ∙ sym row.there ∙ c.loop-row.invariant.there);
      same = rw (← row.parent) (sym (parent_holds es own d c.in-Some.ensures.tree some free) ∙ c.loop-row.invariant.same);
    }
