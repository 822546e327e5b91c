use Rattle.std.proofs.Common.{◌≡◌, ◌<◌, ◌∙◌, ℕ, List, Option, ap, sym, arith, get_or, length, map}
use Rattle.std.proofs.lemmas.Grind.{common_steps}
use Rattle.std.proofs.lemmas.List.{length-map}
use Rattle.dirtree.specs.Tree.{Entry, parent_of}
use Rattle.dirtree.proofs.Walks.{above as parent_below}
use Rattle.dir_pins.specs.Pins.{PinTable, below, nearest_pin, own_pin}
use Rattle.dir_pins.proofs.NearestPin.{gone_above, is_row, length_below, own_at, own_holds, parent_holds, read_below}
use Rattle.dir_pins.proofs.pins.Pins.held_by.Goals as goal
use Rattle.dir_pins.proofs.pins.Pins.held_by.Goals.{in-Some, in-None}

pub index-requires : goal.index-requires
index-requires c =
    let view : c.self.inside.own.items ≡ c.args.self.now.own = ap (λ (t : PinTable). t.own) c.self.view_is in
    let size = ap (λ (own : List (Option ℕ)). length own) view in
    omega (arith, c.requires.room, c.number.ensures, size)

pub returns-in-Some-index : goal.returns-in-Some-index
returns-in-Some-index c =
    let es : List (Option Entry) = c.args.tree.now.entries in
    let own : List (Option ℕ) = c.args.self.now.own in
    let view : c.self.inside.own.items ≡ own = ap (λ (t : PinTable). t.own) c.self.view_is in
    let pin : own_pin own c.args.dir ≡ c.index.result.now =
    own_at own c.self.inside.own.items c.args.dir c.number.result c.index.result.now view c.number.ensures c.requires.room
    c.index.ensures in
    sym (own_holds es own c.args.dir c.in-Some-index.rank c.row.ensures.tree (pin ∙ c.in-Some-index.is))

pub bounds-known-number : goal.bounds-known-number
bounds-known-number c =
    let es : List (Option Entry) = c.args.tree.now.entries in
    let d : ℕ = c.args.dir in
    let some : 0 < d = grind (arith, common_steps, c.if-eq.ensures) in
    let up : c.match-row.above ≡ parent_of es d = elim c.match-row.branch [
      | in-Some w ↦ w.above-is ∙ sym (is_row es d w.in-Some.row (sym w.in-Some.is ∙ c.row.ensures.row)).parent
      | in-None w ↦ w.above-is ∙ sym (gone_above es d (sym w.in-None.is ∙ c.row.ensures.row))
    ] in
    let size : length c.args.known.now ≡ d = ap (λ (ps : List (Option ℕ)). length ps) c.requires.known
    ∙ (length-map (below d) (nearest_pin es c.args.self.now.own) ∙ length_below d) in
    omega (arith, c.number-2.ensures, up, parent_below es d c.row.ensures.tree some, size)

pub returns : goal.returns
returns c =
    let es : List (Option Entry) = c.args.tree.now.entries in
    let own : List (Option ℕ) = c.args.self.now.own in
    let d : ℕ = c.args.dir in
    let view : c.self.inside.own.items ≡ own = ap (λ (t : PinTable). t.own) c.self.view_is in
    let pin : own_pin own d ≡ c.index.result.now = own_at own c.self.inside.own.items d c.number.result c.index.result.now view
    c.number.ensures c.requires.room c.index.ensures in
    let some : 0 < d = grind (arith, common_steps, c.if-eq.ensures) in
    let up : c.match-row.above ≡ parent_of es d = elim c.match-row.branch [
      | in-Some w ↦ w.above-is ∙ sym (is_row es d w.in-Some.row (sym w.in-Some.is ∙ c.row.ensures.row)).parent
      | in-None w ↦ w.above-is ∙ sym (gone_above es d (sym w.in-None.is ∙ c.row.ensures.row))
    ] in
    let read : c.index-known-number.result ≡ get_or (map (nearest_pin es own) (below d)) c.number-2.result c.index-known-number.result =
    c.index-known-number.is ∙ ap (λ (ps : List (Option ℕ)). get_or ps c.number-2.result c.index-known-number.result) c.requires.known in
    read_below (nearest_pin es own) d c.number-2.result c.index-known-number.result
    (omega (arith, c.number-2.ensures, up, parent_below es d c.row.ensures.tree some)) read
    ∙ (ap (nearest_pin es own) (c.number-2.ensures ∙ up) ∙ sym (parent_holds es own d c.row.ensures.tree some (pin ∙ c.in_default.is)))
