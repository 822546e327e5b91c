use Rattle.std.proofs.Common.{◌≡◌, ◌∙◌, ◌<◌, ◌-◌, [], ◌∷◌, ℕ, ap, arith, get_or, length, map, sym}
use Rattle.std.proofs.lemmas.List.{get_or-map, length-map}
use Rattle.std.proofs.lemmas.Result.{IfOk-weaker}
use Rattle.script_board.specs.Board.{BoardData}
use Rattle.script_session.specs.Cost.{cost_line, part_line}
use Rattle.script_session.specs.Looks.{entry_line, fact_line}
use Rattle.script_session.specs.Move.{export_line, move_line, pairs}
use Rattle.script_session.specs.Plan.{plan_line, plan_part_line}
use Rattle.script_session.specs.Stat.{cluster_line, dir_line}
use Rattle.script_session.proofs.LineLemmas.{nth_line}
use Rattle.script_session.proofs.MoveLemmas.{length-pairs, pairs_at}
use Rattle.script_session.proofs.print.make_line.Goals as goal

pub index-requires-in_default-index-2 : goal.index-requires-in_default-index-2
index-requires-in_default-index-2 g c =
    let orders = c.in-Move.orders.items in
    let outcomes = c.in-Move.outcomes.items in
    let same : length outcomes ≡ length orders = rw (c.in-Move.is) at c.requires.there in
    let inside : c.args.index < length (move_line (length orders) ∷ map (export_line c.args.board.now) (pairs orders outcomes)) =
    rw (c.in-Move.is) at c.requires.inside in
    let lines = length-map (pairs orders outcomes) (export_line c.args.board.now) in
    let count = length-pairs orders outcomes same in
    omega (arith, inside, lines, count, c.in-Move.orders.ok.0, c.in_default-index-2)

pub index-requires-in_default-index-2-2 : goal.index-requires-in_default-index-2-2
index-requires-in_default-index-2-2 g c =
    let orders = c.in-Move.orders.items in
    let outcomes = c.in-Move.outcomes.items in
    let same : length outcomes ≡ length orders = rw (c.in-Move.is) at c.requires.there in
    let inside : c.args.index < length (move_line (length orders) ∷ map (export_line c.args.board.now) (pairs orders outcomes)) =
    rw (c.in-Move.is) at c.requires.inside in
    let lines = length-map (pairs orders outcomes) (export_line c.args.board.now) in
    let count = length-pairs orders outcomes same in
    omega (arith, inside, lines, count, same, c.in-Move.outcomes.ok.0, c.in_default-index-2)

pub returns-in_default-clause-line : goal.returns-in_default-clause-line
returns-in_default-clause-line g c =
    let some : c.args.index ≡ 0 → ⊥ = λ zero. omega (arith, zero, c.in_default) in
    let b : BoardData = c.args.board.now in
    let parts = c.in-Cost.parts.items in
    let inside : c.args.index < length (cost_line parts ∷ map (part_line b) parts) = rw (c.in-Cost.is) at c.requires.inside in
    rw (c.in-Cost.is) (IfOk-weaker c.part_line.result _ _
    (λ line e. e ∙ (ap (part_line b) c.index.ensures ∙ nth_line (cost_line parts) (part_line b) parts c.args.index _ some inside))
    c.part_line.ensures)

pub returns-in-0-index-clause-line : goal.returns-in-0-index-clause-line
returns-in-0-index-clause-line g c =
    let there = rw (c.in-Plan.is) at c.requires.there in
    rw (c.in-Plan.is, c.in-0-index.is, there.0.1) (c.line_in_force.ensures there.0.0 there.0.1)

pub returns-in_default-index-clause-line : goal.returns-in_default-index-clause-line
returns-in_default-index-clause-line g c =
    let some : c.args.index ≡ 0 → ⊥ = λ zero. omega (arith, zero, c.in_default-index) in
    let b : BoardData = c.args.board.now in
    let parts = c.in-Plan.parts.items in
    let there = rw (c.in-Plan.is) at c.requires.there in
    let inside : c.args.index < length (plan_line there.0.0 ∷ map (plan_part_line b) parts) = rw (c.in-Plan.is, there.0.1) at c.requires.inside in
    rw (c.in-Plan.is, there.0.1)
    (IfOk-weaker c.plan_part_line.result _ _ (λ line e. e
    ∙ (ap (plan_part_line b) c.index-in_default-index.ensures
    ∙ nth_line (plan_line there.0.0) (plan_part_line b) parts c.args.index _ some inside)) c.plan_part_line.ensures)

pub returns-in_default-index-2-clause-line : goal.returns-in_default-index-2-clause-line
returns-in_default-index-2-clause-line g c =
    let some : c.args.index ≡ 0 → ⊥ = λ zero. omega (arith, zero, c.in_default-index-2) in
    let b : BoardData = c.args.board.now in
    let orders = c.in-Move.orders.items in
    let outcomes = c.in-Move.outcomes.items in
    let i : ℕ = c.args.index - 1 in
    let o = c.index-in_default-index-2.result.now in
    let w = c.index-in_default-index-2-2.result.now in
    let same : length outcomes ≡ length orders = rw (c.in-Move.is) at c.requires.there in
    let inside : c.args.index < length (move_line (length orders) ∷ map (export_line b) (pairs orders outcomes)) = rw (c.in-Move.is) at c.requires.inside in
    let lines = length-map (pairs orders outcomes) (export_line b) in
    let count = length-pairs orders outcomes same in
    let below : i < length orders = omega (arith, inside, lines, count, c.in_default-index-2) in
    let first : o ≡ _ = c.index-in_default-index-2.ensures in
    let second : w ≡ _ = c.index-in_default-index-2-2.ensures in
    rw (c.in-Move.is) (IfOk-weaker c.export_line.result _ _
    (λ line e. e ∙ (ap (λ x. export_line b (x, w)) first ∙ (ap (λ x. export_line b (get_or orders i o, x)) second
    ∙ (ap (export_line b) (sym (pairs_at orders outcomes i o w (o, w) same below))
    ∙ nth_line (move_line (length orders)) (export_line b) (pairs orders outcomes) c.args.index (o, w) some inside))))
    c.export_line.ensures)

pub returns-in_default-index-3-clause-line : goal.returns-in_default-index-3-clause-line
returns-in_default-index-3-clause-line g c =
    let some : c.args.index ≡ 0 → ⊥ = λ zero. omega (arith, zero, c.in_default-index-3) in
    let b : BoardData = c.args.board.now in
    let dirs = c.in-Stat.dirs.items in
    let inside : c.args.index < length (cluster_line b ∷ map (dir_line b) dirs) = rw (c.in-Stat.is) at c.requires.inside in
    rw (c.in-Stat.is) (IfOk-weaker c.dir_line.result _ _
    (λ line e. e ∙ (ap (dir_line b) c.index-in_default-index-3.ensures
    ∙ nth_line (cluster_line b) (dir_line b) dirs c.args.index _ some inside)) c.dir_line.ensures.line)

pub returns-in-Export-clause-line : goal.returns-in-Export-clause-line
returns-in-Export-clause-line g c =
    let b : BoardData = c.args.board.now in
    let facts = c.in-Export.facts.items in
    let inside : c.args.index < length (map (fact_line b) facts) = rw (c.in-Export.is) at c.requires.inside in
    let below : c.args.index < length facts = omega (arith, inside, length-map facts (fact_line b)) in
    rw (c.in-Export.is) (IfOk-weaker c.fact_line.result _ _
    (λ line e. e ∙ (ap (fact_line b) c.index-in-Export.ensures ∙ sym (get_or-map (fact_line b) facts c.args.index _ [] below)))
    c.fact_line.ensures)

pub returns-in-Journal-clause-line : goal.returns-in-Journal-clause-line
returns-in-Journal-clause-line g c =
    let b : BoardData = c.args.board.now in
    let entries = c.in-Journal.entries.items in
    let rank : ℕ = c.in-Journal.rank in
    let inside : c.args.index < length (map (entry_line b rank) entries) = rw (c.in-Journal.is) at c.requires.inside in
    let below : c.args.index < length entries = omega (arith, inside, length-map entries (entry_line b rank)) in
    rw (c.in-Journal.is) (IfOk-weaker c.entry_line.result _ _
    (λ line e. e ∙ (ap (entry_line b rank) c.index-in-Journal.ensures
    ∙ sym (get_or-map (entry_line b rank) entries c.args.index _ [] below))) c.entry_line.ensures)
