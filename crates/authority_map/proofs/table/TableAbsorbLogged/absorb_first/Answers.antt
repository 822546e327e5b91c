use Rattle.std.proofs.Common.{◌≡◌, ◌∙◌, ◌<◌, ◌++◌, ◌∷◌, [], ℕ, List, All, if◌then◌else◌, ap, rules}
use Rattle.authority_map.specs.Operations.{Operation, names, rank_after}
use Rattle.authority_map.specs.Cells.{cell_of}
use Rattle.authority_map.proofs.CellLemmas.{cells_written}
use Rattle.authority_map.proofs.table.TableAbsorbLogged.absorb_first.Goals as goal

pub invariant_of-self-clause-kept : goal.invariant_of-self-clause-kept
invariant_of-self-clause-kept g c =
    let t = c.args.self.now in
    let dirs : List ℕ = c.written-cell.result.0.now in
    let cell : ℕ = c.written-cell.result.1 in
    let here : c.entry.inside.before ≡ t.prefix = search rules in
    let front : c.copied.result ≡ t.prefix ++ c.entry.inside.operation ∷ [] = c.copied.ensures ∙ c.entry.invariant
    ∙ ap (λ (l : List Operation). l ++ c.entry.inside.operation ∷ []) here in
    let below : All (λ d. d < t.limit) dirs = search rules in
    let step : (d : ℕ) → cell_of (rank_after c.copied.result d)
    ≡ (if names dirs d then cell else cell_of (rank_after t.prefix d)) = rw front (c.written-cell.ensures.cells t.prefix) in
    cells_written t.limit c.write_all.new.runs dirs cell t.prefix c.copied.result below
    (c.write_all.ensures.cells (λ d. cell_of (rank_after t.prefix d)) t.kept.held) step t.kept.past
