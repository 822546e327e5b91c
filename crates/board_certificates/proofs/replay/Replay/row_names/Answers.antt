use Rattle.std.proofs.Common.{◌∙◌, ◌++◌, ◌∷◌, [], ℕ, List, ap, arith, get_or, length, map, sym, take}
use Rattle.std.proofs.lemmas.List.{take_all}
use Rattle.board_certificates.specs.Certificates.{row_name}
use Rattle.board_certificates.proofs.ReplayLemmas.{free_there, map_next, names_same}
use Rattle.board_certificates.proofs.replay.Replay.row_names.Goals as goal

pub name-requires-clause-there : goal.name-requires-clause-there
name-requires-clause-there c =
    let list = c.as_slice-dir-items.ensures.value ∙ c.in_ok-dirs.ensures in
    free_there c.args.self.now.tree.entries c.args.self.now.pins.own c.loop-dir.dir-index c.dir-item.result
    (omega (arith, c.loop-dir-test.true, ap length list))
    (c.dir-item.is ∙ ap (λ (dirs : List ℕ). get_or dirs c.loop-dir.dir-index c.dir-item.result) list)

pub loop-dir-preserved : goal.loop-dir-preserved
loop-dir-preserved c =
    let front : List (List ℕ) = map (row_name c.args.self.now.tree.entries) (take c.loop-dir.dir-index c.as_slice-dir-items.result.now) in
    c.in_ok-push.ensures.pushed
    ∙ (ap (λ (names : List (List ℕ)). names ++ c.name.result.now ∷ []) c.loop-dir.invariant
    ∙ (ap (λ (name : List ℕ). front ++ name ∷ []) (c.name.ensures.name ∙ ap (row_name c.args.self.now.tree.entries) c.dir-item.is)
    ∙ sym (map_next (row_name c.args.self.now.tree.entries) c.as_slice-dir-items.result.now c.loop-dir.dir-index c.dir-item.result c.loop-dir-test.true)))

pub returns : goal.returns
returns c = λ s h.
    let list = c.as_slice-dir-items.ensures.value ∙ c.in_ok-dirs.ensures in
    c.loop-dir.invariant
    ∙ (ap (map (row_name c.args.self.now.tree.entries)) (take_all c.loop-dir.dir-index c.as_slice-dir-items.result.now c.loop-dir-test.false ∙ list)
    ∙ names_same s c.args.self.now h)
