use Rattle.std.proofs.Common.{◌⊎◌, List, All, subst}
use Rattle.std.proofs.lemmas.List.{take_all}
use Rattle.std.proofs.lemmas.List.Elements.{All-more}
use mathlib.Core.List.{IsPrefix}
use Rattle.authority_map.specs.Operations.{Operation}
use Rattle.script_board.proofs.traffic.compare.Goals as goal

pub loop-reader-preserved : goal.loop-reader-preserved
loop-reader-preserved g c =
    let told : List Operation = c.args.board.now.published in
    let item : List Operation = c.reader-item.result in
    let is_one : List Operation → Type 0 = λ r. IsPrefix r told ⊎ IsPrefix told r in
    let one : is_one item = subst (λ (t : List Operation). IsPrefix item t ⊎ IsPrefix t item) c.tell-published.ensures c.beside.ensures in
    All-more is_one c.args.readers.now c.loop-reader.reader-index item c.loop-reader-test.true c.loop-reader.invariant (subst is_one c.reader-item.is one)

pub returns : goal.returns
returns g c =
    let told : List Operation = c.args.board.now.published in
    subst (λ (rs : List (List Operation)). All (λ r. IsPrefix r told ⊎ IsPrefix told r) rs)
    (take_all c.loop-reader.reader-index c.args.readers.now c.loop-reader-test.false) c.loop-reader.invariant
