use Rattle.std.proofs.Common.{◌≡◌, ◌<◌, ℕ, List, [], length, get_or, arith}
use Rattle.std.proofs.lemmas.List.{length-map}
use Rattle.std.specs.Prelude.{filter}
use Rattle.export_machine.specs.Kept.{world_of, indexes_of, is_open_at}
use Rattle.export_machine.proofs.ByRank.{among_filter, list_set}
use Rattle.export_machine.proofs.Listed.{kept_listed}
use Rattle.export_machine.proofs.Indexing.{relisted}
use Rattle.export_machine.proofs.records.Records.keep_open.Goals as goal

pub returns-clause-indexed : goal.returns-clause-indexed
returns-clause-indexed c =
    let w = world_of c.args.self.now in
    let i = indexes_of c.args.self.now in
    let kept = λ (l : List ℕ). filter (is_open_at c.args.rank w.orders w.exporters w.importers i.dropped) l in
    let left : c.keep.new.listed.items ≡ kept c.index_mut.result.now.items = c.keep.ensures in
    let near : c.args.rank < length i.open_at = omega (arith, c.requires.near, length-map c.args.self.now.open_at.items (λ l. l.items)) in
    rw (list_set kept c.args.self.now.open_at.items c.number.result c.args.rank c.keep.new.listed c.index_mut.result.now
    c.number.ensures.value c.requires.near c.index_mut.ensures.value left)
    (relisted w i c.requires.indexed _
    (kept_listed w.ranks w.orders w.exporters w.importers w.journals i.open_at i.dropped c.requires.indexed.listed c.requires.exporting
    c.requires.importing c.args.rank (kept (get_or i.open_at c.args.rank [])) near
    (λ x h k. among_filter (is_open_at c.args.rank w.orders w.exporters w.importers i.dropped) (get_or i.open_at c.args.rank []) x k h)))
