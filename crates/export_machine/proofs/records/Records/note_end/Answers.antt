use Rattle.std.proofs.Common.{◌≡◌, ℕ, List, None, get_or, ap, ◌∙◌, length, ◌<◌, arith}
use Rattle.std.proofs.lemmas.List.{length-map}
use Rattle.std.specs.Prelude.{filter, is_some}
use Rattle.export_machine.specs.Kept.{world_of, indexes_of}
use Rattle.export_machine.proofs.ByRank.{kept_filed, list_set}
use Rattle.export_machine.proofs.Indexing.{refiled}
use Rattle.export_machine.proofs.records.Records.note_end.Goals as goal

pub returns-else-ended-len-clause-indexed : goal.returns-else-ended-len-clause-indexed
returns-else-ended-len-clause-indexed c =
    let w = world_of c.args.self.now in
    let i = indexes_of c.args.self.now in
    let kept = λ (l : List ℕ). filter (λ t. is_some (get_or w.tickets t None)) l in
    let left : c.keep_running.new.listed.items ≡ kept c.index_mut.result.now.items =
    c.keep_running.ensures ∙ ap (λ ts. filter (λ t. is_some (get_or ts t None)) c.index_mut.result.now.items) c.deref-else-ended-len.ensures.value in
    let near : c.args.rank < length i.tickets_at = omega (arith, c.requires.near, length-map c.args.self.now.tickets_at.items (λ l. l.items)) in
    rw (list_set kept c.args.self.now.tickets_at.items c.number-index.result c.args.rank c.keep_running.new.listed c.index_mut.result.now
    c.number-index.ensures.value c.requires.near c.index_mut.ensures.value left)
    (refiled w i c.requires.indexed _ (kept_filed w.ranks w.tickets i.tickets_at c.args.rank c.requires.indexed.requests near))
