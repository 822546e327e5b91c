use Rattle.std.proofs.Common.{◌≡◌, ◌<◌, ℕ, List, Bool, Some, true, length, set, sym, ap, ◌∙◌, subst, arith}
use Rattle.std.proofs.lemmas.List.{length-map}
use Rattle.export_protocol.specs.declared.exporter.ExporterState.{ExporterState}
use Rattle.export_protocol.specs.declared.importer.ImporterState.{ImporterState}
use Rattle.export_protocol.specs.declared.importer.ImporterState.TheVariants.{Dropped}
use Rattle.export_protocol.specs.declared.journal.JournalEntry.{JournalEntry}
use Rattle.export_protocol.specs.declared.event.Request.{Request}
use Rattle.export_machine.specs.declared.records.Records.{Records}
use Rattle.export_protocol.specs.Cluster.{World}
use Rattle.export_protocol.specs.Authority.{importer_of, has, request_of}
use Rattle.export_protocol.specs.Step.{happens, changed}
use Rattle.export_machine.specs.Kept.{world_of, indexes_of, IsIndexed, AreListed}
use Rattle.export_protocol.proofs.Accepted.{numbers_by}
use Rattle.export_protocol.proofs.Views.{map_at_length}
use Rattle.export_machine.proofs.Indexing.{request_there}
use Rattle.export_machine.proofs.Rows.{importer_indexed}
use Rattle.export_machine.proofs.Halted.{aborts, forgets, ends, stops_all, dropped_there, left_listed, stopped_indexed, stop_rank}
use Rattle.export_machine.proofs.records.Records.stop.Goals as goal

pub halt_exports-requires-clause-ranked : goal.halt_exports-requires-clause-ranked
halt_exports-requires-clause-ranked c =
    let few : c.args.rank < (world_of c.args.self.now).ranks = stop_rank (world_of c.args.self.now) c.args.rank c.requires.accepted in
    omega (arith, c.requires.kept.indexed.listed.ranked, length-map c.args.self.now.open_at.items (λ l. l.items))

pub halt_imports-requires-clause-near : goal.halt_imports-requires-clause-near
halt_imports-requires-clause-near c =
    let w = world_of c.args.self.now in
    let as_many : length w.importers ≡ length w.orders = numbers_by w c.requires.kept.reached (length w.importers) (length w.orders) (λ safe. safe.importing) in
    ap (λ (r : Records). length r.exports.importers) c.halt_exports.ensures.others
    ∙ (as_many ∙ sym (ap (λ (r : Records). length r.exports.orders) c.halt_exports.ensures.others))

pub halt_imports-requires-clause-ranked : goal.halt_imports-requires-clause-ranked
halt_imports-requires-clause-ranked c =
    let few : c.args.rank < (world_of c.args.self.now).ranks = stop_rank (world_of c.args.self.now) c.args.rank c.requires.accepted in
    let same : length c.halt_exports.new.self.open_at.items
    ≡ length c.args.self.now.open_at.items = ap (λ (r : Records). length r.open_at.items) c.halt_exports.ensures.others in
    omega (arith, c.requires.kept.indexed.listed.ranked, length-map c.args.self.now.open_at.items (λ l. l.items))

pub halt_imports-requires-clause-dropped : goal.halt_imports-requires-clause-dropped
halt_imports-requires-clause-dropped c =
    let w = world_of c.args.self.now in
    let aborted : world_of c.halt_exports.new.self ≡ aborts c.args.rank w =
    ap world_of c.halt_exports.ensures.others ∙ ap (λ (es : List ExporterState). record w { exporters = es }) c.halt_exports.ensures.exporters in
    subst (λ (v : World). (x : ℕ) → has v c.args.rank (JournalEntry.Dropped x) ≡ true → importer_of v x ≡ Dropped) (sym aborted)
    (dropped_there w c.requires.kept.reached c.args.rank)

pub keep_open-requires-clause-near : goal.keep_open-requires-clause-near
keep_open-requires-clause-near c =
    let few : c.args.rank < (world_of c.args.self.now).ranks = stop_rank (world_of c.args.self.now) c.args.rank c.requires.accepted in
    let halted : length c.halt_exports.new.self.open_at.items
    ≡ length c.args.self.now.open_at.items = ap (λ (r : Records). length r.open_at.items) c.halt_exports.ensures.others in
    let forgot : length c.halt_imports.new.self.open_at.items
    ≡ length c.halt_exports.new.self.open_at.items = ap (λ (r : Records). length r.open_at.items) c.halt_imports.ensures.others in
    omega (arith, c.requires.kept.indexed.listed.ranked, length-map c.args.self.now.open_at.items (λ l. l.items))

pub keep_open-requires-clause-indexed : goal.keep_open-requires-clause-indexed
keep_open-requires-clause-indexed c =
    let mid = world_of c.halt_exports.new.self in
    let i = indexes_of c.halt_exports.new.self in
    subst (λ (r : Records). IsIndexed (world_of r) (indexes_of r)) (sym c.halt_imports.ensures.others)
    (importer_indexed mid i c.halt_exports.ensures.indexed c.halt_imports.new.self.exports.importers c.halt_exports.new.self.sent.items i.open_at
    (subst (λ (is : List ImporterState). AreListed mid.ranks mid.orders mid.exporters is mid.journals i.open_at i.dropped)
    (sym c.halt_imports.ensures.importers) (left_listed mid i c.args.rank c.halt_exports.ensures.indexed)))

pub keep_open-requires-clause-exporting : goal.keep_open-requires-clause-exporting
keep_open-requires-clause-exporting c =
    let w = world_of c.args.self.now in
    let as_many : length w.exporters ≡ length w.orders = numbers_by w c.requires.kept.reached (length w.exporters) (length w.orders) (λ safe. safe.exporting) in
    let same : length c.halt_exports.new.self.exports.exporters ≡ length w.exporters = ap length c.halt_exports.ensures.exporters
    ∙ map_at_length _ w.exporters in
    ap (λ (r : Records). length r.exports.exporters) c.halt_imports.ensures.others
    ∙ (same ∙ (as_many ∙ sym (ap (λ (r : Records). length r.exports.orders) c.halt_imports.ensures.others
    ∙ ap (λ (r : Records). length r.exports.orders) c.halt_exports.ensures.others)))

pub keep_open-requires-clause-importing : goal.keep_open-requires-clause-importing
keep_open-requires-clause-importing c =
    let w = world_of c.args.self.now in
    let as_many : length w.importers ≡ length w.orders = numbers_by w c.requires.kept.reached (length w.importers) (length w.orders) (λ safe. safe.importing) in
    let same : length c.halt_imports.new.self.exports.importers
    ≡ length c.halt_exports.new.self.exports.importers = ap length c.halt_imports.ensures.importers
    ∙ map_at_length _ c.halt_exports.new.self.exports.importers in
    same ∙ (ap (λ (r : Records). length r.exports.importers) c.halt_exports.ensures.others
    ∙ (as_many ∙ sym (ap (λ (r : Records). length r.exports.orders) c.halt_imports.ensures.others
    ∙ ap (λ (r : Records). length r.exports.orders) c.halt_exports.ensures.others)))

pub end_requests-requires-clause-near : goal.end_requests-requires-clause-near
end_requests-requires-clause-near c =
    let few : c.args.rank < (world_of c.args.self.now).ranks = stop_rank (world_of c.args.self.now) c.args.rank c.requires.accepted in
    let halted : length c.halt_exports.new.self.tickets_at.items
    ≡ length c.args.self.now.tickets_at.items = ap (λ (r : Records). length r.tickets_at.items) c.halt_exports.ensures.others in
    let forgot : length c.halt_imports.new.self.tickets_at.items
    ≡ length c.halt_exports.new.self.tickets_at.items = ap (λ (r : Records). length r.tickets_at.items) c.halt_imports.ensures.others in
    let kept : length c.keep_open.new.self.tickets_at.items
    ≡ length c.halt_imports.new.self.tickets_at.items = ap (λ (r : Records). length r.tickets_at.items) c.keep_open.ensures.others in
    omega (arith, halted, forgot, kept, c.requires.kept.indexed.requests.ranked, length-map c.args.self.now.tickets_at.items (λ l. l.items))

pub end_requests-requires-clause-there : goal.end_requests-requires-clause-there
end_requests-requires-clause-there c =
    let w = world_of c.args.self.now in
    let aborted : world_of c.halt_exports.new.self ≡ aborts c.args.rank w =
    ap world_of c.halt_exports.ensures.others ∙ ap (λ (es : List ExporterState). record w { exporters = es }) c.halt_exports.ensures.exporters in
    let forgot : world_of c.halt_imports.new.self ≡ forgets c.args.rank (world_of c.halt_exports.new.self) =
    ap world_of c.halt_imports.ensures.others
    ∙ ap (λ (is : List ImporterState). record (world_of c.halt_exports.new.self) { importers = is }) c.halt_imports.ensures.importers in
    let kept : world_of c.keep_open.new.self ≡ world_of c.halt_imports.new.self = ap world_of c.keep_open.ensures.others in
    subst (λ (v : World). (t : ℕ) (q : Request) → request_of v t ≡ Some q → q.dir < length v.parents)
    (sym (kept ∙ (forgot ∙ ap (forgets c.args.rank) aborted))) (request_there w c.requires.kept.reached)

pub returns : goal.returns
unfolding happens
returns c =
    record {
      effect =
          (let w = world_of c.args.self.now in
          let aborted : world_of c.halt_exports.new.self ≡ aborts c.args.rank w =
          ap world_of c.halt_exports.ensures.others ∙ ap (λ (es : List ExporterState). record w { exporters = es }) c.halt_exports.ensures.exporters in
          let forgot : world_of c.halt_imports.new.self ≡ forgets c.args.rank (world_of c.halt_exports.new.self) =
          ap world_of c.halt_imports.ensures.others
          ∙ ap (λ (is : List ImporterState). record (world_of c.halt_exports.new.self) { importers = is })
          c.halt_imports.ensures.importers in
          let kept : world_of c.keep_open.new.self ≡ world_of c.halt_imports.new.self = ap world_of c.keep_open.ensures.others in
          let ended : world_of c.end_requests.new.self ≡ ends c.args.rank (world_of c.keep_open.new.self) =
          ap world_of c.end_requests.ensures.others ∙ ap (λ ts. record (world_of c.keep_open.new.self) { tickets = ts }) c.end_requests.ensures.tickets in
          let all : world_of c.end_requests.new.self ≡ ends c.args.rank (forgets c.args.rank (aborts c.args.rank w)) = ended
          ∙ ap (ends c.args.rank) (kept ∙ (forgot ∙ ap (forgets c.args.rank) aborted)) in
          let stopped : c.put.new.table.items ≡ set w.stopped c.args.rank true =
          c.put.ensures.items ∙ (ap (λ (v : World). set v.stopped c.number.result true) all ∙ ap (λ r. set w.stopped r true) c.number.ensures.value) in
          ap changed (stops_all c.args.rank w c.requires.kept.reached)
          ∙ ap changed (sym (ap (λ (v : World). record v { stopped = c.put.new.table.items }) all
          ∙ ap (λ (st : List Bool). record (ends c.args.rank (forgets c.args.rank (aborts c.args.rank w))) { stopped = st }) stopped)));
      indexed = stopped_indexed (world_of c.end_requests.new.self) (indexes_of c.end_requests.new.self) c.end_requests.ensures.indexed c.put.new.table.items;
    }
