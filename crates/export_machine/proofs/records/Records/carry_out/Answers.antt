use Rattle.std.proofs.Common.{◌≡◌, ◌<◌, length, Some, ap, refl, ◌∙◌, arith}
use Rattle.std.proofs.lemmas.List.{length-map}
use Rattle.export_protocol.specs.Authority.{order_in, importer_of, exporter_of}
use Rattle.export_protocol.specs.Step.{about, receiver, acts, Outcome}
use Rattle.export_protocol.specs.Cluster.{World}
use Rattle.export_machine.specs.Kept.{world_of, indexes_of, IsIndexed}
use Rattle.export_machine.specs.Moving.{heard, indexes_noted, indexes_moved}
use Rattle.export_machine.proofs.Receiving.{known, here_journal, here_list, inside_owned, inside_opened, as_exporters, as_importers}
use Rattle.export_machine.proofs.Moving.{row_indexed, exporters_long, importers_long, moved_parts}
use Rattle.export_machine.proofs.records.Records.carry_out.Goals as goal

pub import_to-requires-clause-near : goal.import_to-requires-clause-near
import_to-requires-clause-near c = rw (c.export_to.ensures.others, c.requires.here) (here_list c.args.self.now c.args.message c.requires.can)

pub import_to-requires-clause-room : goal.import_to-requires-clause-room
import_to-requires-clause-room c = rw (c.export_to.ensures.others, c.requires.here) c.requires.can.listing

pub note-requires-clause-near : goal.note-requires-clause-near
note-requires-clause-near c = rw (c.import_to.ensures.others, c.export_to.ensures.others, c.requires.here)
    (here_journal c.args.self.now c.args.message c.requires.can)

pub note-requires-clause-room : goal.note-requires-clause-room
note-requires-clause-room c = rw (c.import_to.ensures.others, c.export_to.ensures.others, c.requires.here) c.requires.can.place

pub note-requires-clause-known : goal.note-requires-clause-known
note-requires-clause-known c = rw (c.import_to.ensures.others, c.export_to.ensures.others, c.export-export.ensures)
    (known c.args.self.now c.args.message c.requires.can)

pub note-requires-clause-owned : goal.note-requires-clause-owned
note-requires-clause-owned c = rw (c.import_to.ensures.others, c.export_to.ensures.others, c.export-export.ensures)
    (inside_owned c.args.self.now c.args.message c.requires.can)

pub note-requires-clause-open : goal.note-requires-clause-open
note-requires-clause-open c = rw (c.import_to.ensures.others, c.export_to.ensures.others, c.export-export.ensures)
    (inside_opened c.args.self.now c.args.message c.requires.can)

pub tell-requires-clause-indexed : goal.tell-requires-clause-indexed
tell-requires-clause-indexed c =
    let r = c.args.self.now in
    let w = world_of r in
    let m = c.args.message in
    let effect = moved_parts w _ _ _ _ _ _ _ _ c.export_to.ensures.world c.import_to.ensures.world c.note.ensures.world c.answer-reply.ensures.effect in
    let tables : indexes_of c.answer-reply.new.self ≡ indexes_noted (order_in w.orders c.export-export.result) c.export-export.result c.args.next.entry
    (record (indexes_of r) {
      open_at = heard c.args.rank c.export-export.result c.args.next.importer (importer_of w c.export-export.result)
          (indexes_of r).open_at;
    }) =
    rw c.answer-reply.ensures.others (c.note.ensures.indexes ∙ rw (c.import_to.ensures.others, c.import_to.ensures.listed, c.export_to.ensures.others) refl) in
    let row : IsIndexed (acts w m (Some c.args.next)).world
    (indexes_moved (order_in w.orders (about m)) (receiver w m) (about m) (importer_of w (about m)) (Some c.args.next) (indexes_of r)) =
    rw c.requires.moves at (row_indexed r m c.requires.can (exporter_of w (about m)) (importer_of w (about m)) refl refl) in
    rw (tables, ← ap (λ (o : Outcome). o.world) effect, c.export-export.ensures, c.requires.here) row

pub tell-requires-clause-near : goal.tell-requires-clause-near
tell-requires-clause-near c =
    let near : c.args.rank < length c.args.self.now.open_at.items = rw c.requires.here (here_list c.args.self.now c.args.message c.requires.can) in
    let ranks : c.answer-reply.new.self.ranks ≡ c.args.self.now.ranks =
    rw (c.answer-reply.ensures.others, c.note.ensures.others, c.import_to.ensures.others, c.export_to.ensures.others) refl in
    let after : length (indexes_of c.answer-reply.new.self).open_at ≡ c.answer-reply.new.self.ranks = (tell-requires-clause-indexed c).listed.ranked in
    omega (
      arith,
      c.requires.can.kept.indexed.listed.ranked,
      length-map c.args.self.now.open_at.items (λ l. l.items),
      length-map c.answer-reply.new.self.open_at.items (λ l. l.items),
    )

pub tell-requires-clause-exporting : goal.tell-requires-clause-exporting
tell-requires-clause-exporting c =
    rw (c.answer-reply.ensures.others, c.note.ensures.others, c.import_to.ensures.others) (ap (λ (u : World). length u.exporters) c.export_to.ensures.world
    ∙ (exporters_long (world_of c.args.self.now) c.export-export.result c.args.next.exporter
    ∙ rw c.export_to.ensures.others (as_exporters c.args.self.now c.args.message c.requires.can)))

pub tell-requires-clause-importing : goal.tell-requires-clause-importing
tell-requires-clause-importing c =
    rw (c.answer-reply.ensures.others, c.note.ensures.others) (ap (λ (u : World). length u.importers) c.import_to.ensures.world
    ∙ (importers_long (world_of c.export_to.new.self) c.export-export.result c.args.next.importer
    ∙ rw (c.import_to.ensures.others, c.export_to.ensures.others) (as_importers c.args.self.now c.args.message c.requires.can)))

pub returns : goal.returns
returns c =
    let effect = moved_parts (world_of c.args.self.now) _ _ _ _ _ _ _ _ c.export_to.ensures.world c.import_to.ensures.world
    c.note.ensures.world c.answer-reply.ensures.effect in
    record {
      effect = rw (c.requires.moves, c.tell.ensures.others, ← c.export-export.ensures, ← c.requires.here) effect;
      indexed = c.tell.ensures.indexed;
    }
