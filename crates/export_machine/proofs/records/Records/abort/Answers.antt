use Rattle.std.proofs.Common.{◌≡◌, ◌<◌, ℕ, cond, length, None, List, sym, ap, ◌∙◌, refl, arith}
use Rattle.std.proofs.lemmas.Bool.{and_parts, ltb-true}
use Rattle.mds_types.specs.declared.order.Order.{Order}
use Rattle.export_machine.specs.ExportColumns.{ExportColumns}
use Rattle.export_protocol.specs.Authority.{is_among, is_inside, order_in, from_of}
use Rattle.export_protocol.specs.Step.{happens, map_at}
use Rattle.export_protocol.specs.declared.event.Event.TheVariants.{Abort}
use Rattle.export_machine.specs.Kept.{world_of, indexes_of, has_room}
use Rattle.std.proofs.lemmas.List.{length-map, length-set}
use Rattle.export_machine.proofs.Indexing.{abort_there, abort_indexed}
use Rattle.export_protocol.proofs.Reached.{by_safe}
use Rattle.export_protocol.proofs.Accepted.{numbers_by, exporter_rank, room_left, as_exporter, abort_order, abort_state}
use Rattle.export_machine.proofs.records.Records.abort.Goals as goal

pub order-order-requires : goal.order-order-requires
order-order-requires c = record { near = rw c.set_exporter.ensures (abort_order (world_of c.args.self.now) c.args.export c.requires.accepted) }

pub mark_opened-requires : goal.mark_opened-requires
mark_opened-requires c =
    let here : order_in c.args.self.now.exports.orders c.args.export
    ≡ c.order-order.result.now =
    sym (c.order-order.ensures ∙ ap (λ (t : ExportColumns). order_in t.orders c.args.export) c.set_exporter.ensures) in
    let e : (order_in c.args.self.now.exports.orders c.args.export).dirs ≡ c.as_slice.result.now = ap (λ (o : Order). o.dirs) here ∙ sym c.as_slice.ensures in
    record {
      near = λ d h. rw c.requires.kept.indexed.opened_places
          (abort_there (world_of c.args.self.now) (by_safe (world_of c.args.self.now) c.requires.kept.reached) c.args.export
          (abort_state (world_of c.args.self.now) c.args.export c.requires.accepted) d (ap (λ (ds : List ℕ). is_among ds d) e ∙ h));
    }

pub send-reply-requires-clause-room : goal.send-reply-requires-clause-room
unfolding has_room
send-reply-requires-clause-room c = ltb-true _ _ (and_parts _ _ c.requires.room).1

pub send-reply-requires-clause-few : goal.send-reply-requires-clause-few
send-reply-requires-clause-few c = let left = room_left (world_of c.args.self.now) (Abort c.args.export) c.requires.accepted in
    omega (arith, c.requires.kept.sent)

pub note_told-requires-clause-near : goal.note_told-requires-clause-near
note_told-requires-clause-near c =
    let w = world_of c.args.self.now in
    let order = abort_order w c.args.export c.requires.accepted in
    let here : order_in c.args.self.now.exports.orders c.args.export
    ≡ c.order-order.result.now =
    sym (c.order-order.ensures ∙ ap (λ (t : ExportColumns). order_in t.orders c.args.export) c.set_exporter.ensures) in
    let t : from_of w c.args.export ≡ c.order-order.result.now.from = ap (λ (o : Order). o.from) here in
    let k : c.order-order.result.now.from < length w.journals = rw (← t) (exporter_rank w c.requires.kept.reached c.args.export order) in
    let ranks : w.ranks ≡ length w.journals = numbers_by w c.requires.kept.reached _ _ (λ safe. sym safe.all_ranks) in
    omega (arith, c.requires.kept.indexed.listed.ranked, length-map c.args.self.now.open_at.items (λ l. l.items))

pub note_told-requires-clause-exporting : goal.note_told-requires-clause-exporting
note_told-requires-clause-exporting c =
    rw c.set_exporter.ensures (length-set c.args.self.now.exports.exporters _ _
    ∙ numbers_by (world_of c.args.self.now) c.requires.kept.reached (length c.args.self.now.exports.exporters)
    (length c.args.self.now.exports.orders) (λ safe. safe.exporting))

pub note_told-requires-clause-importing : goal.note_told-requires-clause-importing
note_told-requires-clause-importing c =
    rw c.set_exporter.ensures (numbers_by (world_of c.args.self.now) c.requires.kept.reached (length c.args.self.now.exports.importers)
    (length c.args.self.now.exports.orders) (λ safe. safe.importing))

pub note_told-requires-clause-indexed : goal.note_told-requires-clause-indexed
note_told-requires-clause-indexed c =
    let order = abort_order (world_of c.args.self.now) c.args.export c.requires.accepted in
    let here : order_in c.args.self.now.exports.orders c.args.export
    ≡ c.order-order.result.now =
    sym (c.order-order.ensures ∙ ap (λ (t : ExportColumns). order_in t.orders c.args.export) c.set_exporter.ensures) in
    let e : (order_in c.args.self.now.exports.orders c.args.export).dirs ≡ c.as_slice.result.now = ap (λ (o : Order). o.dirs) here ∙ sym c.as_slice.ensures in
    let dirs = c.args.self.now.dirs in
    let marked : record dirs { opened = map_at (λ k old. cond (is_inside (world_of c.args.self.now) c.args.export k) None old) dirs.opened }
    ≡ c.mark_opened.new.self =
    ap (λ (ds : List ℕ). record dirs { opened = map_at (λ k old. cond (is_among ds k) None old) dirs.opened }) e ∙ sym c.mark_opened.ensures in
    rw (← marked, c.set_exporter.ensures)
    (abort_indexed (world_of c.args.self.now) c.args.export
    (as_exporter (world_of c.args.self.now) c.requires.kept.reached c.args.export order) c.send-reply.new.sent.items
    (by_safe (world_of c.args.self.now) c.requires.kept.reached) (indexes_of c.args.self.now)
    c.requires.kept.indexed (abort_state (world_of c.args.self.now) c.args.export c.requires.accepted))

pub returns : goal.returns
unfolding happens
returns c =
    record {
      effect = rw (c.note_told.ensures.others, c.send-reply.ensures.items, c.send-reply.ensures.reply, c.mark_opened.ensures, c.set_exporter.ensures) refl;
      indexed = c.note_told.ensures.indexed;
    }
