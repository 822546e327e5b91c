use Rattle.std.proofs.Common.{◌≡◌, ◌<◌, ℕ, cond, List, length, Some, refl, sym, ap, ◌∙◌, arith}
use Rattle.std.proofs.lemmas.Bool.{and_parts, ltb-true}
use Rattle.std.proofs.lemmas.List.{length-map}
use Rattle.mds_types.specs.declared.order.Order.{Order}
use Rattle.export_machine.specs.ExportColumns.{ExportColumns}
use Rattle.export_protocol.specs.Authority.{from_of, to_of, is_among, order_in}
use Rattle.export_protocol.specs.Step.{happens, map_at}
use Rattle.export_protocol.specs.declared.event.Event.TheVariants.{Notify}
use Rattle.export_machine.specs.Kept.{world_of, indexes_of, has_room, entered_at}
use Rattle.export_protocol.proofs.Accepted.{room_left, exporter_rank, notify_order, notify_state}
use Rattle.export_protocol.proofs.Found.{notify_there}
use Rattle.export_machine.proofs.Rows.{notify_indexed}
use Rattle.export_machine.proofs.records.Records.notify.Goals as goal

pub order-order-requires : goal.order-order-requires
order-order-requires c = record { near = rw c.set_exporter.ensures (notify_order (world_of c.args.self.now) c.args.export c.requires.accepted) }

pub enter-requires-clause-near : goal.enter-requires-clause-near
enter-requires-clause-near c =
    let order = notify_order (world_of c.args.self.now) c.args.export c.requires.accepted in
    let here : order_in c.args.self.now.exports.orders c.args.export
    ≡ c.order-order.result.now =
    sym (c.order-order.ensures ∙ ap (λ (t : ExportColumns). order_in t.orders c.args.export) c.set_exporter.ensures) in
    let t : from_of (world_of c.args.self.now) c.args.export ≡ c.order-order.result.now.from = ap (λ (o : Order). o.from) here in
    let k : c.order-order.result.now.from < length (world_of c.args.self.now).journals =
    rw (← t) (exporter_rank (world_of c.args.self.now) c.requires.kept.reached c.args.export order) in
    omega (arith, length-map c.args.self.now.journals.items (λ j. j.items))

pub enter-requires-clause-room : goal.enter-requires-clause-room
unfolding has_room entered_at
enter-requires-clause-room c =
    let order = notify_order (world_of c.args.self.now) c.args.export c.requires.accepted in
    let here : order_in c.args.self.now.exports.orders c.args.export
    ≡ c.order-order.result.now =
    sym (c.order-order.ensures ∙ ap (λ (t : ExportColumns). order_in t.orders c.args.export) c.set_exporter.ensures) in
    let t : from_of (world_of c.args.self.now) c.args.export ≡ c.order-order.result.now.from = ap (λ (o : Order). o.from) here in
    rw (← t) (and_parts _ _ (and_parts _ _ c.requires.room).0).0

pub mark_named-requires : goal.mark_named-requires
mark_named-requires c =
    let order = notify_order (world_of c.args.self.now) c.args.export c.requires.accepted in
    let here : order_in c.args.self.now.exports.orders c.args.export
    ≡ c.order-order.result.now =
    sym (c.order-order.ensures ∙ ap (λ (t : ExportColumns). order_in t.orders c.args.export) c.set_exporter.ensures) in
    let f : (order_in c.args.self.now.exports.orders c.args.export).dirs ≡ c.as_slice.result.now =
    ap (λ (o : Order). o.dirs) here ∙ sym c.as_slice.ensures in
    record {
      near = λ d h. notify_there (world_of c.args.self.now) c.requires.kept.reached c.args.export
          (notify_state (world_of c.args.self.now) c.args.export c.requires.accepted) d (ap (λ (ds : List ℕ). is_among ds d) f ∙ h);
    }

pub send-requires-clause-room : goal.send-requires-clause-room
unfolding has_room entered_at
send-requires-clause-room c = ltb-true _ _ (and_parts _ _ c.requires.room).1

pub send-requires-clause-few : goal.send-requires-clause-few
send-requires-clause-few c = let left = room_left (world_of c.args.self.now) (Notify c.args.export) c.requires.accepted in omega (arith, c.requires.kept.sent)

pub returns : goal.returns
unfolding happens
returns c =
    let order = notify_order (world_of c.args.self.now) c.args.export c.requires.accepted in
    let here : order_in c.args.self.now.exports.orders c.args.export
    ≡ c.order-order.result.now =
    sym (c.order-order.ensures ∙ ap (λ (t : ExportColumns). order_in t.orders c.args.export) c.set_exporter.ensures) in
    let t : from_of (world_of c.args.self.now) c.args.export ≡ c.order-order.result.now.from = ap (λ (o : Order). o.from) here in
    let u : to_of (world_of c.args.self.now) c.args.export ≡ c.order-order.result.now.to = ap (λ (o : Order). o.to) here in
    let f : (order_in c.args.self.now.exports.orders c.args.export).dirs ≡ c.as_slice.result.now =
    ap (λ (o : Order). o.dirs) here ∙ sym c.as_slice.ensures in
    let dirs = c.args.self.now.dirs in
    let m : record dirs {
      named =
          map_at (λ k old. cond (is_among (order_in c.args.self.now.exports.orders c.args.export).dirs k)
          (Some (to_of (world_of c.args.self.now) c.args.export)) old) dirs.named;
    } ≡ c.mark_named.new.self =
    ap (λ (ds : List ℕ). record dirs {
      named =
          map_at (λ k old. cond (is_among ds k) (Some (to_of (world_of c.args.self.now) c.args.export)) old) dirs.named;
    }) f
    ∙ (ap (λ (s : ℕ). record dirs { named = map_at (λ k old. cond (is_among c.as_slice.result.now k) (Some s) old) dirs.named }) u
    ∙ sym c.mark_named.ensures) in
    record {
      effect = rw (c.send.ensures.items, c.send.ensures.reply, c.enter.ensures.entered, ← t, ← m, c.set_exporter.ensures) refl;
      indexed =
          rw (c.enter.ensures.entered, ← t, ← m, c.set_exporter.ensures)
          (notify_indexed (world_of c.args.self.now) c.args.export
          (notify_state (world_of c.args.self.now) c.args.export c.requires.accepted)
          (exporter_rank (world_of c.args.self.now) c.requires.kept.reached c.args.export order) c.send.new.sent.items
          c.requires.kept.reached (indexes_of c.args.self.now) c.requires.kept.indexed);
    }
