use Rattle.std.proofs.Common.{◌≡◌, ◌<◌, true, false, length, Some, refl, sym, ap, ◌∙◌, arith}
use Rattle.std.proofs.lemmas.Bool.{and_parts}
use Rattle.std.specs.List.{slice_get}
use Rattle.export_protocol.specs.Authority.{is_stopped}
use Rattle.export_protocol.specs.Step.{happens, receiver}
use Rattle.export_protocol.specs.declared.event.Event.TheVariants.{Deliver}
use Rattle.export_machine.specs.Columns.{has_spare}
use Rattle.export_machine.specs.Kept.{world_of, has_room, entered_at, has_entry_places, receiver_of}
use Rattle.export_protocol.proofs.Accepted.{deliver_near, room_left}
use Rattle.export_machine.proofs.Receiving.{sent_at, sent_order}
use Rattle.export_machine.proofs.records.Records.deliver.Goals as goal

pub index-message-requires : goal.index-message-requires
index-message-requires c = let near : c.args.message < length c.args.self.now.sent.items =
    deliver_near (world_of c.args.self.now) c.args.message c.requires.accepted in omega arith

pub receiver-rank-requires : goal.receiver-rank-requires
receiver-rank-requires c =
    let sent : slice_get c.args.self.now.sent.items c.args.message ≡ Some c.index-message.result.now =
    sent_at (world_of c.args.self.now) c.args.message c.index-message.result.now c.requires.accepted c.index-message.ensures in
    sent_order (world_of c.args.self.now) c.requires.kept.reached c.args.message c.index-message.result.now sent

pub returns-then-is_stopped : goal.returns-then-is_stopped
unfolding happens
returns-then-is_stopped c =
    record {
      effect =
          (let sent : slice_get c.args.self.now.sent.items c.args.message ≡ Some c.index-message.result.now =
          sent_at (world_of c.args.self.now) c.args.message c.index-message.result.now c.requires.accepted c.index-message.ensures in
          let s : is_stopped (world_of c.args.self.now) (receiver (world_of c.args.self.now) c.index-message.result.now) ≡ true =
          ap (is_stopped (world_of c.args.self.now)) (sym c.receiver-rank.ensures) ∙ (sym c.is_stopped.ensures ∙ c.if-is_stopped.true) in
          rw (sent, s) refl);
      indexed = c.requires.kept.indexed;
    }

pub receive-requires : goal.receive-requires
unfolding has_room entered_at
receive-requires c =
    let sent : slice_get c.args.self.now.sent.items c.args.message ≡ Some c.index-message.result.now =
    sent_at (world_of c.args.self.now) c.args.message c.index-message.result.now c.requires.accepted c.index-message.ensures in
    let room : (has_entry_places c.args.self.now
    (receiver_of (world_of c.args.self.now) (slice_get c.args.self.now.sent.items c.args.message)) ≡ true)
    × (has_spare c.args.self.now.sent ≡ true) = and_parts _ _ c.requires.room in
    record {
      can = record {
        kept = c.requires.kept;
        sent = (c.args.message, sent);
        spare = room.1;
        place = (and_parts _ _ (rw sent at room.0)).0;
        listing = (and_parts _ _ (rw sent at room.0)).1;
        few = room_left (world_of c.args.self.now) (Deliver c.args.message) c.requires.accepted;
      };
      here = c.receiver-rank.ensures;
    }

pub returns : goal.returns
unfolding happens
returns c =
    record {
      effect =
          (let sent : slice_get c.args.self.now.sent.items c.args.message ≡ Some c.index-message.result.now =
          sent_at (world_of c.args.self.now) c.args.message c.index-message.result.now c.requires.accepted c.index-message.ensures in
          let s : is_stopped (world_of c.args.self.now) (receiver (world_of c.args.self.now) c.index-message.result.now) ≡ false =
          ap (is_stopped (world_of c.args.self.now)) (sym c.receiver-rank.ensures) ∙ (sym c.is_stopped.ensures ∙ c.if-is_stopped.false) in
          rw (sent, s) c.receive.ensures.effect);
      indexed = c.receive.ensures.indexed;
    }
