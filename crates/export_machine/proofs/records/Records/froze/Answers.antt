use Rattle.std.proofs.Common.{refl, arith}
use Rattle.std.proofs.lemmas.Bool.{and_parts, ltb-true}
use Rattle.export_protocol.specs.Step.{happens}
use Rattle.export_protocol.specs.declared.event.Event.TheVariants.{Froze}
use Rattle.export_machine.specs.Kept.{world_of, indexes_of, has_room}
use Rattle.export_machine.proofs.Indexing.{froze_indexed}
use Rattle.export_protocol.proofs.Accepted.{room_left, froze_state}
use Rattle.export_machine.proofs.records.Records.froze.Goals as goal

pub send-requires-clause-room : goal.send-requires-clause-room
unfolding has_room
send-requires-clause-room c = ltb-true _ _ (and_parts _ _ c.requires.room).1

pub send-requires-clause-few : goal.send-requires-clause-few
send-requires-clause-few c = let left = room_left (world_of c.args.self.now) (Froze c.args.export) c.requires.accepted in omega (arith, c.requires.kept.sent)

pub returns : goal.returns
unfolding happens
returns c =
    record {
      effect = rw (c.send.ensures.items, c.send.ensures.reply, c.set_exporter.ensures) refl;
      indexed = rw c.set_exporter.ensures
          (froze_indexed (world_of c.args.self.now) (indexes_of c.args.self.now) c.args.export c.requires.kept.indexed
          (froze_state (world_of c.args.self.now) c.args.export c.requires.accepted) c.send.new.sent.items);
    }
