use Rattle.std.proofs.Common.{refl, arith}
use Rattle.std.proofs.lemmas.Bool.{and_parts, ltb-true}
use Rattle.export_protocol.specs.Step.{happens}
use Rattle.export_protocol.specs.declared.event.Event.TheVariants.{Ask}
use Rattle.export_machine.specs.Kept.{world_of, indexes_of, has_room}
use Rattle.export_protocol.proofs.Accepted.{room_left}
use Rattle.export_machine.proofs.Rows.{importer_indexed}
use Rattle.export_machine.proofs.records.Records.ask.Goals as goal

pub send-requires-clause-room : goal.send-requires-clause-room
unfolding has_room
send-requires-clause-room c = ltb-true _ _ (and_parts _ _ c.requires.room).1

pub send-requires-clause-few : goal.send-requires-clause-few
send-requires-clause-few c = let left = room_left (world_of c.args.self.now) (Ask c.args.export) c.requires.accepted in omega (arith, c.requires.kept.sent)

pub returns : goal.returns
unfolding happens
returns c =
    record {
      effect = rw (c.send.ensures.items, c.send.ensures.reply) refl;
      indexed = importer_indexed (world_of c.args.self.now) (indexes_of c.args.self.now) c.requires.kept.indexed
          c.args.self.now.exports.importers c.send.new.sent.items _ c.requires.kept.indexed.listed;
    }
