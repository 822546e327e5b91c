use Rattle.std.proofs.Common.{◌≡◌, ◌<◌, ℕ, List, length, refl, sym, ap, ◌∙◌, arith}
use Rattle.std.proofs.lemmas.Bool.{and_parts, ltb-true}
use Rattle.export_protocol.specs.Authority.{is_among}
use Rattle.export_protocol.specs.Step.{happens}
use Rattle.export_machine.specs.Kept.{world_of, indexes_of, has_room}
use Rattle.std.proofs.lemmas.List.{length-map}
use Rattle.export_machine.proofs.Starting.{start_from_rank, start_indexed}
use Rattle.export_protocol.proofs.Accepted.{start_there, start_few}
use Rattle.export_machine.proofs.records.Records.start.Goals as goal

pub overflow_cast-export : goal.overflow_cast-export
overflow_cast-export c =
    let few : length (world_of c.args.self.now).orders < 65536 = start_few (world_of c.args.self.now) c.args.from c.args.to c.args.dirs c.requires.accepted in
    omega arith

pub mark_opened-requires : goal.mark_opened-requires
mark_opened-requires c =
    record {
      near = λ d h. rw c.requires.kept.indexed.opened_places
          (start_there (world_of c.args.self.now) c.args.from c.args.to c.args.dirs c.requires.accepted d
          (ap (λ (ds : List ℕ). is_among ds d) (sym c.as_slice.ensures) ∙ h));
    }

pub push_reserved-requires : goal.push_reserved-requires
unfolding has_room
push_reserved-requires c = record { room = (and_parts _ _ (and_parts _ _ (and_parts _ _ c.requires.room).1).0).0 }

pub push_reserved-requires-2 : goal.push_reserved-requires-2
unfolding has_room
push_reserved-requires-2 c = ltb-true _ _ (and_parts _ _ (and_parts _ _ (and_parts _ _ c.requires.room).1).0).1

pub enter-requires-clause-near : goal.enter-requires-clause-near
enter-requires-clause-near c =
    let few : c.args.from < (world_of c.args.self.now).ranks =
    start_from_rank (world_of c.args.self.now) c.args.from c.args.to c.args.dirs c.requires.accepted in
    omega (arith, c.requires.kept.indexed.listed.ranked, length-map c.args.self.now.open_at.items (λ l. l.items))

pub enter-requires-clause-room : goal.enter-requires-clause-room
unfolding has_room
enter-requires-clause-room c = (and_parts _ _ (and_parts _ _ c.requires.room).1).1

pub returns : goal.returns
unfolding happens
returns c =
    record {
      effect =
          (let n : length c.args.self.now.exports.orders ≡ c.len-export.result = omega arith in
          let m : length c.args.self.now.sent.items ≡ c.len-message.result = omega arith in
          rw (
            n,
            m,
            c.push_reserved.ensures,
            c.push_reserved-2.ensures.items,
            c.mark_opened.ensures,
          ) refl);
      indexed =
          (let n : c.len-export.result ≡ length c.args.self.now.exports.orders = omega arith in
          rw (
            c.push_reserved.ensures,
            c.push_reserved-2.ensures.items,
            c.enter.ensures.entered,
            c.mark_opened.ensures,
            c.as_slice.ensures,
            n,
          )
          (start_indexed (world_of c.args.self.now) c.args.from c.args.to c.args.dirs c.requires.accepted c.requires.kept.reached
          (indexes_of c.args.self.now) c.requires.kept.indexed));
    }
