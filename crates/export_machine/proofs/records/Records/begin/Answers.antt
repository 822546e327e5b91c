use Rattle.std.proofs.Common.{◌≡◌, ◌<◌, ◌≤◌, ◌∷◌, [], length, get_or, refl, arith}
use Rattle.std.proofs.lemmas.Bool.{and_parts, ltb-true}
use Rattle.std.proofs.lemmas.List.{length-map}
use Rattle.std.proofs.Math.Nat.{le_trans}
use Rattle.export_protocol.specs.Authority.{runs_on}
use Rattle.export_protocol.specs.Step.{happens}
use Rattle.export_machine.specs.Kept.{world_of, indexes_of, has_room}
use Rattle.export_machine.proofs.Counts.{count_within}
use Rattle.export_machine.proofs.Indexing.{begin_indexed}
use Rattle.export_protocol.proofs.Accepted.{begin_dir, begin_rank}
use Rattle.export_machine.proofs.records.Records.begin.Goals as goal

pub push_reserved-requires : goal.push_reserved-requires
unfolding has_room
push_reserved-requires c = ltb-true _ _ (and_parts _ _ (and_parts _ _ c.requires.room).1).0

pub enter-requires-clause-near : goal.enter-requires-clause-near
enter-requires-clause-near c =
    let few : c.args.rank < (world_of c.args.self.now).ranks = begin_rank (world_of c.args.self.now) c.args.rank c.args.dir c.requires.accepted in
    omega (arith, c.requires.kept.indexed.requests.ranked, length-map c.args.self.now.tickets_at.items (λ l. l.items))

pub enter-requires-clause-room : goal.enter-requires-clause-room
unfolding has_room
enter-requires-clause-room c = (and_parts _ _ (and_parts _ _ c.requires.room).1).1

pub begin-requires-clause-near : goal.begin-requires-clause-near
begin-requires-clause-near c = rw c.requires.kept.indexed.running_places (begin_dir (world_of c.args.self.now) c.args.rank c.args.dir c.requires.accepted)

pub begin-requires-clause-few : goal.begin-requires-clause-few
begin-requires-clause-few c =
    let m = count_within (runs_on (c.args.dir ∷ [])) c.args.self.now.tickets.items in
    let l : get_or c.args.self.now.dirs.running c.args.dir 0 ≤ c.args.self.now.events =
    rw (c.requires.kept.indexed.running c.args.dir) (le_trans m c.requires.kept.tickets) in
    omega (arith, c.requires.kept.counted)

pub returns : goal.returns
unfolding happens
returns c =
    record {
      effect =
          (let e : c.len-ticket.result ≡ length c.args.self.now.tickets.items = omega arith in
          rw (c.push_reserved.ensures.items, c.begin.ensures, e) refl);
      indexed =
          (let near : c.args.dir < length c.args.self.now.dirs.parents = begin_dir (world_of c.args.self.now) c.args.rank c.args.dir c.requires.accepted in
          let few : c.args.rank < (world_of c.args.self.now).ranks = begin_rank (world_of c.args.self.now) c.args.rank c.args.dir c.requires.accepted in
          let ranked : c.args.rank < length (indexes_of c.args.self.now).tickets_at = omega (arith, c.requires.kept.indexed.requests.ranked) in
          let e : c.len-ticket.result ≡ length c.args.self.now.tickets.items = omega arith in
          rw (c.begin.ensures, c.enter.ensures.entered, e)
          (begin_indexed (world_of c.args.self.now) (indexes_of c.args.self.now) (record { rank = c.args.rank; dir = c.args.dir })
          c.requires.kept.indexed near ranked
          c.push_reserved.new.self.items c.push_reserved.ensures.items));
    }
