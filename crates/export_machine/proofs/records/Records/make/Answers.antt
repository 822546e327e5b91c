use Rattle.std.proofs.Common.{◌≡◌, ◌<◌, ◌≤◌, ℕ, Some, None, length, refl, sym, ap, ◌∙◌, arith}
use Rattle.std.proofs.lemmas.Bool.{and_parts, ltb-true}
use Rattle.std.proofs.lemmas.List.{length-map}
use Rattle.export_protocol.specs.Authority.{authority}
use Rattle.export_protocol.specs.Step.{happens, is_child}
use Rattle.export_machine.specs.Kept.{world_of, indexes_of, has_room, entered_at, children_of, has_entry_places}
use Rattle.export_protocol.proofs.Views.{length_push}
use Rattle.export_machine.proofs.Bounds.{owned}
use Rattle.export_machine.proofs.Growing.{made_indexed, children_are, count_within}
use Rattle.export_protocol.proofs.Accepted.{as_rank, made_parent, made_few, made_has}
use Rattle.export_machine.proofs.records.Records.make.Goals as goal

pub returns-in_default : goal.returns-in_default
returns-in_default c =
    let has = made_has (world_of c.args.self.now) c.args.parent c.requires.accepted in
    absurd (differ has.0 (sym (sym has.1 ∙ (owned c.args.self.now c.args.parent c.requires.kept c.owner.ensures c.in_default.is))))
  where
    differ : (r : ℕ) → None ≡ Some r → ⊥
    differ r e = cc

pub enter-requires-clause-near : goal.enter-requires-clause-near
enter-requires-clause-near c =
    let k : c.in-Some.rank < length (world_of c.args.self.now).journals =
    as_rank (world_of c.args.self.now) c.requires.kept.reached c.args.parent c.in-Some.rank
    (owned c.args.self.now c.args.parent c.requires.kept c.owner.ensures c.in-Some.is) in
    omega (arith, length-map c.args.self.now.journals.items (λ j. j.items))

pub enter-requires-clause-room : goal.enter-requires-clause-room
unfolding has_room entered_at
enter-requires-clause-room c =
    let a : authority (world_of c.args.self.now) c.args.parent
    ≡ Some c.in-Some.rank = owned c.args.self.now c.args.parent c.requires.kept c.owner.ensures c.in-Some.is in
    (and_parts _ _ (ap (has_entry_places c.args.self.now) (sym a) ∙ (and_parts _ _ c.requires.room).0)).0

pub push_reserved-requires : goal.push_reserved-requires
unfolding has_room entered_at
push_reserved-requires c = record { room = (and_parts _ _ (and_parts _ _ c.requires.room).1).0 }

pub push_reserved-requires-2 : goal.push_reserved-requires-2
unfolding has_room entered_at
push_reserved-requires-2 c = ltb-true _ _ (and_parts _ _ (and_parts _ _ c.requires.room).1).1

pub add_child-requires-clause-near : goal.add_child-requires-clause-near
add_child-requires-clause-near c =
    let p : c.args.parent < length c.args.self.now.dirs.parents = made_parent (world_of c.args.self.now) c.args.parent c.requires.accepted in
    rw (c.push_reserved.ensures, length_push c.args.self.now.dirs.children 0, c.requires.kept.indexed.children_places) (omega arith)

pub add_child-requires-clause-few : goal.add_child-requires-clause-few
add_child-requires-clause-few c =
    let w = world_of c.args.self.now in
    let p : c.args.parent < length c.args.self.now.dirs.parents = made_parent w c.args.parent c.requires.accepted in
    let few : length c.args.self.now.dirs.parents < c.args.self.now.limit = made_few w c.args.parent c.requires.accepted in
    let m : children_of w c.args.parent ≤ length c.args.self.now.dirs.parents = count_within (is_child c.args.parent) c.args.self.now.dirs.parents in
    rw (c.push_reserved.ensures, children_are w (indexes_of c.args.self.now) c.args.parent c.requires.kept.indexed p) (omega (arith, c.requires.kept.few_dirs))

pub returns : goal.returns
unfolding happens
returns c =
    record {
      effect =
          (let a : authority (world_of c.args.self.now) c.args.parent
          ≡ Some c.in-Some.rank = owned c.args.self.now c.args.parent c.requires.kept c.owner.ensures c.in-Some.is in
          let n : c.new-dir.result ≡ length c.args.self.now.dirs.parents = omega arith in
          rw (a, c.enter.ensures.entered, c.add_child.ensures, c.push_reserved.ensures, n) refl);
      indexed =
          (let p : c.args.parent < length c.args.self.now.dirs.parents = made_parent (world_of c.args.self.now) c.args.parent c.requires.accepted in
          let k : c.in-Some.rank < length (world_of c.args.self.now).journals =
          as_rank (world_of c.args.self.now) c.requires.kept.reached c.args.parent c.in-Some.rank
          (owned c.args.self.now c.args.parent c.requires.kept c.owner.ensures c.in-Some.is) in
          let n : c.new-dir.result ≡ length c.args.self.now.dirs.parents = omega arith in
          rw (c.enter.ensures.entered, c.add_child.ensures, c.push_reserved.ensures, c.push_reserved-2.ensures.items, n)
          (made_indexed (world_of c.args.self.now) c.in-Some.rank c.args.parent k c.requires.kept.reached (indexes_of c.args.self.now)
          c.requires.kept.indexed p));
    }
