use Rattle.std.proofs.Common.{◌≡◌, ◌<◌, ℕ, Some, None, length, get_or, true, refl, sym, ap, ◌∙◌, arith}
use Rattle.std.proofs.lemmas.Bool.{and_parts}
use Rattle.std.specs.Option.{is_some}
use Rattle.std.proofs.lemmas.List.{length-map}
use Rattle.export_protocol.specs.Authority.{authority}
use Rattle.export_protocol.specs.Step.{happens}
use Rattle.export_machine.specs.Kept.{world_of, indexes_of, has_room, entered_at, has_entry_places}
use Rattle.export_protocol.proofs.Events.{there_near}
use Rattle.export_machine.proofs.Bounds.{owned}
use Rattle.export_machine.proofs.Growing.{gone_indexed, parent_below, some_child}
use Rattle.export_protocol.proofs.Accepted.{as_rank, gone_dir, gone_there, gone_closed, gone_idle, gone_has}
use Rattle.export_machine.proofs.records.Records.remove.Goals as goal

differ : (r : ℕ) → None ≡ Some r → ⊥
differ r e = cc

pub returns-in_default : goal.returns-in_default
returns-in_default c =
    let has = gone_has (world_of c.args.self.now) c.args.dir c.requires.accepted in
    absurd (differ has.0 (sym (sym has.1 ∙ (owned c.args.self.now c.args.dir c.requires.kept c.owner.ensures c.in_default.is))))

pub returns-in_default-parent : goal.returns-in_default-parent
returns-in_default-parent c =
    absurd (gone (sym c.parent.ensures ∙ c.in_default-parent.is) (gone_there (world_of c.args.self.now) c.args.dir c.requires.accepted))
  where
    gone : get_or c.args.self.now.dirs.parents c.args.dir None ≡ None → is_some (get_or c.args.self.now.dirs.parents c.args.dir None) ≡ true → ⊥
    gone e t = cc

pub enter-requires-clause-near : goal.enter-requires-clause-near
enter-requires-clause-near c =
    let k : c.in-Some.rank < length (world_of c.args.self.now).journals =
    as_rank (world_of c.args.self.now) c.requires.kept.reached c.args.dir c.in-Some.rank
    (owned c.args.self.now c.args.dir c.requires.kept c.owner.ensures c.in-Some.is) in
    omega (arith, length-map c.args.self.now.journals.items (λ j. j.items))

pub enter-requires-clause-room : goal.enter-requires-clause-room
unfolding has_room entered_at
enter-requires-clause-room c =
    let a : authority (world_of c.args.self.now) c.args.dir
    ≡ Some c.in-Some.rank = owned c.args.self.now c.args.dir c.requires.kept c.owner.ensures c.in-Some.is in
    (and_parts _ _ (ap (has_entry_places c.args.self.now) (sym a) ∙ (and_parts _ _ c.requires.room).0)).0

pub remove-requires : goal.remove-requires
remove-requires c = record { near = there_near (world_of c.args.self.now) c.args.dir (gone_there (world_of c.args.self.now) c.args.dir c.requires.accepted) }

pub take_child-requires-clause-near : goal.take_child-requires-clause-near
take_child-requires-clause-near c =
    let near : c.args.dir < length c.args.self.now.dirs.parents =
    there_near (world_of c.args.self.now) c.args.dir (gone_there (world_of c.args.self.now) c.args.dir c.requires.accepted) in
    let e : get_or c.args.self.now.dirs.parents c.args.dir None ≡ Some c.in-Some-parent.parent = sym c.parent.ensures ∙ c.in-Some-parent.is in
    let less : c.in-Some-parent.parent < c.args.dir = parent_below (world_of c.args.self.now) c.requires.kept.reached c.args.dir
    c.in-Some-parent.parent e (gone_dir (world_of c.args.self.now) c.args.dir c.requires.accepted) in
    rw (c.remove.ensures, c.requires.kept.indexed.children_places) (omega arith)

pub take_child-requires-clause-some : goal.take_child-requires-clause-some
take_child-requires-clause-some c =
    let near : c.args.dir < length c.args.self.now.dirs.parents =
    there_near (world_of c.args.self.now) c.args.dir (gone_there (world_of c.args.self.now) c.args.dir c.requires.accepted) in
    let e : get_or c.args.self.now.dirs.parents c.args.dir None ≡ Some c.in-Some-parent.parent = sym c.parent.ensures ∙ c.in-Some-parent.is in
    let less : c.in-Some-parent.parent < c.args.dir = parent_below (world_of c.args.self.now) c.requires.kept.reached c.args.dir
    c.in-Some-parent.parent e (gone_dir (world_of c.args.self.now) c.args.dir c.requires.accepted) in
    let a : authority (world_of c.args.self.now) c.args.dir
    ≡ Some c.in-Some.rank = owned c.args.self.now c.args.dir c.requires.kept c.owner.ensures c.in-Some.is in
    let ranked = as_rank (world_of c.args.self.now) c.requires.kept.reached c.args.dir c.in-Some.rank a in
    rw (c.remove.ensures, c.requires.kept.indexed.children c.in-Some-parent.parent)
    (some_child (world_of c.args.self.now) c.in-Some.rank c.args.dir c.in-Some-parent.parent ranked near e less)

pub returns : goal.returns
unfolding happens
returns c =
    record {
      effect =
          (let a : authority (world_of c.args.self.now) c.args.dir
          ≡ Some c.in-Some.rank = owned c.args.self.now c.args.dir c.requires.kept c.owner.ensures c.in-Some.is in
          rw (a, c.enter.ensures.entered, c.take_child.ensures, c.remove.ensures) refl);
      indexed =
          (let near : c.args.dir < length c.args.self.now.dirs.parents =
          there_near (world_of c.args.self.now) c.args.dir (gone_there (world_of c.args.self.now) c.args.dir c.requires.accepted) in
          let e : get_or c.args.self.now.dirs.parents c.args.dir None ≡ Some c.in-Some-parent.parent = sym c.parent.ensures ∙ c.in-Some-parent.is in
          let less : c.in-Some-parent.parent < c.args.dir = parent_below (world_of c.args.self.now) c.requires.kept.reached c.args.dir
          c.in-Some-parent.parent e (gone_dir (world_of c.args.self.now) c.args.dir c.requires.accepted) in
          let a : authority (world_of c.args.self.now) c.args.dir
          ≡ Some c.in-Some.rank = owned c.args.self.now c.args.dir c.requires.kept c.owner.ensures c.in-Some.is in
          let ranked = as_rank (world_of c.args.self.now) c.requires.kept.reached c.args.dir c.in-Some.rank a in
          rw (c.enter.ensures.entered, c.take_child.ensures, c.remove.ensures)
          (gone_indexed (world_of c.args.self.now) c.in-Some.rank c.args.dir c.in-Some-parent.parent ranked near e less
          c.requires.kept.reached (indexes_of c.args.self.now) c.requires.kept.indexed a
          (gone_closed (world_of c.args.self.now) c.args.dir c.requires.accepted)
          (gone_idle (world_of c.args.self.now) c.args.dir c.requires.accepted)));
    }
