use Rattle.std.proofs.Common.{◌≡◌, ◌∙◌, ◌++◌, ◌∷◌, [], None, Some, refl, sym, ap, subst, arith, append_assoc}
use Rattle.authority_map.specs.Operations.{rank_after}
use Rattle.dirtree.specs.Tree.{Directories, make_refusal}
use Rattle.export_protocol.specs.Authority.{authority, named_of}
use Rattle.export_protocol.specs.Cluster.{World}
use Rattle.export_protocol.specs.declared.event.Event.TheVariants.{Made}
use Rattle.export_protocol.specs.View.{IsReached}
use Rattle.export_protocol.specs.Step as machine
use Rattle.mds_board.specs.State.{map_change}
use Rattle.mds_board.specs.Steps.{Present, parents_of}
use Rattle.mds_board.proofs.Accepted.{has_place, may_make}
use Rattle.mds_board.proofs.Fitting.{as_many, few_stay, parents_made}
use Rattle.mds_board.proofs.Mapping.{limit_stays, map_follows, parents_follow, ranks_stay}
use Rattle.mds_board.proofs.state.BoardState.make.Goals as goal

pub overflow_add-self : goal.overflow_add-self
overflow_add-self g c =
    let place = has_place _ _ (sym (c.in_default.ensures 0)) in
    let same = ap (λ (p : Present). p.state.events) c.self.view_is in
    omega (arith, place, same)

pub reserve-requires-2 : goal.reserve-requires-2
reserve-requires-2 g c =
    let may = (may_make _ _ _ 0 (sym (c.in_default.ensures 0))).1 in
    subst (λ (p : Present). machine.refusal p.state.cluster (Made c.args.parent) ≡ None) (sym c.self.view_is) may

pub happen-requires-clause-accepted : goal.happen-requires-clause-accepted
happen-requires-clause-accepted g c =
    let may = (may_make _ _ _ 0 (sym (c.in_default.ensures 0))).1 in
    let here = subst (λ (p : Present). machine.refusal p.state.cluster (Made c.args.parent) ≡ None) (sym c.self.view_is) may in
    subst (λ (w : World). machine.refusal w (Made c.args.parent) ≡ None) (sym c.reserve-2.ensures.world) here

pub add-requires : goal.add-requires
add-requires g c =
    let may = (may_make _ _ _ 0 (sym (c.in_default.ensures 0))).0 in
    subst (λ (p : Present). make_refusal p.state.directories c.args.parent c.args.name.now ≡ None) (sym c.self.view_is) may

pub happen-requires-clause-room : goal.happen-requires-clause-room
happen-requires-clause-room g c = c.in-Ok-Ok.ensures'.room

pub invariant_of-self-2 : goal.invariant_of-self-2
invariant_of-self-2 g c =
    let i = c.self.invariant.0 in
    let b = c.self.inside in
    let w = b.cluster.world in
    let e = Made c.args.parent in
    let published = g.M.Publisher.published b.map in
    let pending = g.M.Publisher.pending b.map in
    let may = (may_make _ _ _ 0 (sym (c.in_default.ensures 0))).1 in
    let ok = subst (λ (p : Present). machine.refusal p.state.cluster e ≡ None) (sym c.self.view_is) may in
    let is = c.happen.ensures.world ∙ ap (λ v. machine.counted (machine.happens v e).world) c.reserve-2.ensures.world in
    let written = c.recorded.ensures.recorded w e (subst (λ v. IsReached v) c.reserve-2.ensures.world c.reached.ensures.reached) in
    let tree = c.in-Ok.ensures.made in
    let number = c.in-Ok.ensures.number ∙ sym (as_many b.tree.entries w.parents i.parents) in
    let rank = c.authority-rank.ensures ∙ ap (λ v. authority v c.args.parent) c.reserve-2.ensures.world in
    let appended : g.M.Publisher.pending c.give.new.map ≡ pending ++ map_change w e =
    rw (c.give.ensures.appended, c.reserve.ensures.same.1, number, rank) refl in
    let ops : g.M.Publisher.published c.give.new.map ++ g.M.Publisher.pending c.give.new.map ≡ (published ++ pending) ++ map_change w e =
    rw (c.give.ensures.published, c.reserve.ensures.same.0, appended) (sym (append_assoc published pending (map_change w e))) in (
      record {
        few_ticks = rw c.clear.ensures.heats (omega (arith, i.few_ticks));
        pins_limit = rw tree i.pins_limit;
        heats_limit = rw (c.clear.ensures.heats, tree) i.heats_limit;
        parents = ap (λ (v : World). v.parents) is ∙ (parents_follow w e written ok
            ∙ (ap (λ ps. ps ++ Some c.args.parent ∷ []) i.parents
            ∙ (sym (parents_made b.tree.entries (record { parent = c.args.parent; name = c.args.name.now; inodes = c.args.inodes }))
            ∙ ap (λ (t : Directories). parents_of t.entries) (sym tree))));
        cluster_limit = rw tree (ap (λ (v : World). v.limit) is ∙ (limit_stays w e written ok ∙ i.cluster_limit));
        ranks = ap (λ (v : World). v.ranks) is ∙ (ranks_stay w e written ok ∙ i.ranks);
        few_begun = few_stay b.book.begun b.events i.few_begun;
        mapped = λ d. ap (λ os. rank_after os d) ops ∙ (map_follows w (published ++ pending) e written ok i.mapped d ∙ ap (λ v. named_of v d) (sym is));
      },
      rw tree c.self.invariant.1,
    )
