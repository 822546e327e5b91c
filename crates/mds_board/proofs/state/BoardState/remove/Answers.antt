use Rattle.std.proofs.Common.{◌≡◌, ◌∙◌, ◌++◌, ◌<◌, None, ℕ, sym, ap, subst, arith, append_assoc, slice_set}
use Rattle.authority_map.specs.Operations.{rank_after}
use Rattle.dirtree.specs.Tree as tree
use Rattle.export_protocol.specs.Authority.{named_of}
use Rattle.export_protocol.specs.Cluster.{World}
use Rattle.export_protocol.specs.declared.event.Event.TheVariants.{Gone}
use Rattle.export_protocol.specs.View.{IsReached}
use Rattle.export_protocol.specs.Step as machine
use Rattle.mds_board.specs.State.{map_change}
use Rattle.mds_board.specs.Steps.{Present, parents_of}
use Rattle.mds_board.proofs.Accepted.{has_place, may_remove}
use Rattle.mds_board.proofs.Fitting.{few_stay, parents_gone}
use Rattle.mds_board.proofs.Mapping.{limit_stays, map_follows, parents_follow, ranks_stay}
use Rattle.mds_board.proofs.state.BoardState.remove.Goals as goal

pub overflow_add-self : goal.overflow_add-self
overflow_add-self g c =
    let place = has_place _ _ (sym c.in_default.ensures) in
    let same = ap (λ (p : Present). p.state.events) c.self.view_is in
    omega (arith, place, same)

pub unreachable-requires : goal.unreachable-requires
unreachable-requires g c =
    let may = (may_remove _ _ (sym c.in_default.ensures)).0 in
    let here = subst (λ (p : Present). tree.remove_refusal p.state.directories c.args.dir ≡ None) (sym c.self.view_is) may in
    let bad = sym here ∙ c.in_default-remove.ensures.refused in cc

pub reserve-requires-2 : goal.reserve-requires-2
reserve-requires-2 g c =
    let may = (may_remove _ _ (sym c.in_default.ensures)).1 in
    subst (λ (p : Present). machine.refusal p.state.cluster (Gone c.args.dir) ≡ None) (sym c.self.view_is) may

pub happen-requires-clause-accepted : goal.happen-requires-clause-accepted
happen-requires-clause-accepted g c =
    let may = (may_remove _ _ (sym c.in_default.ensures)).1 in
    let here = subst (λ (p : Present). machine.refusal p.state.cluster (Gone c.args.dir) ≡ None) (sym c.self.view_is) may in
    subst (λ (w : World). machine.refusal w (Gone c.args.dir) ≡ None) (sym c.reserve-2.ensures.world) here

pub happen-requires-clause-room : goal.happen-requires-clause-room
happen-requires-clause-room g c = c.in-Ok-Ok.ensures'.room

pub clear-requires-clause-inside : goal.clear-requires-clause-inside
clear-requires-clause-inside g c = subst (λ (l : ℕ). c.args.dir < l) c.self.invariant.1 c.in-Ok.ensures.below

pub invariant_of-self-2 : goal.invariant_of-self-2
invariant_of-self-2 g c =
    let i = c.self.invariant.0 in
    let b = c.self.inside in
    let w = b.cluster.world in
    let e = Gone c.args.dir in
    let published = g.M.Publisher.published b.map in
    let pending = g.M.Publisher.pending b.map in
    let may = (may_remove _ _ (sym c.in_default.ensures)).1 in
    let ok = subst (λ (p : Present). machine.refusal p.state.cluster e ≡ None) (sym c.self.view_is) may in
    let is = c.happen.ensures.world ∙ ap (λ v. machine.counted (machine.happens v e).world) c.reserve-2.ensures.world in
    let written = c.recorded.ensures.recorded w e (subst (λ v. IsReached v) c.reserve-2.ensures.world c.reached.ensures.reached) in
    let gone = c.in-Ok.ensures.removed in
    let ops : g.M.Publisher.published c.clear.new.self ++ g.M.Publisher.pending c.clear.new.self ≡ (published ++ pending) ++ map_change w e =
    rw (c.clear.ensures.published, c.clear.ensures.appended, c.reserve.ensures.same.0, c.reserve.ensures.same.1)
    (sym (append_assoc published pending (map_change w e))) in (
      record {
        few_ticks = omega (arith, i.few_ticks);
        pins_limit = rw gone i.pins_limit;
        heats_limit = rw gone i.heats_limit;
        parents = ap (λ (v : World). v.parents) is ∙ (parents_follow w e written ok
            ∙ (ap (λ ps. slice_set ps c.args.dir None) i.parents
            ∙ (sym (parents_gone b.tree.entries c.args.dir)
            ∙ ap (λ (t : tree.Directories). parents_of t.entries) (sym gone))));
        cluster_limit = rw gone (ap (λ (v : World). v.limit) is ∙ (limit_stays w e written ok ∙ i.cluster_limit));
        ranks = ap (λ (v : World). v.ranks) is ∙ (ranks_stay w e written ok ∙ i.ranks);
        few_begun = few_stay b.book.begun b.events i.few_begun;
        mapped = λ d. ap (λ os. rank_after os d) ops ∙ (map_follows w (published ++ pending) e written ok i.mapped d ∙ ap (λ v. named_of v d) (sym is));
      },
      rw gone c.self.invariant.1,
    )
