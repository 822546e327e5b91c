use Rattle.std.proofs.Common.{◌≡◌, ◌∙◌, ◌++◌, None, inl, refl, sym, ap, subst, arith, append_assoc}
use Rattle.authority_map.specs.Operations.{rank_after}
use Rattle.export_protocol.specs.Authority.{named_of}
use Rattle.export_protocol.specs.Cluster.{World}
use Rattle.export_protocol.specs.View.{IsReached}
use Rattle.export_machine.specs.Room.{IsRefusal}
use Rattle.export_protocol.specs.Step as machine
use Rattle.mds_board.specs.declared.board_error.BoardError.{BoardError}
use Rattle.mds_board.specs.declared.change.Change.TheVariants.{Step}
use Rattle.mds_board.specs.State.{map_change}
use Rattle.mds_board.specs.Steps.{IsDue, Present}
use Rattle.mds_board.proofs.Accepted.{few_due, full_due, is_place, step_due}
use Rattle.mds_board.proofs.Fitting.{few_stay}
use Rattle.mds_board.proofs.Mapping.{inner_parents, limit_stays, map_follows, parents_follow, ranks_stay, step_present, step_reply}
use Rattle.mds_board.proofs.state.BoardState.step.Goals as goal

pub returns-then-is_full : goal.returns-then-is_full
returns-then-is_full g c = (inl (full_due _ _ (sym c.is_full.ensures ∙ c.if-is_full.true)), refl)

pub returns-in-Err : goal.returns-in-Err
returns-in-Err g c =
    let refused = subst (λ (p : Present). IsRefusal p.state.cluster c.args.event c.in-Err.error) c.self.view_is c.in-Err.ensures.err in (
      subst (λ (e : BoardError). IsDue c.args.self.now.state (Step c.args.event) e) (sym c.from.ensures)
          (step_due _ _ _ (sym c.is_full.ensures ∙ c.if-is_full.false) (c.recorded.ensures.never_memory _ _) refused),
      rw (c.prepare.ensures.world, c.prepare.ensures.same.0, c.prepare.ensures.same.1) c.self.view_is,
    )

pub overflow_add-self : goal.overflow_add-self
overflow_add-self g c =
    let place = is_place c.args.self.now.state (sym c.is_full.ensures ∙ c.if-is_full.false) in
    let same = ap (λ (p : Present). p.state.events) c.self.view_is in
    omega (arith, place, same)

pub invariant_of-self-2 : goal.invariant_of-self-2
invariant_of-self-2 g c =
    let i = c.self.invariant.0 in
    let b = c.self.inside in
    let w = b.cluster.world in
    let e = c.args.event in
    let published = g.M.Publisher.published b.map in
    let pending = g.M.Publisher.pending b.map in
    let ok = c.in-Ok.ensures.accepted in
    let is = c.happen-reply.ensures.world ∙ ap (λ v. machine.counted (machine.happens v e).world) c.prepare.ensures.world in
    let written = c.recorded.ensures.recorded w e (subst (λ v. IsReached v) c.prepare.ensures.world c.reached.ensures.reached) in
    let ops : g.M.Publisher.published c.name.new.map ++ g.M.Publisher.pending c.name.new.map ≡ (published ++ pending) ++ map_change w e =
    rw (c.name.ensures.published, c.name.ensures.appended, c.prepare.ensures.same.0, c.prepare.ensures.same.1, c.in-Ok.ensures.named)
    (sym (append_assoc published pending (map_change w e))) in (
      record {
        few_ticks = omega (arith, i.few_ticks);
        pins_limit = i.pins_limit;
        heats_limit = i.heats_limit;
        parents = ap (λ (v : World). v.parents) is ∙ (parents_follow w e written ok ∙ (inner_parents w e c.requires.inner ∙ i.parents));
        cluster_limit = ap (λ (v : World). v.limit) is ∙ (limit_stays w e written ok ∙ i.cluster_limit);
        ranks = ap (λ (v : World). v.ranks) is ∙ (ranks_stay w e written ok ∙ i.ranks);
        few_begun = few_stay b.book.begun b.events i.few_begun;
        mapped = λ d. ap (λ os. rank_after os d) ops ∙ (map_follows w (published ++ pending) e written ok i.mapped d ∙ ap (λ v. named_of v d) (sym is));
      },
      c.self.invariant.1,
    )

pub returns : goal.returns
returns g c =
    let w = c.self.inside.cluster.world in
    let published = g.M.Publisher.published c.self.inside.map in
    let pending = g.M.Publisher.pending c.self.inside.map in
    let ok = subst (λ (p : Present). machine.refusal p.state.cluster c.args.event ≡ None) c.self.view_is c.in-Ok.ensures.accepted in (
      few_due _ _ (sym c.is_full.ensures ∙ c.if-is_full.false) ok,
      tt,
      rw (c.happen-reply.ensures.reply, c.prepare.ensures.world, ← c.self.view_is) (sym (step_reply _ _)),
      step_present c.args.self.now _ c.args.event c.requires.inner
          (rw (
            c.happen-reply.ensures.world,
            c.name.ensures.published,
            c.name.ensures.appended,
            c.mark_if.ensures,
            c.logs_export-logs.ensures,
            c.prepare.ensures.world,
            c.prepare.ensures.same.0,
            c.prepare.ensures.same.1,
            c.in-Ok.ensures.named,
            ← c.self.view_is,
            append_assoc published pending (map_change w c.args.event),
          ) refl),
    )
