use Rattle.std.proofs.Common.{◌≡◌, ◌∙◌, ◌++◌, None, ℕ, ◌<◌, ◌≤◌, length, inl, refl, sym, ap, subst, arith, append-nil}
use Rattle.authority_map.specs.Operations.{rank_after}
use Rattle.export_protocol.specs.Authority.{named_of}
use Rattle.export_protocol.specs.Cluster.{World}
use Rattle.export_protocol.specs.declared.event.Event.TheVariants.{Begin}
use Rattle.export_protocol.specs.View.{IsReached}
use Rattle.export_machine.specs.Room.{IsRefusal}
use Rattle.export_protocol.specs.Step as machine
use Rattle.mds_board.specs.declared.board_error.BoardError.{BoardError}
use Rattle.mds_board.specs.declared.change.Change.TheVariants.{Step}
use Rattle.mds_board.specs.Steps.{IsDue, Present}
use Rattle.mds_board.proofs.Accepted.{few_due, full_due, is_place, step_due}
use Rattle.mds_board.proofs.Fitting.{few_raised, near}
use Rattle.mds_board.proofs.Mapping.{begin_present, begins_there, limit_stays, map_follows, parents_follow, ranks_stay, step_reply}
use Rattle.mds_board.proofs.state.BoardState.begin.Goals as goal

pub returns-then-is_full : goal.returns-then-is_full
returns-then-is_full g c = record {
  step = (inl (full_due _ _ (sym c.is_full.ensures ∙ c.if-is_full.true)), refl);
  share = tt;
  unchanged = refl;
}

pub returns-in-Err : goal.returns-in-Err
returns-in-Err g c =
    let refused = subst (λ (p : Present). IsRefusal p.state.cluster (Begin c.args.rank c.args.dir) c.in-Err.error) c.self.view_is c.in-Err.ensures.err in
    record {
      step = (
        subst (λ (e : BoardError). IsDue c.args.self.now.state (Step (Begin c.args.rank c.args.dir)) e) (sym c.from.ensures)
            (step_due _ _ _ (sym c.is_full.ensures ∙ c.if-is_full.false) (c.recorded.ensures.never_memory _ _) refused),
        rw c.prepare.ensures.world c.self.view_is,
      );
      share = tt;
      unchanged = refl;
    }

pub begin-requires-clause-inside : goal.begin-requires-clause-inside
begin-requires-clause-inside g c =
    let i = c.self.invariant.0 in
    let w = c.self.inside.cluster.world in
    let k = near w c.args.dir (begins_there w c.args.rank c.args.dir c.in-Ok.ensures.accepted) in
    let few : length w.parents ≤ w.limit = subst (λ (v : World). length v.parents ≤ v.limit) c.prepare.ensures.world c.reached.ensures.numbers in
    let below : c.args.dir < w.limit = omega (arith, k, few) in
    subst (λ (l : ℕ). c.args.dir < l) (i.cluster_limit ∙ c.self.invariant.1) below

pub begin-requires-clause-room : goal.begin-requires-clause-room
begin-requires-clause-room g c =
    let few = c.self.invariant.0.few_begun c.args.dir in
    let place = is_place c.args.self.now.state (sym c.is_full.ensures ∙ c.if-is_full.false) in
    let same = ap (λ (p : Present). p.state.events) c.self.view_is in
    omega (arith, few, place, same)

pub overflow_add-self : goal.overflow_add-self
overflow_add-self g c =
    let place = is_place c.args.self.now.state (sym c.is_full.ensures ∙ c.if-is_full.false) in
    let same = ap (λ (p : Present). p.state.events) c.self.view_is in
    omega (arith, place, same)

pub invariant_of-self-2 : goal.invariant_of-self-2
invariant_of-self-2 g c =
    let i = c.self.invariant.0 in
    let b = c.self.inside in
    let w = b.cluster.world in
    let e = Begin c.args.rank c.args.dir in
    let ops = g.M.Publisher.published b.map ++ g.M.Publisher.pending b.map in
    let ok = c.in-Ok.ensures.accepted in
    let is = c.happen-reply.ensures.world ∙ ap (λ v. machine.counted (machine.happens v e).world) c.prepare.ensures.world in
    let written = c.recorded.ensures.recorded w e (subst (λ v. IsReached v) c.prepare.ensures.world c.reached.ensures.reached) in (
      record {
        few_ticks = omega (arith, i.few_ticks);
        pins_limit = i.pins_limit;
        heats_limit = i.heats_limit;
        parents = ap (λ (v : World). v.parents) is ∙ (parents_follow w e written ok ∙ i.parents);
        cluster_limit = ap (λ (v : World). v.limit) is ∙ (limit_stays w e written ok ∙ i.cluster_limit);
        ranks = ap (λ (v : World). v.ranks) is ∙ (ranks_stay w e written ok ∙ i.ranks);
        few_begun = λ d. rw c.begin.ensures.book (few_raised b.book.begun b.events c.args.dir i.few_begun d);
        mapped = λ d. ap (λ os. rank_after os d) (sym (append-nil ops)) ∙ (map_follows w ops e written ok i.mapped d ∙ ap (λ v. named_of v d) (sym is));
      },
      c.self.invariant.1,
    )

pub returns-clause-step : goal.returns-clause-step
returns-clause-step g c =
    let ok = subst (λ (p : Present). machine.refusal p.state.cluster (Begin c.args.rank c.args.dir) ≡ None) c.self.view_is c.in-Ok.ensures.accepted in (
      few_due _ _ (sym c.is_full.ensures ∙ c.if-is_full.false) ok,
      tt,
      rw (c.happen-reply.ensures.reply, c.prepare.ensures.world, ← c.self.view_is) (sym (step_reply _ _)),
      begin_present c.args.self.now _ c.args.rank c.args.dir
          (rw (c.happen-reply.ensures.world, c.prepare.ensures.world, c.begin.ensures.book, ← c.self.view_is) refl),
    )
