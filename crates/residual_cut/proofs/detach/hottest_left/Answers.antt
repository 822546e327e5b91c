use Rattle.std.proofs.Common.{◌≡◌, ◌<◌, ◌≤◌, ◌∙◌, arith, slice_index, true, false, refl, ⊎_elim}
use Rattle.std.proofs.lemmas.List.{get_or_default}
use Rattle.std.proofs.lemmas.Bool.{cases_Bool, cases_lt}
use Rattle.mds_types.specs.CutTable.{rest_at, is_cut_at}
use Rattle.residual_cut.specs.Links.{IsNextChild}
use Rattle.residual_cut.proofs.HottestLemmas.{free_none, free_more}
use Rattle.residual_cut.proofs.WalkLemmas.{child_above, child_parent}
use Rattle.residual_cut.proofs.detach.hottest_left.Goals as goal

pub loop-row-init : goal.loop-row-init
loop-row-init c =
    let read : c.index-row.result.now ≡ slice_index c.args.of.links.now.first.items c.args.i =
    c.index-row.ensures
    ∙ get_or_default c.args.of.links.now.first.items c.args.i c.index-row.result.now 0
    (omega (arith, c.args.of.can_cut.linked.first_size, c.requires.inside)) in
    let next : IsNextChild c.args.of.rows.now c.args.i 0 c.index-row.result.now = rw read (c.args.of.can_cut.linked.children c.args.i c.requires.inside) in
    record {
      are = rw c.new.ensures.items
          (free_none c.args.of.rows.now (rest_at c.args.table.now) (is_cut_at c.args.table.now) c.args.i c.index-row.result.now c.args.most next);
      full = λ some. absurd (omega arith);
      inside =
          ⊎_elim (λ (more : 0 < c.index-row.result.now). next.inside more)
          (λ (none : c.index-row.result.now ≤ 0). omega (arith, c.requires.inside))
          (cases_lt 0 c.index-row.result.now);
      child = next.child;
    }

pub loop-row-preserved : goal.loop-row-preserved
loop-row-preserved c =
    let rows = c.args.of.rows.now in
    let k = c.loop-row.row in
    let some : 0 < c.loop-row.row = omega arith in
    let child = c.loop-row.invariant.child some in
    let read : c.index-row-in-loop-row.result.now ≡ slice_index c.args.of.links.now.next.items c.loop-row.row =
    c.index-row-in-loop-row.ensures
    ∙ get_or_default c.args.of.links.now.next.items c.loop-row.row c.index-row-in-loop-row.result.now 0
    (omega (arith, c.args.of.can_cut.linked.next_size, c.loop-row.invariant.inside)) in
    let next : IsNextChild c.args.of.rows.now c.args.i c.loop-row.row c.index-row-in-loop-row.result.now =
    rw (read, ← child_parent c.args.of.rows.now c.args.i c.loop-row.row child)
    (c.args.of.can_cut.linked.siblings c.loop-row.row (omega arith) some c.loop-row.invariant.inside) in
    record {
      are = free_more rows (rest_at c.args.table.now) (is_cut_at c.args.table.now) c.args.i k c.index-row-in-loop-row.result.now
          c.args.most c.loop-row.hottest c.meet_free.new.hottest
          (record { rest = rest_at c.args.table.now c.loop-row.row; row = record { 0 = c.loop-row.row } }) some
          c.loop-row.invariant.inside child (child_above rows c.args.of.can_cut.forest c.args.i k c.loop-row.invariant.inside child) refl refl
          next c.in_ok-meet_free.ensures.free c.in_ok-meet_free.ensures.cut c.loop-row.invariant.are;
      full =
          ⊎_elim
          (λ (taken : is_cut_at c.args.table.now c.loop-row.row ≡ true).
          rw (c.in_ok-meet_free.ensures.cut taken) c.loop-row.invariant.full)
          (λ (free : is_cut_at c.args.table.now c.loop-row.row ≡ false). (c.in_ok-meet_free.ensures.free free).kept.full)
          (cases_Bool (is_cut_at c.args.table.now c.loop-row.row));
      inside =
          ⊎_elim (λ (more : 0 < c.index-row-in-loop-row.result.now). next.inside more)
          (λ (last : c.index-row-in-loop-row.result.now ≤ 0). omega (arith, c.loop-row.invariant.inside))
          (cases_lt 0 c.index-row-in-loop-row.result.now);
      child = next.child;
    }
