use Rattle.std.proofs.Common.{◌≡◌, ◌≢◌, ◌∙◌, ◌-◌, ◌<◌, ap, sym, length, arith, ⊎_elim}
use Rattle.std.proofs.lemmas.Bool.{cases_eq, false≢true}
use Rattle.std.proofs.lemmas.List.{get_or_default}
use Rattle.mds_types.specs.declared.problem.ProblemRow.{ProblemRow}
use Rattle.mds_types.specs.Problem.{no_row}
use Rattle.plan_checker.specs.Table.{IsChecked}
use Rattle.plan_checker.proofs.TableLemmas.{have_got_more, holds_here}
use Rattle.plan_checker.proofs.cut_table.rows_hold.Goals as goal

pub returns-then-not-holds_at : goal.returns-then-not-holds_at
returns-then-not-holds_at c =
    let i = c.loop-i.i - 1 in
    let inside : c.loop-i.i - 1 < length c.args.rows.now = omega arith in
    let here = holds_here c.args.rows.now c.args.table.now c.loop-i.sums c.loop-i.i i c.args.bound c.requires.forest
    inside (omega arith) c.loop-i.invariant.got c.requires.bound c.holds_at.ensures.few in (
      λ no. absurd (false≢true no),
      λ all. sym c.if-not-holds_at.true ∙ c.holds_at.ensures.exact.1 (here.1 (all i inside)),
    )

pub loop-i-preserved : goal.loop-i-preserved
loop-i-preserved c =
    let i = c.loop-i.i - 1 in
    let rows = c.args.rows.now in
    let inside : c.loop-i.i - 1 < length c.args.rows.now = omega arith in
    let here : IsChecked c.args.rows.now c.args.table.now c.args.bound (c.loop-i.i - 1) =
    (holds_here c.args.rows.now c.args.table.now c.loop-i.sums c.loop-i.i i c.args.bound c.requires.forest
    inside (omega arith) c.loop-i.invariant.got c.requires.bound c.holds_at.ensures.few).0
    (c.holds_at.ensures.exact.0 c.if-not-holds_at.false) in
    let parent_is = ap (λ (row : ProblemRow). row.parent) (get_or_default rows i c.index-rows-i.result no_row inside) in
    record {
      got = have_got_more rows c.args.table.now c.loop-i.sums c.give.new.sums c.loop-i.i i _ inside (omega arith)
          parent_is c.give.ensures.rests c.give.ensures.cuts c.give.ensures.other c.loop-i.invariant.got;
      checked = λ j le l.
          ⊎_elim (λ (same : j ≡ c.loop-i.i - 1). rw same here)
          (λ (other : j ≢ c.loop-i.i - 1). c.loop-i.invariant.checked j (omega arith) l)
          (cases_eq j (c.loop-i.i - 1));
    }
