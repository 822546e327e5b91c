use Rattle.std.proofs.Common.{◌≡◌, ◌+◌, ◌≤◌, ◌∙◌, ap, sym, arith}
use Rattle.heat_ledger.specs.Rows.{at}
use Rattle.heat_ledger.specs.Touched.{mark}
use Rattle.heat_ledger.proofs.Marks.{tracked_first, tracked_raised, mark_some}
use Rattle.heat_ledger.proofs.counts.note.Goals as goal
use Rattle.heat_ledger.proofs.counts.note.Goals.{else-count-eq0-via-then-count-eq0+else-more-gt0, else-count-eq0-via-else-count-eq0}

pub returns-then-more-gt0-clause-tracked : goal.returns-then-more-gt0-clause-tracked
returns-then-more-gt0-clause-tracked c counts tracked inside is =
    rw c.push_reserved.ensures.items
    (tracked_first counts c.args.noted.now.items c.args.entry (at counts c.args.entry + c.args.more) tracked inside
    (is ∙ c.if-count-eq0.true) (omega (arith, c.if-more-gt0.true)))

pub returns-else-count-eq0-clause-tracked : goal.returns-else-count-eq0-clause-tracked
returns-else-count-eq0-clause-tracked c counts tracked inside is =
    let was = at counts c.args.entry in
    let same : mark was ≡ mark (was + c.args.more) = elim c.else-count-eq0.branch [
      | else-count-eq0-via-then-count-eq0+else-more-gt0 w ↦ ap mark (omega (arith, w.if-more-gt0.false))
      | else-count-eq0-via-else-count-eq0 w ↦ (let some : 1 ≤ was = omega (arith, is, w.if-count-eq0.false) in
          mark_some was some ∙ sym (mark_some (was + c.args.more) (omega (arith, some))))
    ] in
    tracked_raised counts c.args.noted.now.items c.args.entry (was + c.args.more) tracked inside same
