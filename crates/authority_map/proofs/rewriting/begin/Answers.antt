use Rattle.std.proofs.Common.{◌≢◌, ◌<◌, Bool, if◌then◌else◌, length, get_or, ap, arith, ◌∙◌}
use Rattle.authority_map.proofs.Extending.{first_cell}
use Rattle.authority_map.proofs.Listed.{first_listed, first_unlisted}
use Rattle.authority_map.proofs.rewriting.begin.Goals as goal
use Rattle.authority_map.proofs.rewriting.begin.Goals.{in_default-via-in-Some+else-number-eq0, in_default-via-in_default}

pub returns-in-Some-clause-listed : goal.returns-in-Some-clause-listed
returns-in-Some-clause-listed c =
    let item = c.in-Some.ensures.item.3 in
    (first_listed c.args.dirs.now c.requires.rising item.0 (omega (arith, item.1 0, c.number.ensures, c.if-number-eq0.true))).1

pub returns-in_default-clause-cells : goal.returns-in_default-clause-cells
returns-in_default-clause-cells c want is =
    let dirs = c.args.dirs.now in
    let other : 0 < length dirs → get_or dirs 0 0 ≢ 0 = elim c.in_default.branch [
      | in_default-via-in-Some+else-number-eq0 w ↦ λ some here. w.if-number-eq0.false (omega (arith, w.in-Some.ensures.item.3.1 0, w.number.ensures, here))
      | in_default-via-in_default w ↦ λ some here. absurd (omega (arith, w.in_default.ensures.item.3, some))
    ] in
    let unlisted = first_unlisted dirs c.requires.rising other in
    rw (c.push_reserved.ensures.items, c.push_reserved-in_default.ensures.items, c.clear.ensures.items, c.clear-2.ensures.items)
    (first_cell c.args.unlisted want (is ∙ ap (λ (b : Bool). (if b then c.args.listed else c.args.unlisted)) unlisted.0))
