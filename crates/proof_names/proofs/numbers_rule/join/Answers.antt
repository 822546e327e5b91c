use Rattle.std.proofs.Common.{arith, ◌∙◌}
use mathlib.Core.Option.{none}
use Rattle.atomic_table.specs.Table.{step}
use Rattle.proof_names.proofs.Giving.{has_each_once, joins}
use Rattle.proof_names.proofs.numbers_rule.join.Goals as goal

pub join_seat-requires : goal.join_seat-requires
join_seat-requires c =
    let r = c.requires in
    let one = r.table.0 in (r.table.1, r.table.2, r.none_out, omega (arith, one), joins _ _ _ _)

pub load-requires : goal.load-requires
load-requires c =
    let r = c.requires in
    let one = r.table.0 in
    let e = c.join_seat.ensures in
    (e.0 ∙ r.table.1, omega (arith, one), has_each_once _ _ _ (step c.args.tokens.now.table_id.slots 0 0 0 none))
