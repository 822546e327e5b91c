use Rattle.std.proofs.Common.{arith}
use mathlib.Core.Option.{none}
use Rattle.atomic_table.specs.Table.{step}
use Rattle.proof_names.proofs.Moves.{grows}
use Rattle.proof_names.proofs.rule.grow.Goals as goal

pub load-requires : goal.load-requires
load-requires g c =
    let one = c.requires.table.0 in
    (c.requires.table.1, omega (arith, one), grows _ _ _ (step c.args.tokens.now.table_id.slots 0 0 0 none) g.G.Growth.log c.requires.leads c.requires.more)
