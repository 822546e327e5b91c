use Rattle.std.proofs.Common.{[], arith, true}
use mathlib.Core.Option.{none}
use Rattle.atomic_table.specs.Table.{step}
use Rattle.proof_names.specs.Numbers.{holding}
use Rattle.proof_names.proofs.Giving.{enters}
use Rattle.proof_names.proofs.numbers_rule.enter.Goals as goal

pub load_new_seat-token-requires : goal.load_new_seat-token-requires
load_new_seat-token-requires c =
    let one = c.requires in (omega (arith, one), enters _ (holding true 0 [], []) (step c.args.tokens.now.table_id.slots 0 0 0 none))
