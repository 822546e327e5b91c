use Rattle.std.proofs.Common.{arith}
use Rattle.script_commands.proofs.NumberLemmas.{number_past}
use Rattle.script_commands.proofs.number.number.Goals as goal

pub returns-then-value-high-clause-value : goal.returns-then-value-high-clause-value
returns-then-value-high-clause-value c = number_past c.args.low c.args.high c.args.field.now c.loop-byte.value c.loop-byte.byte-index
    (omega arith) c.loop-byte.invariant.told (omega arith)
