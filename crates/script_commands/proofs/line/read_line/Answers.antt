use Rattle.std.proofs.Common.{arith}
use Rattle.script_commands.specs.Commands.{fields}
use Rattle.script_commands.proofs.PlainLemmas.{rest_plain}
use Rattle.script_commands.proofs.line.read_line.Goals as goal

pub tops-requires : goal.tops-requires
tops-requires c = grind (arith, rest_plain c.args.line.now c.in-Some.word.now (fields c.in-Some.rest.now))

pub find_command-requires-clause-plain : goal.find_command-requires-clause-plain
find_command-requires-clause-plain c = grind (arith, rest_plain c.args.line.now c.in-Some.word.now (fields c.in-Some.rest.now))

pub start_export-requires : goal.start_export-requires
start_export-requires c = grind (arith, rest_plain c.args.line.now c.in-Some.word.now (fields c.in-Some.rest.now))
