use Rattle.script_commands.proofs.PlainLemmas.{plain_at}
use Rattle.script_commands.proofs.command.texts.Goals as goal

pub text-requires : goal.text-requires
text-requires c = plain_at c.args.rest.now c.loop-field.field-index _ c.loop-field-test.true c.requires
