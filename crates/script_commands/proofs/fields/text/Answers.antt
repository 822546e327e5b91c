use Rattle.script_commands.proofs.PlainLemmas.{plain_text}
use Rattle.script_commands.proofs.fields.text.Goals as goal

pub from_utf8_unchecked-requires : goal.from_utf8_unchecked-requires
from_utf8_unchecked-requires c = plain_text c.args.field.now c.requires
