use Rattle.std.proofs.Common.{not, sym, ap, ◌∙◌}
use Rattle.export_machine.proofs.Ascending.{rising_distinct}
use Rattle.export_machine.proofs.searching.Members.repeat.Goals as goal

pub returns-else-not-self : goal.returns-else-not-self
returns-else-not-self c = ap not c.if-not-self.false ∙ sym (rising_distinct c.args.self.now.dirs.now (c.args.self.now.in_order c.if-not-self.false))
