use Rattle.std.proofs.Common.{ap, sym, ◌∙◌}
use Rattle.std.specs.Prelude.{nat_lt, is_some}
use Rattle.dirtree.proofs.Counts.{has_counted, gone_childless}
use Rattle.dirtree.proofs.tree.Tree.has_child.Goals as goal

pub returns : goal.returns
returns c = ap (nat_lt 0) c.in-Some.ensures.children ∙ has_counted c.args.self.now.entries c.args.dir

pub returns-in_default : goal.returns-in_default
returns-in_default c = sym (gone_childless c.args.self.now.entries c.args.dir c.in_default.ensures.tree (ap is_some (sym c.in_default.ensures.value)))
