use Rattle.std.proofs.Common.{List, Option, subst, ap}
use Rattle.dirtree.specs.Tree.{Directories, Entry, IsTree}
use Rattle.dirtree.proofs.tree.Tree.numbers.Goals as goal

pub returns-clause-tree : goal.returns-clause-tree
returns-clause-tree c = subst (λ (es : List (Option Entry)). IsTree es) (ap (λ (t : Directories). t.entries) c.self.view_is) c.self.invariant.tree
