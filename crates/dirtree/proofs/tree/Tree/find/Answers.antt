use Rattle.std.proofs.Common.{◌≢◌, ℕ, List, ◌∷◌, sym, lit<}
use Rattle.std.proofs.lemmas.Str.Pattern.{strip_prefix_char}
use Rattle.dirtree.proofs.Paths.{not_rooted}
use Rattle.dirtree.proofs.tree.Tree.find.Goals as goal

pub returns-in_default-clause-dir : goal.returns-in_default-clause-dir
returns-in_default-clause-dir c =
    let other : (rest : List ℕ) → c.args.path.now ≢ 47 ∷ rest =
    rw c.in_default.is at (strip_prefix_char 47 c.args.path.now c.strip_prefix.result c.strip_prefix.ensures.cases (lit< tt)) in
    sym (not_rooted c.args.self.now.entries c.args.path.now other)
