use Rattle.std.proofs.Common.{◌≡◌, ◌++◌, ◌∷◌, []}
use Rattle.std.proofs.lemmas.Bool.Decides.{Decides-eqb}
use Rattle.std.proofs.lemmas.Slice.Eq.{strip_suffix_is}
use Rattle.dirtree.proofs.WaysDown.{slash_and_name, no_name}
use Rattle.dirtree.proofs.path.before_name.Goals as goal

pub returns-in-Some : goal.returns-in-Some
returns-in-Some c =
    let ends : c.args.path.now ≡ c.in-Some.above.now ++ c.args.name.now =
    rw c.in-Some.is at (strip_suffix_is Decides-eqb c.args.path.now c.args.name.now c.strip_suffix.result c.strip_suffix.ensures.cases)
    in
    slash_and_name c.args.path.now c.in-Some.above.now c.args.name.now c.strip_suffix-in-Some.result ends
    (strip_suffix_is Decides-eqb c.in-Some.above.now (47 ∷ []) c.strip_suffix-in-Some.result c.strip_suffix-in-Some.ensures.cases)

pub returns-in-None : goal.returns-in-None
returns-in-None c =
    let other = rw c.in-None.is at (strip_suffix_is Decides-eqb c.args.path.now c.args.name.now c.strip_suffix.result c.strip_suffix.ensures.cases) in
    no_name c.args.path.now c.args.name.now other
