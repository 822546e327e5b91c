use Rattle.std.proofs.Common.{◌≡◌, ◌≢◌, ◌==◌, ◌∷◌, ◌∙◌, All, List, drop, false, length, lit<, subst, sym, ap, refl, ℕ, []}
use Rattle.std.specs.List.{slice_split}
use Rattle.std.proofs.lemmas.List.Splits.{slice_split_none}
use Rattle.std.proofs.lemmas.Str.Pattern.{strip_prefix_char}
use Rattle.dirtree.specs.Path.{walk}
use Rattle.dirtree.proofs.Paths.{not_rooted}
use Rattle.dirtree.proofs.tree.Tree.find_below_root.Goals as goal

pub returns-in_default-clause-dir : goal.returns-in_default-clause-dir
returns-in_default-clause-dir c =
    let other : (rest : List ℕ) → c.args.path.now ≢ 47 ∷ rest =
    rw c.in_default.is at (strip_prefix_char 47 c.args.path.now c.strip_prefix.result c.strip_prefix.ensures.cases (lit< tt)) in
    sym (not_rooted c.args.self.now.entries c.args.path.now other)

pub returns-clause-dir : goal.returns-clause-dir
returns-clause-dir c =
    let es = c.args.self.now.entries in
    let name = c.in-Some.name.now in
    let is : c.args.path.now ≡ 47 ∷ name = rw c.in-Some.is at
    (strip_prefix_char 47 c.args.path.now c.strip_prefix.result c.strip_prefix.ensures.cases (lit< tt)) in
    let plain : All (λ b. (b == 47) ≡ false) name = subst (λ (p : List ℕ). All (λ b. (b == 47) ≡ false) (drop 1 p)) is c.requires in
    let one : slice_split (λ b. b == 47) name ≡ name ∷ [] = slice_split_none (λ b. b == 47) name plain in
    let some : (length name == 0) ≡ false = sym c.is_empty.ensures ∙ c.if-is_empty.false in
    c.step.ensures.child ∙ ap (walk es 0) (sym one) ∙ rw (is, some) refl
