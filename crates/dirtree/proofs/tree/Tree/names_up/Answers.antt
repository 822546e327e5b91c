use Rattle.std.proofs.Common.{◌≡◌, ◌<◌, ℕ, List, [], ◌∷◌, ◌++◌, Option, Some, Bor, map, ap, sym, ◌∙◌, refl, append_assoc, arith}
use Rattle.std.proofs.lemmas.List.{map-append}
use Rattle.std.proofs.lemmas.Grind.{common_steps}
use Rattle.dirtree.specs.Tree.{Entry, entry_at, name_of, parent_of}
use Rattle.dirtree.specs.Path.{names_up}
use Rattle.dirtree.specs.Keeps.{entry_of}
use Rattle.dirtree.proofs.Walks.{names_up-step, read_node}
use Rattle.dirtree.proofs.tree.Tree.names_up.Goals as goal

pub loop-at-preserved : goal.loop-at-preserved
loop-at-preserved c =
    let es : List (Option Entry) = c.args.self.now.entries in
    let some : 0 < c.loop-at.at = grind (arith, common_steps, c.loop-at-test.ensures) in
    let entry : entry_at es c.loop-at.at ≡ Some (entry_of c.in-Some.node.now) = sym c.in-Some.ensures.value in
    let read : (parent_of es c.loop-at.at ≡ c.in-Some.node.now.parent)
    × (name_of es c.loop-at.at ≡ c.in-Some.node.now.name) = read_node es c.loop-at.at (entry_of c.in-Some.node.now) entry in
    let step : names_up es c.loop-at.at ≡ name_of es c.loop-at.at ∷ names_up es (parent_of es c.loop-at.at) =
    names_up-step es c.loop-at.at c.in-Some.ensures.tree some in
    record {
      there = rw c.new-at.ensures c.in-Some.ensures.parent;
      names = c.loop-at.invariant.names ∙ rw (step, read.1, read.0, c.in_ok-push.ensures.items, c.new-at.ensures)
          (sym (ap (λ (ns : List (List ℕ)). ns ++ names_up es c.in-Some.node.now.parent)
          (map-append (λ (name : Bor (List ℕ)). name.now) c.loop-at.names.items (c.as_str.result ∷ []))
          ∙ append_assoc (map (λ (name : Bor (List ℕ)). name.now) c.loop-at.names.items) (c.as_str.result.now ∷ [])
          (names_up es c.in-Some.node.now.parent) ∙ rw c.as_str.ensures refl));
    }
