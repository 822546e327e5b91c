use Rattle.std.proofs.Common.{◌≡◌, ◌<◌, ℕ, zero, suc, List, [], ◌∷◌, ◌++◌, All, Option, Some, map, ap, sym, ◌∙◌, refl, append_assoc, arith, true}
use Rattle.std.proofs.lemmas.List.{map-append}
use Rattle.std.proofs.lemmas.List.Elements.{All-append}
use Rattle.std.proofs.lemmas.Grind.{common_steps}
use Rattle.dirtree.specs.Tree.{Entry, entry_at, is_there, name_of, parent_of}
use Rattle.dirtree.specs.Path.{names_up}
use Rattle.dirtree.specs.Keeps.{entry_of}
use Rattle.dirtree.proofs.Walks.{names_up-step, read_node}
use Rattle.dirtree.proofs.tree.Tree.short_way_up.Goals as goal

alone : (P : ℕ → Type 0) (d : ℕ) → P d → All P (d ∷ [])
alone P d is zero e near = is
alone P d is (suc k) e near = absurd (omega arith)

pub loop-at-preserved : goal.loop-at-preserved
loop-at-preserved c =
    let es : List (Option Entry) = c.args.self.now.entries in
    let way : List ℕ = c.loop-at.way.items in
    let at : ℕ = c.loop-at.at in
    let some : 0 < at = grind (arith, common_steps, c.loop-at-test.ensures) in
    let entry : entry_at es at ≡ Some (entry_of c.in-Some.node.now) = sym c.in-Some.ensures.value in
    let read : (parent_of es at ≡ c.in-Some.node.now.parent)
    × (name_of es at ≡ c.in-Some.node.now.name) = read_node es at (entry_of c.in-Some.node.now) entry in
    let step : names_up es at ≡ name_of es at ∷ names_up es (parent_of es at) = names_up-step es at c.in-Some.ensures.tree some in
    let pushed : c.push.new.self.items ≡ way ++ at ∷ [] = c.push.ensures.items ∙ ap (λ (d : ℕ). way ++ d ∷ []) c.number.ensures in
    record {
      there = rw c.new-at.ensures c.in-Some.ensures.parent;
      all = rw pushed (All-append (λ d. is_there es d ≡ true) way (at ∷ []) c.loop-at.invariant.all
          (alone (λ d. is_there es d ≡ true) at c.loop-at.invariant.there));
      names = c.loop-at.invariant.names ∙ rw (step, read.0, pushed, c.new-at.ensures)
          (sym (ap (λ (ns : List (List ℕ)). ns ++ names_up es c.in-Some.node.now.parent) (map-append (name_of es) way (at ∷ []))
          ∙ append_assoc (map (name_of es) way) (name_of es at ∷ []) (names_up es c.in-Some.node.now.parent)));
    }
