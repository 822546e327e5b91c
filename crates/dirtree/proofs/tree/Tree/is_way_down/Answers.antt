use Rattle.std.proofs.Common.{◌≡◌, ◌≢◌, ◌↔◌, ◌<◌, ℕ, List, [], ◌∷◌, ◌++◌, Option, Some, ap, sym, ◌∙◌, arith, false}
use Rattle.std.specs.Prelude.{is_some}
use Rattle.std.proofs.lemmas.Bool.{false≢true}
use Rattle.std.proofs.lemmas.Grind.{common_steps}
use Rattle.dirtree.specs.Tree.{Entry, entry_at, is_there, name_of, parent_of}
use Rattle.dirtree.specs.Keeps.{entry_of}
use Rattle.dirtree.proofs.Walks.{read_node}
use Rattle.dirtree.proofs.WaysDown.{way_down, one_up, no_way, empty_or_not}
use Rattle.dirtree.proofs.tree.Tree.is_way_down.Goals as goal

pub loop-at-init : goal.loop-at-init
loop-at-init c = record { there = c.requires; same = (λ h. h, λ h. h) }

pub unreachable-requires : goal.unreachable-requires
unreachable-requires c =
    let gone : is_there c.args.self.now.entries c.loop-at.at ≡ false = ap is_some (sym c.in_default.ensures.value) in
    false≢true (sym gone ∙ c.loop-at.invariant.there)

pub returns-in_default-before_name : goal.returns-in_default-before_name
returns-in_default-before_name c =
    let es : List (Option Entry) = c.args.self.now.entries in
    let some : 0 < c.loop-at.at = grind (arith, common_steps, c.loop-at-test.ensures) in
    let entry : entry_at es c.loop-at.at ≡ Some (entry_of c.in-Some.node.now) = sym c.in-Some.ensures.value in
    let read : (parent_of es c.loop-at.at ≡ c.in-Some.node.now.parent)
    × (name_of es c.loop-at.at ≡ c.in-Some.node.now.name) = read_node es c.loop-at.at (entry_of c.in-Some.node.now) entry in
    let name : c.as_bytes.result.now ≡ name_of es c.loop-at.at = c.as_bytes.ensures.value ∙ c.as_str.ensures ∙ sym read.1 in
    let other : (front : List ℕ) → c.loop-at.rest.now ≢ front
    ++ 47 ∷ name_of es c.loop-at.at = λ front h. c.in_default-before_name.ensures front
    (h ∙ ap (λ (last : List ℕ). front ++ 47 ∷ last) (sym name)) in
    (λ no. absurd (false≢true no), λ h. absurd (no_way es c.loop-at.at c.loop-at.rest.now c.in-Some.ensures.tree some other (c.loop-at.invariant.same.0 h)))

pub loop-at-preserved : goal.loop-at-preserved
loop-at-preserved c =
    let es : List (Option Entry) = c.args.self.now.entries in
    let some : 0 < c.loop-at.at = grind (arith, common_steps, c.loop-at-test.ensures) in
    let entry : entry_at es c.loop-at.at ≡ Some (entry_of c.in-Some.node.now) = sym c.in-Some.ensures.value in
    let read : (parent_of es c.loop-at.at ≡ c.in-Some.node.now.parent)
    × (name_of es c.loop-at.at ≡ c.in-Some.node.now.name) = read_node es c.loop-at.at (entry_of c.in-Some.node.now) entry in
    let name : c.as_bytes.result.now ≡ name_of es c.loop-at.at = c.as_bytes.ensures.value ∙ c.as_str.ensures ∙ sym read.1 in
    let ends : c.loop-at.rest.now ≡ c.in-Some-before_name.above.now ++ 47 ∷ name_of es c.loop-at.at = c.in-Some-before_name.ensures
    ∙ ap (λ (last : List ℕ). c.in-Some-before_name.above.now ++ 47 ∷ last) name in
    let step : (c.loop-at.rest.now ≡ way_down es c.loop-at.at)
    ↔ (c.in-Some-before_name.above.now ≡ way_down es c.in-Some.node.now.parent) =
    rw read.0 at (one_up es c.loop-at.at c.loop-at.rest.now c.in-Some-before_name.above.now c.in-Some.ensures.tree some ends) in
    record {
      there = rw c.new-at.ensures c.in-Some.ensures.parent;
      same = rw c.new-at.ensures (λ h. step.0 (c.loop-at.invariant.same.0 h), λ h. c.loop-at.invariant.same.1 (step.1 h));
    }

pub returns : goal.returns
returns c =
    let es : List (Option Entry) = c.args.self.now.entries in
    let root : c.loop-at.at ≡ 0 = grind (arith, common_steps, c.loop-at-test.ensures) in
    let same : (c.args.path.now ≡ way_down es c.args.dir) ↔ (c.loop-at.rest.now ≡ []) = rw root at c.loop-at.invariant.same in
    let is = empty_or_not c.loop-at.rest.now c.is_empty.result c.is_empty.ensures in
    (λ h. same.1 (is.0 h), λ h. is.1 (same.0 h))
