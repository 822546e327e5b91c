use Rattle.std.proofs.Common.{◌≡◌, ℕ, ◌<◌, ◌≤◌, List, Option, Some, sym, ap, ◌∙◌, arith, subst}
use Rattle.std.proofs.lemmas.Bool.{false≢true}
use Rattle.std.proofs.lemmas.Grind.{common_steps}
use Rattle.dirtree.specs.Tree.{Entry}
use Rattle.dirtree.specs.Keeps.{chain_of, entries_of, entry_of, head_at, key, next_at, place_at}
use Rattle.dirtree.proofs.Children.{child_by_key}
use Rattle.dirtree.proofs.Lookups.{key_placed, named_here, next_below, no_child, node_key, node_next, passed, placed_there}
use Rattle.dirtree.proofs.node.child_in_chain.Goals as goal

pub loop-at-init : goal.loop-at-init
loop-at-init c = record {
  here = λ more. c.requires.chained.begins c.chain.result more ∙ ap Some c.chain.ensures.value;
  below = λ d more is. c.requires.chained.greatest d c.chain.result more
      (key_placed c.args.hasher (entries_of c.args.nodes.now) d c.args.parent c.args.name.now is ∙ ap Some (sym c.chain.ensures.value));
}

pub standing-node-requires : goal.standing-node-requires
standing-node-requires c =
    let some : 0 < c.loop-at.at = grind (arith, common_steps, c.loop-at-test.true) in
    placed_there c.args.hasher (entries_of c.args.nodes.now) c.loop-at.at (chain_of c.args.hasher c.args.parent c.args.name.now) (c.loop-at.invariant.here some)

pub returns-then-is_named : goal.returns-then-is_named
returns-then-is_named c =
    let some : 0 < c.loop-at.at = grind (arith, common_steps, c.loop-at-test.true) in
    let named = c.is_named.ensures.0 c.if-is_named.true in
    sym (child_by_key (entries_of c.args.nodes.now) c.loop-at.at (key c.args.parent c.args.name.now) c.requires.tree some
    (named_here c.args.nodes.now c.loop-at.at c.args.parent c.args.name.now c.standing-node.result.now c.standing-node.ensures named.0 named.1))

pub loop-at-smaller : goal.loop-at-smaller
loop-at-smaller c =
    let es : List (Option Entry) = entries_of c.args.nodes.now in
    let some : 0 < c.loop-at.at = grind (arith, common_steps, c.loop-at-test.true) in
    let next : next_at c.args.nodes.now c.loop-at.at ≡ c.standing-node.result.now.next =
    node_next c.args.nodes.now c.loop-at.at c.standing-node.result.now c.standing-node.ensures in
    subst (λ (k : ℕ). k < c.loop-at.at) next
    (next_below (place_at c.args.hasher es) (next_at c.args.nodes.now) (head_at c.args.heads.now) c.loop-at.at
    (chain_of c.args.hasher c.args.parent c.args.name.now) c.requires.chained some (c.loop-at.invariant.here some))

pub loop-at-preserved : goal.loop-at-preserved
loop-at-preserved c =
    let es : List (Option Entry) = entries_of c.args.nodes.now in
    let some : 0 < c.loop-at.at = grind (arith, common_steps, c.loop-at-test.true) in
    let next : next_at c.args.nodes.now c.loop-at.at ≡ c.standing-node.result.now.next =
    node_next c.args.nodes.now c.loop-at.at c.standing-node.result.now c.standing-node.ensures in
    record {
      here = λ more. ap (place_at c.args.hasher es) (sym next)
          ∙ (c.requires.chained.follows c.loop-at.at (chain_of c.args.hasher c.args.parent c.args.name.now) some
          (c.loop-at.invariant.here some) (subst (λ (k : ℕ). 0 < k) (sym next) more)).1;
      below = λ d more is. subst (λ (k : ℕ). d ≤ k) next
          (passed c.args.hasher es (next_at c.args.nodes.now) (head_at c.args.heads.now) c.loop-at.at c.args.parent
          c.standing-node.result.now.parent c.args.name.now (entry_of c.standing-node.result.now).name c.requires.chained
          some (c.loop-at.invariant.here some) (node_key c.args.nodes.now c.loop-at.at c.standing-node.result.now c.standing-node.ensures)
          (λ up same. false≢true (sym c.if-is_named.false ∙ c.is_named.ensures.1 (up, same)))
          c.loop-at.invariant.below d more is);
    }

pub returns : goal.returns
returns c = sym (no_child (entries_of c.args.nodes.now) c.args.parent c.args.name.now
    (λ d more is. subst (λ (k : ℕ). d ≤ k) c.loop-at-test.false (c.loop-at.invariant.below d more is)))
