use Rattle.std.proofs.Common.{◌≡◌, ℕ, ◌<◌, ◌≤◌, List, Option, Some, ◌∙◌, refl, arith, subst}
use Rattle.dirtree.specs.Tree.{Entry}
use Rattle.dirtree.specs.Keeps.{entries_of, head_at, next_at, place_at}
use Rattle.dirtree.proofs.Lookups.{IsNext, next_below, next_is, node_next, node_placed, placed_there}
use Rattle.dirtree.proofs.node.place_in_chain.Goals as goal

pub loop-at-init : goal.loop-at-init
loop-at-init c =
    let es : List (Option Entry) = entries_of c.args.nodes.now in
    let is : place_at c.args.hasher es c.args.dir ≡ Some c.chain-chain.result =
    node_placed c.args.hasher c.args.nodes.now c.args.dir c.chain-chain.result c.standing-node.result.now c.as_str.result.now
    c.standing-node.ensures c.as_str.ensures c.chain-chain.ensures.value in
    let top : c.args.dir ≤ head_at c.args.heads.now c.chain-chain.result = c.requires.chained.greatest c.args.dir c.chain-chain.result c.requires.some is in
    record {
      here = c.requires.chained.begins c.chain-chain.result (omega (arith, top, c.requires.some));
      reach = top;
      first = λ _. refl;
      behind = λ none. absurd (omega (arith, none));
    }

pub standing-requires : goal.standing-requires
standing-requires c = placed_there c.args.hasher (entries_of c.args.nodes.now) c.loop-at.at c.chain-chain.result c.loop-at.invariant.here

pub loop-at-smaller : goal.loop-at-smaller
loop-at-smaller c =
    let some : 0 < c.loop-at.at = omega (arith, c.loop-at.invariant.reach, c.requires.some) in
    subst (λ (k : ℕ). k < c.loop-at.at) (node_next c.args.nodes.now c.loop-at.at c.standing.result.now c.standing.ensures)
    (next_below (place_at c.args.hasher (entries_of c.args.nodes.now)) (next_at c.args.nodes.now) (head_at c.args.heads.now) c.loop-at.at
    c.chain-chain.result c.requires.chained some c.loop-at.invariant.here)

pub loop-at-preserved : goal.loop-at-preserved
loop-at-preserved c =
    let es : List (Option Entry) = entries_of c.args.nodes.now in
    let is : place_at c.args.hasher es c.args.dir ≡ Some c.chain-chain.result =
    node_placed c.args.hasher c.args.nodes.now c.args.dir c.chain-chain.result c.standing-node.result.now c.as_str.result.now
    c.standing-node.ensures c.as_str.ensures c.chain-chain.ensures.value in
    let above : c.args.dir < c.loop-at.at = omega (arith, c.loop-at.invariant.reach, c.loop-at-test.true) in
    let next : next_at c.args.nodes.now c.loop-at.at ≡ c.standing.result.now.next =
    node_next c.args.nodes.now c.loop-at.at c.standing.result.now c.standing.ensures in
    let step : IsNext (place_at c.args.hasher es) c.args.dir c.standing.result.now.next c.chain-chain.result =
    subst (λ (k : ℕ). IsNext (place_at c.args.hasher es) c.args.dir k c.chain-chain.result) next
    (next_is (place_at c.args.hasher es) (next_at c.args.nodes.now) (head_at c.args.heads.now) c.args.dir c.loop-at.at c.chain-chain.result
    c.requires.chained c.requires.some above is c.loop-at.invariant.here) in
    record {
      here = step.placed;
      reach = step.reach;
      first = λ none. absurd (omega (arith, none, above));
      behind = λ _. (next, c.loop-at.invariant.here);
    }

pub returns-clause-head : goal.returns-clause-head
returns-clause-head c = λ none. c.loop-at.invariant.first none ∙ c.loop-at-test.false

pub returns-clause-before : goal.returns-clause-before
returns-clause-before c = λ more. let behind = c.loop-at.invariant.behind more in (behind.0 ∙ c.loop-at-test.false, behind.1)
