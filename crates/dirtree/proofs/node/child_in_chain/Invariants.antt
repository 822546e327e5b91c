use Rattle.std.proofs.Common.{◌≡◌, ℕ, ◌<◌, ◌≤◌, Some}
use Rattle.dirtree.specs.Keeps.{chain_of, entries_of, key, key_at, place_at}
use Rattle.dirtree.proofs.node.child_in_chain.Given as goal

-- what is looked at is in the chain, and no directory before it has the name
abbrev pub invariant-loop-at : goal.invariant-loop-at
invariant-loop-at l = record {
  here : 0 < l.at → place_at l.fn.hasher (entries_of l.nodes) l.at ≡ Some (chain_of l.fn.hasher l.parent l.name);
  below : (c : ℕ) → 0 < c → key_at (entries_of l.nodes) c ≡ Some (key l.parent l.name) → c ≤ l.at;
}

abbrev pub decreases-loop-at : goal.decreases-loop-at
decreases-loop-at l = l.at
