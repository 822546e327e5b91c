use Rattle.std.proofs.Common.{◌≡◌, ◌<◌, ◌≤◌, Some}
use Rattle.dirtree.specs.Keeps.{entries_of, head_at, next_at, place_at}
use Rattle.dirtree.proofs.node.place_in_chain.Given as goal

-- what is looked at is in the chain, no lower than the directory, and follows the one before
abbrev pub invariant-loop-at : goal.invariant-loop-at
invariant-loop-at l = record {
  here : place_at l.fn.hasher (entries_of l.nodes) l.at ≡ Some l.chain;
  reach : l.dir ≤ l.at;
  first : l.before ≡ 0 → head_at l.heads l.chain ≡ l.at;
  behind : 0 < l.before → (next_at l.nodes l.before ≡ l.at) × (place_at l.fn.hasher (entries_of l.nodes) l.before ≡ Some l.chain);
}

abbrev pub decreases-loop-at : goal.decreases-loop-at
decreases-loop-at l = l.at
