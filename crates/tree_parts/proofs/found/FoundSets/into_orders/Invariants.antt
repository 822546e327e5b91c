use Rattle.std.proofs.Common.{◌≡◌, ◌++◌}
use Rattle.tree_parts.proofs.found.FoundSets.into_orders.Given as goal

-- the orders so far and the drafts that are left
abbrev pub invariant-loop-draft : goal.invariant-loop-draft
invariant-loop-draft l = l.orders.items ++ l.draft-iterator.rest.items ≡ l.fn.self.orders.items
