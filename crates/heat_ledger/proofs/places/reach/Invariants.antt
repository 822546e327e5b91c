use Rattle.std.proofs.Common.{◌≡◌, ℕ, ◌-◌, ◌≤◌, length, vec_capacity}
use Rattle.heat_ledger.specs.Rows.{at}
use Rattle.heat_ledger.specs.Placed.{placed}
use Rattle.heat_ledger.proofs.places.reach.Given as goal

abbrev pub invariant-loop-places : goal.invariant-loop-places
invariant-loop-places l =
    ((dir : ℕ) → at l.places.items dir ≡ at l.fn.places.items dir)
    × (placed l.places.items ≡ placed l.fn.places.items)
    × ((limit : ℕ) → length l.fn.places.items ≤ limit → l.count ≤ limit → length l.places.items ≤ limit)
    × (vec_capacity l.places ≡ vec_capacity l.fn.places)

abbrev pub decreases-loop-places : goal.decreases-loop-places
decreases-loop-places l = l.count - length l.places.items
