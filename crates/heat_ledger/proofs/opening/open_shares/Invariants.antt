use Rattle.std.proofs.Common.{◌≡◌, ◌-◌, ◌+◌, ◌≤◌, [], All, replicate, vec_len, vec_capacity}
use Rattle.heat_ledger.specs.Tally.{authority_state, all_parts, IsTokenOf}
use Rattle.heat_ledger.specs.Opening.{IsUnopened, fresh_share}
use Rattle.heat_ledger.proofs.opening.open_shares.Given as goal

abbrev pub invariant-loop-unopened : goal.invariant-loop-unopened
invariant-loop-unopened g l =
    (l.authority.me.0 ≡ authority_state (all_parts - vec_len l.shares) [])
    × IsTokenOf g.J.Naming.ledger l.authority
    × (vec_len l.shares + vec_len l.unopened_shares ≡ vec_len l.fn.unopened_shares)
    × (l.shares.items ≡ replicate (vec_len l.shares) (fresh_share g.J.Naming.limit))
    × All (IsUnopened g.J.Naming.ledger (g.J.Naming.limit + g.J.Naming.limit)) l.unopened_shares.items
    × (vec_len l.fn.unopened_shares ≤ vec_capacity l.shares)

abbrev pub decreases-loop-unopened : goal.decreases-loop-unopened
decreases-loop-unopened g l = vec_len l.unopened_shares
