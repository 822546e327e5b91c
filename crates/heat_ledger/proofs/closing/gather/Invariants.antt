use Rattle.std.proofs.Common.{◌≡◌, true, All, vec_len}
use Rattle.heat_ledger.specs.Ledger.{IsClean}
use Rattle.heat_ledger.specs.Tally.{IsTokenOf}
use Rattle.heat_ledger.specs.Gathering.{IsGathered}
use Rattle.heat_ledger.proofs.closing.gather.Given as goal

abbrev pub invariant-loop-share : goal.invariant-loop-share
invariant-loop-share g l =
    IsTokenOf g.J.Naming.ledger l.authority
    × (l.authority.me.0.has_totals ≡ true)
    × (l.authority.me.0.totals ≡ l.fn.authority.me.0.totals)
    × All IsClean l.shares.items
    × IsGathered l.fn.authority.me.0.parts l.authority.me.0 l.fn.shares.items l.shares.items

abbrev pub decreases-loop-share : goal.decreases-loop-share
decreases-loop-share g l = vec_len l.shares
