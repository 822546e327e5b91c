use Rattle.std.proofs.Common.{sym, ◌∙◌}
use Rattle.heat_ledger.proofs.Listed.{rows_add_up}
use Rattle.heat_ledger.proofs.share.Share.pending_rows.Goals as goal

pub returns-clause-sums : goal.returns-clause-sums
returns-clause-sums g c counted long = rw (← c.self.view_is)
    (rows_add_up c.self.inside.counts.pending counted g.J.Naming.limit c.self.invariant.2.as_pending
    (long ∙ sym c.self.invariant.2.as_pending))
