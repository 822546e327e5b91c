use Rattle.std.proofs.Common.{◌∙◌, ap, sym}
use Rattle.heat_ledger.specs.Ledger.{weight_of}
use Rattle.mds_board.specs.History.{World}
use Rattle.rank_threads.proofs.Summing.{totals_after}
use Rattle.rank_threads.proofs.totals.add_up.Goals as goal

pub returns-clause-served : goal.returns-clause-served
returns-clause-served g c = λ before shares ways scripts later h.
    let same = c.audit.ensures.same in
    record { served = rw (same.0, same.1) h.served; ended = rw same.0 h.ended }

pub returns-clause-totals : goal.returns-clause-totals
returns-clause-totals g c = λ before shares ways scripts later counted h.
    let same = c.audit.ensures.same in
    totals_after g.J.Naming.limit before c.audit.new.self shares scripts _ (rw same.1 h.served.returned) counted
    (record { begun = c.audit.ensures.begun; hits = c.audit.ensures.hits })
    (ap weight_of same.1 ∙ (c.requires ∙ sym (ap (λ (w : World). w.shares) same.0)))
