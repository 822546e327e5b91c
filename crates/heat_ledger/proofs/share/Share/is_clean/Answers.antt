use Rattle.heat_ledger.proofs.share.Share.is_clean.Goals as goal

pub returns : goal.returns
returns g c = rw (← c.self.view_is) c.is_settled.ensures
