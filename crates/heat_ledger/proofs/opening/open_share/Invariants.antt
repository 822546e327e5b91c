use Rattle.std.specs.Prelude.{[]}
use Rattle.heat_ledger.proofs.opening.open_share.Given as goal

abbrev pub ghosts-grant : goal.ghosts-grant
ghosts-grant g a = record { parts = 1; amounts = []; rest = []; extra = [] }
