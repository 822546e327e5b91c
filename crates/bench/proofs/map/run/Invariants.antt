use Rattle.proof_names.specs.Names.{no_table}
use Rattle.bench.proofs.map.run.Given as goal

abbrev pub ghosts-time_map : goal.ghosts-time_map
ghosts-time_map g a = record { ledger = no_table; limit = 65536; map = a.opened }
