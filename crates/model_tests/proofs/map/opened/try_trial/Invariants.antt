use Rattle.proof_names.specs.Names.{no_table}
use Rattle.model_tests.proofs.map.opened.try_trial.Given as goal

-- the map's name is that of what was opened for it
abbrev pub ghosts-on_map : goal.ghosts-on_map
ghosts-on_map g a = record { ledger = no_table; limit = 96; map = a.opened }
