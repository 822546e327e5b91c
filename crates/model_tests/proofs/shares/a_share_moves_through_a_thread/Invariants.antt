use Rattle.proof_names.specs.Names.{no_log}
use Rattle.model_tests.proofs.shares.a_share_moves_through_a_thread.Given as goal

-- the ledger's name is that of what was opened for it
abbrev pub ghosts-count_seven : goal.ghosts-count_seven
ghosts-count_seven g a = record { ledger = a.opened; limit = 4; map = no_log }
