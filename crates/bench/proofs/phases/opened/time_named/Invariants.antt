use Rattle.bench.proofs.phases.opened.time_named.Given as goal

-- the board's name is that of what was opened for its book and for its map
abbrev pub ghosts-time_opened : goal.ghosts-time_opened
ghosts-time_opened g a = record { ledger = a.book; limit = 65536; map = a.map }
