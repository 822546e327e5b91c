use Rattle.script_session.proofs.script.run.Given as goal

-- the board's name is that of what was opened for its book and for its map
abbrev pub ghosts-run_named : goal.ghosts-run_named
ghosts-run_named g a = record { ledger = a.book; limit = a.options.limit; map = a.map }
