use Rattle.history_tests.proofs.boards.cases.try_case.Given as goal

-- the board's name is that of what was opened for its book and for its map
abbrev pub ghosts-on_names : goal.ghosts-on_names
ghosts-on_names g a = record { ledger = a.book; limit = 8; map = a.map }
