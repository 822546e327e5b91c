use Rattle.rounds_tests.proofs.boards.on_board.Given as goal

-- the board's name is that of what was opened for its book and for its map
abbrev pub ghosts-on_names : goal.ghosts-on_names
ghosts-on_names g a = record { ledger = a.book; limit = a.limit; map = a.map }
