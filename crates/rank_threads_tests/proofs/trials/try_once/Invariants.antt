use Rattle.rank_threads_tests.proofs.trials.try_once.Given as goal

-- the board's name is that of what was opened for its book and for its map
abbrev pub ghosts-on_board : goal.ghosts-on_board
ghosts-on_board g a = record { ledger = a.book; limit = 128; map = a.map }
