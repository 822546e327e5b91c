use Rattle.phased_board.proofs.phased.note.Given as goal

-- the log becomes the board's history
abbrev pub ghosts-grow : goal.ghosts-grow
ghosts-grow g a = record { log = a._told.now.history }
