use Rattle.proof_names.proofs.numbers.Numbers.give.Given as goal

-- the number that is given
abbrev pub ghosts-hand : goal.ghosts-hand
ghosts-hand g a = record { number = a._number }
