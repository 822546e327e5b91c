use Rattle.std.proofs.Common.{[], false, true}
use Rattle.rank_threads.proofs.phase.serve_phase.Given as goal

-- the phase's name is that of the board with which it begins, of its log and of its giver of tickets

abbrev pub ghosts-serve_named-K-Phase : goal.ghosts-serve_named-K-Phase
ghosts-serve_named-K-Phase g a = record { before = a.board; orders = []; requests = true; exports = false; stops = [] }

abbrev pub ghosts-serve_named-K-LogName : goal.ghosts-serve_named-K-LogName
ghosts-serve_named-K-LogName g a = record { log = a.names.log }

abbrev pub ghosts-serve_named-K-NumbersName : goal.ghosts-serve_named-K-NumbersName
ghosts-serve_named-K-NumbersName g a = record { numbers = a.names.tickets }
