use Rattle.std.proofs.Common.{true}
use Rattle.rank_threads.proofs.traffic.traffic_phase.Given as goal

-- the phase's name is that of the board with which it begins, of its orders, its log and its giver of tickets

abbrev pub ghosts-traffic_named-K-Phase : goal.ghosts-traffic_named-K-Phase
ghosts-traffic_named-K-Phase g a = record { before = a.board; orders = a.tasks.orders.now; requests = true; exports = true; stops = a.tasks.stops.now }

abbrev pub ghosts-traffic_named-K-LogName : goal.ghosts-traffic_named-K-LogName
ghosts-traffic_named-K-LogName g a = record { log = a.prepared.names.log }

abbrev pub ghosts-traffic_named-K-NumbersName : goal.ghosts-traffic_named-K-NumbersName
ghosts-traffic_named-K-NumbersName g a = record { numbers = a.prepared.names.tickets }
