use Rattle.std.proofs.Common.{false, true}
use Rattle.rank_threads.proofs.exporting.export_phase_with_stops.Given as goal

-- the phase's name is that of the board with which it begins, of its orders, its stops, its log and its giver of tickets

abbrev pub ghosts-carry_out_named-K-Phase : goal.ghosts-carry_out_named-K-Phase
ghosts-carry_out_named-K-Phase g a = record { before = a.board; orders = a.orders.now; requests = false; exports = true; stops = a.stops.now }

abbrev pub ghosts-carry_out_named-K-LogName : goal.ghosts-carry_out_named-K-LogName
ghosts-carry_out_named-K-LogName g a = record { log = a.prepared.names.log }

abbrev pub ghosts-carry_out_named-K-NumbersName : goal.ghosts-carry_out_named-K-NumbersName
ghosts-carry_out_named-K-NumbersName g a = record { numbers = a.prepared.names.tickets }
