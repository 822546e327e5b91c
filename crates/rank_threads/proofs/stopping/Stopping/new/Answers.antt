use Rattle.std.proofs.Common.{arith}
use Rattle.rank_threads.proofs.stopping.Stopping.new.Goals as goal

pub returns-clause-stopped : goal.returns-clause-stopped
returns-clause-stopped g c = record { each = λ i d l one none. absurd (omega arith); met = tt }
