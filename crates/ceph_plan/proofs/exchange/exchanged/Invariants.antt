use Rattle.ceph_plan.specs.Balance.{HaveRanks}
use Rattle.ceph_plan.proofs.exchange.exchanged.Given as goal

abbrev pub invariant-loop : goal.invariant-loop
invariant-loop l = HaveRanks l.parts.ranks l.parts.heats.now l.parts.root l.found.items
