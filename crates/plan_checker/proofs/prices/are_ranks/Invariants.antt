use Rattle.mds_types.specs.Certificate.{AreRanks}
use Rattle.std.proofs.Common.{slice_index}
use Rattle.plan_checker.proofs.prices.are_ranks.Given as goal

abbrev pub invariant-loop-i : goal.invariant-loop-i
invariant-loop-i l = AreRanks l.fn.ranks l.i (slice_index l.rank)
