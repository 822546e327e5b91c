use Rattle.std.proofs.Common.{◌≡◌, map}
use Rattle.rank_threads.specs.Ways.{At, own_ranks}
use Rattle.rank_threads.proofs.laying.own_ways.Given as goal

abbrev pub invariant-loop-number : goal.invariant-loop-number
invariant-loop-number l = map (λ own. At own.rank) l.ways.items ≡ own_ranks 0 l.number
