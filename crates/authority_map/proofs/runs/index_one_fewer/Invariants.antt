use Rattle.std.proofs.Common.{◌≡◌, ℕ, ◌+◌, ◌<◌, ◌≤◌, length, get_or}
use Rattle.authority_map.proofs.runs.index_one_fewer.Given as goal

abbrev pub invariant-loop-block : goal.invariant-loop-block
invariant-loop-block l =
    (length l.index.items ≡ length l.fn.index.items)
    × ((k : ℕ) → k < l.first → get_or l.index.items k 0 ≡ get_or l.fn.index.items k 0)
    × ((k : ℕ) → l.first ≤ k → k < l.block → get_or l.fn.index.items k 0 ≡ get_or l.index.items k 0 + 1)
    × ((k : ℕ) → l.block ≤ k → get_or l.index.items k 0 ≡ get_or l.fn.index.items k 0)
