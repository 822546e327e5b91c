use Rattle.std.proofs.Common.{◌≡◌, ◌<◌, ◌+◌, ◌*◌, ◌/◌, ℕ, length, get_or}
use Rattle.authority_map.specs.Runs.{IsIn}
use Rattle.authority_map.proofs.rewriting.index_again.Given as goal

-- the blocks before this one have their runs
abbrev pub invariant-loop-block : goal.invariant-loop-block
invariant-loop-block l = record {
  sized : length l.index.items ≡ l.limit / 256 + 2;
  each : (block : ℕ) → block < l.block → IsIn l.starts (get_or l.index.items block 0) (256 * block);
}
