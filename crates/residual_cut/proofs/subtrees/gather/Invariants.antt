use Rattle.std.proofs.Common.{◌≡◌, ◌<◌, ◌≤◌, ◌^◌, false, length, slice_index}
use Rattle.residual_cut.specs.Walk.{IsWalk}
use Rattle.residual_cut.proofs.subtrees.gather.Given as goal

-- the sums are the rests of a walk that cuts nothing
abbrev pub invariant-loop-i : goal.invariant-loop-i
invariant-loop-i l = record {
  size : length l.heat ≡ length l.rows;
  low : l.i ≤ length l.rows;
  some : 0 < length l.rows → 0 < l.i;
  walk : IsWalk l.rows (λ _. 0) (slice_index l.heat) (λ _. 2 ^ 63) (λ _. false) (2 ^ 63) l.i l.i;
}
