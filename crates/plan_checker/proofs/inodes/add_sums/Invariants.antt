use Rattle.std.proofs.Common.{◌≡◌, ◌<◌, ◌≤◌, ◌+◌, ℕ, length, slice_index}
use Rattle.plan_checker.proofs.inodes.add_sums.Given as goal

abbrev pub invariant-loop-j : goal.invariant-loop-j
invariant-loop-j l = record {
  size : length l.total ≡ length l.initial.total;
  added : (j : ℕ) → j < l.j → slice_index l.total j ≡ slice_index l.initial.total j + slice_index l.more j;
  rest : (j : ℕ) → l.j ≤ j → slice_index l.total j ≡ slice_index l.initial.total j;
}
