use Rattle.std.proofs.Common.{◌≤◌, ◌<◌, ◌*◌, ◌+◌, ℕ, slice_index}
use Rattle.ceph_plan.proofs.rank_choice.home_of.Given as goal

abbrev pub invariant-loop-number : goal.invariant-loop-number
invariant-loop-number l = record {
  small : l.most < 64;
  most : (r : ℕ) → r < l.number → slice_index l.inodes (l.part * 64 + r) ≤ slice_index l.inodes (l.part * 64 + l.most);
  first : (r : ℕ) → r < l.most → slice_index l.inodes (l.part * 64 + r) < slice_index l.inodes (l.part * 64 + l.most);
}
