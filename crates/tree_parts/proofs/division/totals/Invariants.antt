use Rattle.std.proofs.Common.{◌≡◌, ◌<◌, ◌≤◌, ◌*◌, ◌^◌, ℕ, length}
use Rattle.std.specs.Prelude.{slice_index_or}
use Rattle.tree_parts.specs.Parts.{counted, nothing}
use Rattle.tree_parts.proofs.division.totals.Given as goal

-- the directories so far are counted; a directory has at most 2^40 accesses and fewer than 2^32 inodes
abbrev pub invariant-loop-member : goal.invariant-loop-member
invariant-loop-member l = record {
  size : length l.totals.items ≡ length l.tree.entries;
  heat : (t : ℕ) → t < length l.tree.entries → (slice_index_or l.totals.items t nothing).heat ≤ l.member * 2 ^ 40;
  inodes : (t : ℕ) → t < length l.tree.entries → (slice_index_or l.totals.items t nothing).inodes ≤ l.member * 2 ^ 32;
  counted : (t : ℕ) → t < length l.tree.entries → slice_index_or l.totals.items t nothing ≡ counted l.tree.entries l.heat.heats l.marks l.tops l.member t;
}
