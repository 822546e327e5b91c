use Rattle.std.proofs.Common.{◌≡◌, ◌<◌, ◌≤◌, ◌*◌, ◌^◌, ℕ, length}
use Rattle.std.specs.Prelude.{slice_index, slice_index_or}
use Rattle.tree_parts.specs.PlanParts.{nothing, total_of}
use Rattle.tree_parts.proofs.plan_parts.totals.Given as goal

-- the rows so far are counted; a row has at most 2^40 accesses and fewer than 2^32 inodes
abbrev pub invariant-loop-i : goal.invariant-loop-i
invariant-loop-i l = record {
  size : length l.totals.items ≡ l.fn.count;
  heat : (p : ℕ) → p < l.fn.count → (slice_index_or l.totals.items p nothing).heat ≤ l.i * 2 ^ 40;
  inodes : (p : ℕ) → p < l.fn.count → (slice_index_or l.totals.items p nothing).inodes ≤ l.i * 2 ^ 32;
  counted : (p : ℕ) → p < l.fn.count → slice_index_or l.totals.items p nothing ≡ total_of l.rows (slice_index l.part) l.i p;
}
