use Rattle.std.proofs.Common.{◌≡◌, ◌<◌, ℕ, length, slice_index}
use Rattle.ceph_folding.specs.Amounts.{amount_at}
use Rattle.ceph_folding.proofs.amounts.amounts_of.Given as goal

abbrev pub invariant-loop-directory : goal.invariant-loop-directory
invariant-loop-directory l = record {
  size : length l.amounts.items ≡ l.directory-index;
  amounts : (i : ℕ) → i < l.directory-index → slice_index l.amounts.items i ≡ amount_at l.fn.amount l.directories i;
}
