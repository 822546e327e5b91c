use Rattle.std.proofs.Common.{◌≡◌, ◌≤◌, length, slice_index}
use Rattle.mds_types.specs.CutTable.{is_cut_at}
use Rattle.residual_cut.specs.Labels.{IsLabelled}
use Rattle.residual_cut.proofs.numbering.parts.Given as goal

abbrev pub invariant-loop-i : goal.invariant-loop-i
invariant-loop-i l = record {
  size : length l.part.items ≡ l.i;
  labelled : IsLabelled l.rows (is_cut_at l.table) (slice_index l.part.items) l.count l.i;
  few : l.count ≤ l.i;
}
