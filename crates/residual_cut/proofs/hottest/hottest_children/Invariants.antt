use Rattle.std.proofs.Common.{◌≡◌, ◌<◌, ◌≤◌, ◌-◌, true, cond, eqb, length, slice_index}
use Rattle.mds_types.specs.CutTable.{is_child}
use Rattle.residual_cut.specs.Hottest.{AreHottest}
use Rattle.residual_cut.proofs.HeapLemmas.{is_before}
use Rattle.residual_cut.proofs.hottest.hottest_children.Given as goal

abbrev pub invariant-loop-row : goal.invariant-loop-row
invariant-loop-row l = record {
  are : AreHottest l.of.rows.now (slice_index l.rest) (is_before l.row) l.i l.most l.hottest.floor l.hottest.children.items;
  full : 0 < l.hottest.floor → l.most ≤ length l.hottest.children.items;
  inside : l.row < length l.of.rows.now;
  child : 0 < l.row → is_child l.of.rows.now l.i l.row ≡ true;
}

-- the rows after this one, or none at the end
abbrev pub decreases-loop-row : goal.decreases-loop-row
decreases-loop-row l = cond (eqb l.row 0) 0 (length l.of.rows.now - l.row)
