use Rattle.std.proofs.Common.{◌≡◌, ◌≤◌, ◌++◌, length, slice_index_or}
use Rattle.std.specs.Prelude.{None}
use Rattle.ceph_pins.specs.OwnList.{own_lines}
use Rattle.ceph_pins.proofs.own_list.make_own_list.Given as goal

-- what is written, and the lines of the rows that are left, are the whole list
abbrev pub invariant-loop-at : goal.invariant-loop-at
invariant-loop-at l = record {
  inside : l.at ≤ length l.rows;
  rest : l.list.items ++ own_lines l.directories (λ i. slice_index_or l.pins.items i None) l.at
      ≡ own_lines l.directories (λ i. slice_index_or l.pins.items i None) (length l.rows);
}

abbrev pub decreases-loop-at : goal.decreases-loop-at
decreases-loop-at l = l.at
