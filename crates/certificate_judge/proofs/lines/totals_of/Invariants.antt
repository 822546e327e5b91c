use Rattle.std.proofs.Common.{◌≡◌, ◌*◌, ◌≤◌, ◌^◌, take}
use Rattle.certificate_judge.specs.Judged.{heat_of_rows, inodes_of_rows}
use Rattle.certificate_judge.proofs.lines.totals_of.Given as goal

-- the sums so far, which are small
abbrev pub invariant-loop-row : goal.invariant-loop-row
invariant-loop-row l = record {
  heat : l.totals.heat ≡ heat_of_rows (take l.row-index l.rows);
  inodes : l.totals.inodes ≡ inodes_of_rows (take l.row-index l.rows);
  cool : l.totals.heat ≤ l.row-index * 2 ^ 40;
  small : l.totals.inodes ≤ l.row-index * 2 ^ 32;
}
