use Rattle.std.proofs.Common.{ℕ, ◌<◌, ◌≤◌, length}
use Rattle.plan_checker.specs.Table.{IsChecked}
use Rattle.plan_checker.proofs.TableLemmas.{HaveGot}
use Rattle.plan_checker.proofs.cut_table.rows_hold.Given as goal

abbrev pub invariant-loop-i : goal.invariant-loop-i
invariant-loop-i l = record {
  got : HaveGot l.rows l.table l.sums l.i;
  checked : (j : ℕ) → l.i ≤ j → j < length l.rows → IsChecked l.rows l.table l.bound j;
}
