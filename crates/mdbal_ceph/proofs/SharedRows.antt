-- Rows that count what directories have in several hours: they have the parents and the ranks of the directories.
use Rattle.std.proofs.Common.{◌≡◌, ◌∙◌, ◌<◌, ℕ, List, ap, arith, length}
use Rattle.mds_types.specs.declared.problem.ProblemRow.{ProblemRow}
use Rattle.mds_types.specs.Problem as problem
use Rattle.ceph_snapshot.specs.declared.directory.Directory.{Directory}
use Rattle.ceph_snapshot.specs.declared.held.Held.{Held}
use Rattle.ceph_snapshot.specs.Holding.{AreParentsFirst, now_at, parent_at}
use Rattle.ceph_snapshot.specs.Rows.{AreRowsOf}
use Rattle.ceph_plan.specs.Shares.{AreShares}
use Rattle.ceph_plan.specs.declared.hours.Hour.{Hour}
use Rattle.ceph_plan.specs.declared.shares.Shares.{Shares}
use Rattle.mdbal_ceph.proofs.Parents.{parents_by}

module _ (directories : List Directory) (holds : List Held) (rows : List ProblemRow) (ranks : ℕ) (hours : List Hour) (weights : List ℕ)
    (shares : Shares) (rows_of : AreRowsOf directories holds (length directories) rows)
    (are : AreShares ranks rows hours weights shares) where
  pub shared_size : length shares.rows.items ≡ length directories
  shared_size = are.rows_size ∙ rows_of.size

  pub shared_parent : (i : ℕ) → i < length directories → problem.parent_at shares.rows.items i ≡ parent_at directories i
  shared_parent i l =
      ap (λ (row : ProblemRow). row.parent) (are.rows_are i (omega (arith, l, rows_of.size))) ∙ ap (λ (row : ProblemRow). row.parent) (rows_of.planned i l)

  pub shared_now : (i : ℕ) → i < length directories → problem.now_at shares.rows.items i ≡ now_at directories i
  shared_now i l =
      ap (λ (row : ProblemRow). row.now) (are.rows_are i (omega (arith, l, rows_of.size))) ∙ ap (λ (row : ProblemRow). row.now) (rows_of.planned i l)

  pub shared_first : problem.IsForest shares.rows.items → AreParentsFirst directories
  shared_first forest = parents_by directories shares.rows.items shared_size shared_parent forest
