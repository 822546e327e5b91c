-- Directories whose rows were planned come after their parents.
use Rattle.std.proofs.Common.{◌≡◌, ◌∙◌, ◌<◌, ℕ, List, [], ◌∷◌, length, sym, refl, arith}
use Rattle.mds_types.specs.declared.problem.ProblemRow.{ProblemRow}
use Rattle.mds_types.specs.Problem as problem
use Rattle.ceph_snapshot.specs.declared.directory.Directory.{Directory}
use Rattle.ceph_snapshot.specs.Holding.{AreParentsFirst, parent_at}

root_of : (directories : List Directory) (rows : List ProblemRow)
    → ((i : ℕ) → i < length directories → problem.parent_at rows i ≡ parent_at directories i) → problem.IsForest rows
    → parent_at directories 0 ≡ 0
root_of [] rows same forest = refl
root_of (d ∷ directories) rows same forest =
    let some : 0 < length (d ∷ directories) = omega arith in
    sym (same 0 some) ∙ forest.root

pub parents_by : (directories : List Directory) (rows : List ProblemRow) → length rows ≡ length directories
    → ((i : ℕ) → i < length directories → problem.parent_at rows i ≡ parent_at directories i) → problem.IsForest rows → AreParentsFirst directories
parents_by directories rows size same forest = record {
  root = root_of directories rows same forest;
  above = λ i some l. omega (arith, same i l, forest.above i some (omega (arith, l, size)));
}
