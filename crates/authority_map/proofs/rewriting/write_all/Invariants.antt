use Rattle.std.proofs.Common.{◌≡◌, ℕ, List, drop, if◌then◌else◌}
use Rattle.authority_map.specs.Operations.{names}
use Rattle.authority_map.specs.Runs.{IsRunTable, Hold}
use Rattle.authority_map.specs.declared.runs.Runs.{Runs}
use Rattle.authority_map.proofs.rewriting.write_all.Given as goal

-- the runs' cells are those that are wanted once some directories are written still
pub record IsWritten (limit : ℕ) (runs : Runs) (dirs left : List ℕ) (cell : ℕ) (old : ℕ → ℕ) : Type 0 where
  pub now : ℕ → ℕ
  pub has : Hold limit runs now 0 0
  pub rest : (d : ℕ) → (if names left d then cell else now d) ≡ (if names dirs d then cell else old d)

abbrev pub invariant-loop-dir : goal.invariant-loop-dir
invariant-loop-dir l = record {
  table : IsRunTable l.limit l.runs l.index.items;
  cells : (old : ℕ → ℕ) → Hold l.limit l.fn.runs old 0 0 → IsWritten l.limit l.runs l.dirs (drop l.dir-index l.dirs) l.cell old;
}
