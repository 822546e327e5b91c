-- A plan as lists and numbers.
use Rattle.std.specs.Prelude.{ℕ, List}
use Rattle.mds_types.specs.declared.cut_proof.CutProof.{CutProof}
use Rattle.mds_types.specs.DualProof.{DualData}

-- the part of each row, the rank of each part, the greatest heat in accesses, the inodes that move, and the proofs
pub record PlanData : Type 0 where
  pub part : List ℕ
  pub rank : List ℕ
  pub greatest : ℕ
  pub moved : ℕ
  pub cut : CutProof
  pub dual : DualData
