-- What the types of the values allow, which is what can be written.
use Rattle.std.specs.Prelude.{◌≡◌, ◌<◌, ◌≤◌, ◌^◌, ⊤, ℕ, ℤ, List, All, IfSome, length}
use Rattle.std.specs.Int.Signed.{mag}
use Rattle.mds_types.specs.declared.cut_proof.CutProof.{CutProof}
use Rattle.mds_types.specs.declared.cut_proof.CutProof.TheVariants.{Zero, Heavy, Table}
use Rattle.mds_types.specs.declared.cut_proof.Row.{Row}
use Rattle.mds_types.specs.declared.problem.ProblemRow.{ProblemRow}
use Rattle.mds_types.specs.Plan.{PlanData}
use Rattle.mds_types.specs.Problem.{IsProblem, ProblemData}
use Rattle.plan_text.specs.RowNames.{IsRowName}
use Rattle.plan_text.specs.declared.certificate.Certificate.{Certificate}

pub record FitsRow (row : ProblemRow) : Type 0 where
  pub parent : row.parent < 2 ^ 32
  pub heat : row.heat < 2 ^ 64
  pub inodes : row.inodes < 2 ^ 32
  pub now : row.now < 64

pub record FitsCell (row : Row) : Type 0 where
  pub cuts : row.cuts < 2 ^ 32
  pub rest : row.rest < 2 ^ 64
  pub price : row.price < 2 ^ 64

abbrev pub FitsPart : ℕ → Type 0
FitsPart part = part < 2 ^ 32

abbrev pub FitsRank : ℕ → Type 0
FitsRank rank = rank < 64

-- from - 2 ^ 63 to 2 ^ 63 - 1
abbrev pub FitsPrice : ℤ → Type 0
FitsPrice price = mag price < 2 ^ 63

-- a list whose length is a number of 64 bits
pub record FitsList {A : Type 0} (fits : A → Type 0) (xs : List A) : Type 0 where
  pub short : length xs < 2 ^ 64
  pub all : All fits xs

abbrev pub FitsCut : CutProof → Type 0
FitsCut Zero = ⊤
FitsCut (Heavy row) = row < 2 ^ 32
FitsCut (Table rows) = FitsList FitsCell rows

-- parents are before their children, rows and heats are within the limits, and there is a rank
pub record FitsProblem (problem : ProblemData) : Type 0 where
  pub sound : IsProblem problem
  pub rows : FitsList FitsRow problem.rows
  pub ranks : problem.ranks < 2 ^ 64

-- a plan has at most 64 parts, each with its rank
pub record FitsPlan (plan : PlanData) : Type 0 where
  pub part : FitsList FitsPart plan.part
  pub rank : FitsList FitsRank plan.rank
  pub few : length plan.rank ≤ 64
  pub greatest : plan.greatest < 2 ^ 64
  pub moved : plan.moved < 2 ^ 64
  pub cut : FitsCut plan.cut
  pub part_price : FitsList FitsPrice plan.dual.part_price
  pub rank_price : FitsList FitsPrice plan.dual.rank_price

-- each row has a name, if a certificate has names
abbrev pub IsNamed : Certificate → Type 0
IsNamed c = IfSome c.names (λ names. length names ≡ length c.problem.rows)

-- a certificate that its types allow: a problem, names for its rows or none, and a plan whose numbers are within their
-- types
pub record IsWritable (c : Certificate) : Type 0 where
  pub problem : FitsProblem c.problem
  pub named : IsNamed c
  pub names : IfSome c.names (λ names. All IsRowName names)
  pub plan : FitsPlan c.plan
