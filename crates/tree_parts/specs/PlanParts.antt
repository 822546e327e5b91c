-- The parts of a plan, each by its top, with what its directories have together.
use Rattle.std.specs.Prelude.{◌≡◌, ◌==◌, ◌<◌, ℕ, Bool, true, not, if◌then◌else◌, List, length, filter, map, slice_index}
use Rattle.mds_types.specs.declared.plan.Plan.{Plan}
use Rattle.mds_types.specs.declared.problem.ProblemRow.{ProblemRow}
use Rattle.mds_types.specs.Certificate.{plan_label, plan_rank}
use Rattle.mds_types.specs.Division.{joins_parent, part_heat}
use Rattle.mds_types.specs.Problem.{heat_at, inodes_at}
use Rattle.mds_types.specs.Sums.{sum_below}
use Rattle.dir_pins.specs.Pins.{below}
use Rattle.tree_parts.specs.declared.plan_parts.PlanPart.{PlanPart}
use Rattle.tree_parts.specs.declared.plan_parts.Total.{Total}

-- the inodes of a part
abbrev pub part_inodes : List ProblemRow → (ℕ → ℕ) → ℕ → ℕ
part_inodes rows label part = sum_below (length rows) (λ i. if label i == part then inodes_at rows i else 0)

-- row i is the top of its part: the root, or a row that is in another part than its parent
abbrev pub is_part_top : List ProblemRow → (ℕ → ℕ) → ℕ → Bool
is_part_top rows label i = not (joins_parent rows label i)

-- row i is the top of this part
pub record IsTopOf (rows : List ProblemRow) (label : ℕ → ℕ) (part i : ℕ) : Type 0 where
  pub inside : i < length rows
  pub label_is : label i ≡ part
  pub top : is_part_top rows label i ≡ true

-- the part whose top is row i
abbrev pub part_of_top : List ProblemRow → List ℕ → Plan → ℕ → PlanPart
part_of_top rows dirs plan i = record {
  top = slice_index dirs i;
  rank = plan_rank plan (plan_label plan i);
  heat = part_heat rows (plan_label plan) (plan_label plan i);
  inodes = part_inodes rows (plan_label plan) (plan_label plan i);
}

-- the parts of a plan for these rows, which are those of these directories, by rising tops
abbrev pub plan_parts : List ProblemRow → List ℕ → Plan → List PlanPart
plan_parts rows dirs plan =
    map (part_of_top rows dirs plan) (filter (is_part_top rows (plan_label plan)) (below (length rows)))

-- the tops of some parts
abbrev pub part_tops : List PlanPart → List ℕ
part_tops parts = map (λ part. part.top) parts

-- what the first n rows add to a part
abbrev pub total_of : List ProblemRow → (ℕ → ℕ) → ℕ → ℕ → Total
total_of rows label n part = record {
  heat = sum_below n (λ i. if label i == part then heat_at rows i else 0);
  inodes = sum_below n (λ i. if label i == part then inodes_at rows i else 0);
}

abbrev pub nothing : Total
nothing = record { heat = 0; inodes = 0 }
