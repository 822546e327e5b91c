-- What the command `plan` prints, of the plan in force.
use Rattle.std.specs.Prelude.{ℕ, List, [], ◌∷◌, ◌++◌, map, codes, decimal, Option, Some, None}
use Rattle.mds_types.specs.declared.cut_proof.CutProof.{CutProof}
use Rattle.mds_types.specs.declared.cut_proof.CutProof.TheVariants.{Zero, Heavy, Table}
use Rattle.mds_types.specs.declared.plan.Plan.{Plan}
use Rattle.dirtree.specs.Path.{path_of}
use Rattle.tree_parts.specs.declared.plan_parts.PlanPart.{PlanPart}
use Rattle.tree_parts.specs.PlanParts.{plan_parts}
use Rattle.mds_board.specs.State.{Force}
use Rattle.mds_board.specs.InForce.{plan_in_force}
use Rattle.script_board.specs.Board.{BoardData}

abbrev pub proof_word : CutProof → List ℕ
proof_word Zero = codes "zero"
proof_word (Heavy row) = codes "heavy"
proof_word (Table table) = codes "table"

abbrev pub first_line : ℕ → ℕ → List ℕ → List ℕ
first_line greatest moved word =
    codes "plan greatest " ++ decimal greatest ++ codes " moved " ++ decimal moved ++ codes " proof " ++ word ++ 10 ∷ []

abbrev pub plan_line : Plan → List ℕ
plan_line plan = first_line plan.greatest plan.moved (proof_word plan.cut)

abbrev pub plan_part_line : BoardData → PlanPart → List ℕ
plan_part_line b part =
    codes "part " ++ path_of b.world.state.directories.entries part.top
    ++ codes " rank " ++ decimal part.rank
    ++ codes " heat " ++ decimal part.heat ++ codes " inodes " ++ decimal part.inodes ++ 10 ∷ []

-- the parts of a plan that is in force
abbrev pub parts_of : Option Force → Option Plan → List PlanPart
parts_of (Some force) (Some plan) = plan_parts force.problem.rows force.dirs plan
parts_of _ _ = []

abbrev pub parts_in_force : BoardData → List PlanPart
parts_in_force b = parts_of b.world.state.in_force (plan_in_force b.world)

-- the line on the plan in force, and then a line for each of these parts
abbrev pub lines_of : BoardData → Option Plan → List PlanPart → List (List ℕ)
lines_of b None parts = []
lines_of b (Some plan) parts = plan_line plan ∷ map (plan_part_line b) parts

abbrev pub plan_lines : BoardData → List PlanPart → List (List ℕ)
plan_lines b parts = lines_of b (plan_in_force b.world) parts
