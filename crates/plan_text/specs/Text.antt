-- The text of a certificate: a problem, the names of its directories, a plan for it and the plan's proofs, as lines of
-- fields.
use Rattle.std.specs.Prelude.{ℕ, ℤ, List, [], ◌∷◌, ◌++◌, false, length, codes, decimal}
use Rattle.std.specs.Prelude.{if◌then◌else◌, Option, Some, None}
use Rattle.std.specs.Fmt.{digits, signed_decimal}
use Rattle.std.specs.List.{flat_map}
use Rattle.plan_text.specs.declared.certificate.Certificate.{Certificate}
use Rattle.mds_types.specs.declared.cut_proof.CutProof.{CutProof}
use Rattle.mds_types.specs.declared.cut_proof.CutProof.TheVariants.{Zero, Heavy, Table}
use Rattle.mds_types.specs.declared.cut_proof.Row.{Row}
use Rattle.mds_types.specs.declared.problem.ProblemRow.{ProblemRow}
use Rattle.mds_types.specs.DualProof.{DualData}
use Rattle.mds_types.specs.Plan.{PlanData}
use Rattle.mds_types.specs.Problem.{ProblemData}

-- what comes after a line's first field: a blank before each field, and a newline in the end
abbrev pub behind : List (List ℕ) → List ℕ
behind [] = 10 ∷ []
behind (field ∷ fields) = 32 ∷ field ++ behind fields

-- fields with a blank between them, and a newline
abbrev pub line : List ℕ → List (List ℕ) → List ℕ
line word fields = word ++ behind fields

-- a list: a line with its name and length, and a line for each element
abbrev pub table : {A : Type 0} → List ℕ → (A → List ℕ) → List A → List ℕ
table name line_of xs = line name (decimal (length xs) ∷ []) ++ flat_map line_of xs

-- a row of a problem: the row of its parent, its heat, its inodes, and the rank that has it now
abbrev pub row_line : ProblemRow → List ℕ
row_line row = line (codes "row") (decimal row.parent ∷ decimal row.heat ∷ decimal row.inodes ∷ decimal row.now ∷ [])

-- the part of a row
abbrev pub label_line : ℕ → List ℕ
label_line part = line (codes "part") (decimal part ∷ [])

-- the rank of a part
abbrev pub rank_line : ℕ → List ℕ
rank_line rank = line (codes "rank") (decimal rank ∷ [])

-- a row of a cut proof's table: its cuts, its rest, its price, and 1 where it is cut from its parent
abbrev pub cell_line : Row → List ℕ
cell_line row =
    line (codes "cell")
    (decimal row.cuts ∷ decimal row.rest ∷ decimal row.price ∷ decimal (if row.cut then 1 else 0) ∷ [])

-- the price of a part, or of a rank
abbrev pub price_line : ℤ → List ℕ
price_line price = line (codes "price") (signed_decimal price ∷ [])

-- a set of ranks, as a mask
abbrev pub mask_line : ℕ → List ℕ
mask_line ranks = line (codes "mask") ((codes "0x" ++ digits 16 false ranks) ∷ [])

abbrev pub number_line : List ℕ → ℕ → List ℕ
number_line word n = line word (decimal n ∷ [])

abbrev pub cut_lines : CutProof → List ℕ
cut_lines Zero = line (codes "cut") (codes "zero" ∷ [])
cut_lines (Heavy row) = line (codes "cut") (codes "heavy" ∷ decimal row ∷ [])
cut_lines (Table rows) = line (codes "cut") (codes "table" ∷ []) ++ table (codes "cells") cell_line rows

abbrev pub problem_lines : ProblemData → List ℕ
problem_lines problem = mask_line problem.ranks ++ table (codes "rows") row_line problem.rows

-- the name of a row's directory
abbrev pub name_line : List ℕ → List ℕ
name_line name = line (codes "name") (name ∷ [])

-- the lines down to those of the plan: version 1 has no names, and version 2 one for each row
abbrev pub head_lines : ProblemData → Option (List (List ℕ)) → List ℕ
head_lines problem None = line (codes "certificate") (codes "1" ∷ []) ++ problem_lines problem
head_lines problem (Some names) =
    line (codes "certificate") (codes "2" ∷ []) ++ (problem_lines problem ++ flat_map name_line names)

-- the part of each row, and the rank of each part
abbrev pub place_lines : List ℕ → List ℕ → List ℕ
place_lines part rank = table (codes "parts") label_line part ++ table (codes "ranks") rank_line rank

-- the greatest heat, and the inodes that move
abbrev pub sum_lines : ℕ → ℕ → List ℕ
sum_lines greatest moved = number_line (codes "greatest") greatest ++ number_line (codes "moved") moved

-- the price of each part, and of each rank of the set
abbrev pub price_lines : List ℤ → List ℤ → List ℕ
price_lines parts ranks = table (codes "part_prices") price_line parts ++ table (codes "rank_prices") price_line ranks

abbrev pub dual_lines : DualData → List ℕ
dual_lines dual = price_lines dual.part_price dual.rank_price

abbrev pub whole_plan_lines : PlanData → List ℕ
whole_plan_lines plan =
    place_lines plan.part plan.rank
    ++ sum_lines plan.greatest plan.moved
    ++ cut_lines plan.cut
    ++ dual_lines plan.dual

-- a certificate
abbrev pub text : ProblemData → Option (List (List ℕ)) → PlanData → List ℕ
text problem names plan = head_lines problem names ++ whole_plan_lines plan ++ line (codes "end") []

-- certificates, one after another
abbrev pub texts : List Certificate → List ℕ
texts = flat_map (λ c. text c.problem c.names c.plan)
