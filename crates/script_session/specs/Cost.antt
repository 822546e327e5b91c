-- What the command `cost` prints.
use Rattle.std.specs.Prelude.{ℕ, List, [], ◌∷◌, ◌++◌, length, map, codes, decimal}
use Rattle.dirtree.specs.Path.{path_of}
use Rattle.tree_parts.specs.declared.division.Part.{Part}
use Rattle.tree_parts.specs.Parts.{greatest}
use Rattle.script_board.specs.Board.{BoardData}

abbrev pub cost_line : List Part → List ℕ
cost_line ps = codes "cost greatest " ++ decimal (greatest ps) ++ codes " parts " ++ decimal (length ps) ++ 10 ∷ []

abbrev pub part_line : BoardData → Part → List ℕ
part_line b p =
    codes "part " ++ path_of b.world.state.directories.entries p.top
    ++ codes " heat " ++ decimal p.heat ++ codes " inodes " ++ decimal p.inodes ++ 10 ∷ []

-- the line on all parts, and then a line a part
abbrev pub cost_lines : BoardData → List Part → List (List ℕ)
cost_lines b ps = cost_line ps ∷ map (part_line b) ps
