-- The rows of a board's problem: one for each directory that no pin holds, by rising numbers.
use Rattle.std.specs.Prelude.{ℕ, List, length, filter, map, nat_lt, slice_index, slice_index_or, Option}
use Rattle.mds_types.specs.declared.problem.ProblemRow.{ProblemRow}
use Rattle.dirtree.specs.Tree.{Entry, inodes_of, parent_of}
use Rattle.dir_pins.specs.Pins.{unpinned}

-- the row of d among directories that rise: how many of them have a smaller number
abbrev pub place_of : List ℕ → ℕ → ℕ
place_of dirs d = length (filter (λ other. nat_lt other d) dirs)

-- the row of d, where the rows are those of these directories; the root is its own parent
abbrev pub row_of : List (Option Entry) → List ℕ → List ℕ → List ℕ → ℕ → ProblemRow
row_of entries heats now dirs d = record {
  parent = place_of dirs (parent_of entries d);
  heat = slice_index heats d;
  inodes = inodes_of entries d;
  now = slice_index_or now d 0;
}

-- the rows of the directories that no pin holds, with their heats, their inodes and the ranks that have them now
abbrev pub problem_rows : List (Option Entry) → List (Option ℕ) → List ℕ → List ℕ → List ProblemRow
problem_rows entries own heats now = map (row_of entries heats now (unpinned entries own)) (unpinned entries own)
