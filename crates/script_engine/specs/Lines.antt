-- The lines of a script.
use Rattle.std.specs.Prelude.{◌≡◌, ℕ, false, if◌then◌else◌, ◌==◌, List, [], ◌∷◌, ◌++◌}
use Rattle.std.specs.List.{onto_first}

-- A line ends at a newline, or at the end of the input. A newline at the very end begins no line.
abbrev pub lines_of : List ℕ → List (List ℕ)
lines_of [] = []
lines_of (b ∷ bs) = if b == 10 then [] ∷ lines_of bs else onto_first b (lines_of bs)

-- the lines that end at a newline
abbrev pub whole_lines : List ℕ → List (List ℕ)
whole_lines [] = []
whole_lines (b ∷ bs) = if b == 10 then [] ∷ whole_lines bs else onto_whole b (whole_lines bs)
  where
    onto_whole : ℕ → List (List ℕ) → List (List ℕ)
    onto_whole b [] = []
    onto_whole b (line ∷ lines) = (b ∷ line) ∷ lines

-- no byte is a newline
abbrev pub IsLine : List ℕ → Type 0
IsLine [] = Unit {0}
IsLine (b ∷ bs) = ((b == 10) ≡ false) × IsLine bs

-- the lines, each with its newline
abbrev pub ended : List (List ℕ) → List ℕ
ended [] = []
ended (line ∷ lines) = line ++ 10 ∷ ended lines
