-- The parts of a tree below chosen tops, their heats in accesses and their sizes in inodes.
use Rattle.std.specs.Prelude.{◌≡◌, ◌==◌, ◌<◌, ◌&&◌, ◌||◌, ℕ, max, Bool, false, if◌then◌else◌, List, []}
use Rattle.std.specs.Prelude.{◌∷◌, length, filter, map, sum_by, slice_index, slice_index_or, Option}
use Rattle.std.specs.List.{list_any}
use Rattle.dirtree.specs.Tree.{Entry, inodes_of, walk_up}
use Rattle.dir_pins.specs.Pins.{below, is_unpinned}
use Rattle.tree_parts.specs.declared.division.Part.{Part}
use Rattle.tree_parts.specs.declared.division.Total.{Total}

-- the root is a top, and so are the directories that are chosen
abbrev pub is_top : List ℕ → ℕ → Bool
is_top tops d = (d == 0) || list_any (λ top. top == d) tops

-- for each number, whether it is a top
abbrev pub Marks : List Bool → List ℕ → Type 0
Marks marks tops = (d : ℕ) → d < length marks → slice_index_or marks d false ≡ is_top tops d

-- the first of these directories that is a top; the root is one
abbrev pub first_top : List ℕ → List ℕ → ℕ
first_top tops [] = 0
first_top tops (d ∷ above) = if is_top tops d then d else first_top tops above

-- the nearest top at d or above it
abbrev pub top_of : List (Option Entry) → List ℕ → ℕ → ℕ
top_of entries tops d = first_top tops (walk_up entries d)

-- no pin holds d, and its nearest top is t
abbrev pub is_member : List (Option Entry) → List (Option ℕ) → List ℕ → ℕ → ℕ → Bool
is_member entries own tops t d = is_unpinned entries own d && (top_of entries tops d == t)

-- the directories of the part of top t, rising
abbrev pub members : List (Option Entry) → List (Option ℕ) → List ℕ → ℕ → List ℕ
members entries own tops t = filter (is_member entries own tops t) (below (length entries))

-- the heat and the inodes of some directories together
abbrev pub total : List (Option Entry) → List ℕ → List ℕ → Total
total entries heats dirs = record { heat = sum_by (slice_index heats) dirs; inodes = sum_by (inodes_of entries) dirs }

abbrev pub part_of : ℕ → Total → Part
part_of t sum = record { top = t; heat = sum.heat; inodes = sum.inodes }

-- the part of top t
abbrev pub part_at : List (Option Entry) → List (Option ℕ) → List ℕ → List ℕ → ℕ → Part
part_at entries own heats tops t = part_of t (total entries heats (members entries own tops t))

-- a top that no pin holds
abbrev pub is_free_top : List (Option Entry) → List (Option ℕ) → List ℕ → ℕ → Bool
is_free_top entries own tops d = is_unpinned entries own d && is_top tops d

-- the parts, by the rising numbers of their tops
abbrev pub parts : List (Option Entry) → List (Option ℕ) → List ℕ → List ℕ → List Part
parts entries own heats tops =
    map (part_at entries own heats tops) (filter (is_free_top entries own tops) (below (length entries)))

-- the heat of the hottest part, or 0 where there is none
abbrev pub greatest : List Part → ℕ
greatest [] = 0
greatest (p ∷ parts) = max p.heat (greatest parts)

-- what a pass that has these marks and tops counts to top t
abbrev pub is_counted : List Bool → List ℕ → ℕ → ℕ → Bool
is_counted marks tops t d = slice_index_or marks d false && (slice_index_or tops d 0 == t)

-- what it has counted of the directories below n
abbrev pub counted : List (Option Entry) → List ℕ → List Bool → List ℕ → ℕ → ℕ → Total
counted entries heats marks tops n t = total entries heats (filter (is_counted marks tops t) (below n))

abbrev pub nothing : Total
nothing = record { heat = 0; inodes = 0 }
