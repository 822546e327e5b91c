-- Divisions of the directories that no pin holds, by labels of directories, and placings of their parts.
use Rattle.std.specs.Prelude.{◌≡◌, ◌==◌, ◌<◌, ◌&&◌, ℕ, true, if◌then◌else◌, List, length, slice_index, slice_index_or}
use Rattle.std.specs.Prelude.{Option}
use Rattle.mds_types.specs.Connected.{IsConnected, IsParentOrChild}
use Rattle.mds_types.specs.RankSet.{has_rank}
use Rattle.mds_types.specs.Sums.{max_below, sum_below}
use Rattle.dirtree.specs.Tree.{Entry, inodes_of, parent_of}
use Rattle.dir_pins.specs.Pins.{is_unpinned, unpinned}

-- no pin holds d, and it has this label
abbrev pub InDirPart : List (Option Entry) → List (Option ℕ) → (ℕ → ℕ) → ℕ → ℕ → Type 0
InDirPart entries own label part d = (is_unpinned entries own d ≡ true) × (label d ≡ part)

-- a division into at most k parts: each directory that no pin holds has a label below k, and each part is connected in
-- the tree or empty
pub record IsDirDivision (entries : List (Option Entry)) (own : List (Option ℕ)) (k : ℕ) (label : ℕ → ℕ) : Type 0 where
  pub below : (d : ℕ) → is_unpinned entries own d ≡ true → label d < k
  pub connected : (part : ℕ) → IsConnected (IsParentOrChild (parent_of entries)) (InDirPart entries own label part)

-- the heat of a part, in accesses
abbrev pub dir_part_heat : List (Option Entry) → List (Option ℕ) → List ℕ → (ℕ → ℕ) → ℕ → ℕ
dir_part_heat entries own heats label part =
    sum_below (length entries) (λ d. if is_unpinned entries own d && (label d == part) then slice_index heats d else 0)

-- the heat of the hottest part, or 0 where there is none
abbrev pub greatest_dir_heat : List (Option Entry) → List (Option ℕ) → List ℕ → ℕ → (ℕ → ℕ) → ℕ
greatest_dir_heat entries own heats k label = max_below k (dir_part_heat entries own heats label)

-- the labels of rows that labels of directories give
abbrev pub row_label : List (Option Entry) → List (Option ℕ) → (ℕ → ℕ) → ℕ → ℕ
row_label entries own label i = label (slice_index (unpinned entries own) i)

-- the inodes of directories that move where each part goes to its rank; `now` are the ranks that have the directories
abbrev pub dir_moved : List (Option Entry) → List (Option ℕ) → List ℕ → (ℕ → ℕ) → (ℕ → ℕ) → ℕ
dir_moved entries own now label rank =
    sum_below (length entries) (λ d. if is_unpinned entries own d
    then (if slice_index_or now d 0 == rank (label d) then 0 else inodes_of entries d) else 0)

-- each part that has a directory goes to a rank of the set, and no two go to one
pub record IsDirPlacing (entries : List (Option Entry)) (own : List (Option ℕ)) (ranks : ℕ)
    (label rank : ℕ → ℕ) : Type 0 where
  pub usable : (d : ℕ) → is_unpinned entries own d ≡ true → has_rank ranks (rank (label d)) ≡ true
  pub distinct : (c d : ℕ) → is_unpinned entries own c ≡ true → is_unpinned entries own d ≡ true
      → rank (label c) ≡ rank (label d) → label c ≡ label d
