-- When parts divide the directories that no pin holds, and when a heat is the greatest.
use Rattle.std.specs.Prelude.{◌≡◌, ◌<◌, ◌≤◌, ℕ, true, List, length, sum_by, slice_index, Option}
use Rattle.std.specs.List.{Contains}
use Rattle.mds_types.specs.Connected.{IsConnected, IsParentOrChild}
use Rattle.dirtree.specs.Tree.{Entry, inodes_of, parent_of}
use Rattle.dir_pins.specs.Pins.{is_unpinned}
use Rattle.tree_parts.specs.declared.division.Part.{Part}
use Rattle.tree_parts.specs.Parts.{is_top, members, top_of}

-- one directory is the other's parent. (The root names itself, which joins it to no other directory.)
abbrev pub IsEdge : List (Option Entry) → ℕ → ℕ → Type 0
IsEdge entries = IsParentOrChild (parent_of entries)

-- d is one of the directories of part p
abbrev pub InPart : List (Option Entry) → List (Option ℕ) → List ℕ → Part → ℕ → Type 0
InPart entries own tops p d = Contains (members entries own tops p.top) d

-- Each directory that no pin holds is in one part, which has its nearest top, and no other directory is in any. Each
-- part is connected, and has its top and the sums of its directories' heats and inodes.
pub record IsDivision (entries : List (Option Entry)) (own : List (Option ℕ)) (heats tops : List ℕ)
    (parts : List Part) : Type 0 where
  pub covered : (d : ℕ) → is_unpinned entries own d ≡ true → (p : Part) × Contains parts p × InPart entries own tops p d
  pub apart : (p q : Part) (d : ℕ) → Contains parts p → Contains parts q → InPart entries own tops p d
      → InPart entries own tops q d → p ≡ q
  pub unpinned : (p : Part) (d : ℕ) → Contains parts p → InPart entries own tops p d → is_unpinned entries own d ≡ true
  pub nearest : (p : Part) (d : ℕ) → Contains parts p → InPart entries own tops p d → top_of entries tops d ≡ p.top
  pub connected : (p : Part) → Contains parts p → IsConnected (IsEdge entries) (InPart entries own tops p)
  pub top : (p : Part) → Contains parts p → is_top tops p.top ≡ true
  pub has_top : (p : Part) → Contains parts p → InPart entries own tops p p.top
  pub heat : (p : Part) → Contains parts p → p.heat ≡ sum_by (slice_index heats) (members entries own tops p.top)
  pub inodes : (p : Part) → Contains parts p → p.inodes ≡ sum_by (inodes_of entries) (members entries own tops p.top)

-- no part is hotter, and some part is as hot; without a part it is 0
pub record IsGreatest (parts : List Part) (heat : ℕ) : Type 0 where
  pub bound : (p : Part) → Contains parts p → p.heat ≤ heat
  pub reached : 0 < length parts → (p : Part) × Contains parts p × (p.heat ≡ heat)
  pub none : length parts ≡ 0 → heat ≡ 0
