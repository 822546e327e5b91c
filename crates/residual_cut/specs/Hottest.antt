-- The hottest children of a row.
use Rattle.std.specs.Prelude.{◌≡◌, ◌<◌, ◌≤◌, ◌&&◌, ◌++◌, ◌∷◌, [], ℕ, Bool, true, nat_lt}
use Rattle.std.specs.Prelude.{List, length, All, IsPermutation, if◌then◌else◌}
use Rattle.mds_types.specs.declared.problem.ProblemRow.{ProblemRow}
use Rattle.mds_types.specs.CutTable.{is_child}
use Rattle.residual_cut.specs.declared.child.Child.{Child}
use Rattle.residual_cut.specs.declared.hottest.Hottest.{Hottest}
use Rattle.residual_cut.specs.Heap.{row_count}

-- children of row i that pass the test, each at most once, with their rests; they are after it. None has less than the
-- floor. If one that passes the test isn't among them, it has no more than the floor, and they are at least `most`.
pub record AreHottest (rows : List ProblemRow) (rest : ℕ → ℕ) (test : ℕ → Bool) (i most floor : ℕ)
    (children : List Child) : Type 0 where
  pub each : (j : ℕ) → row_count j children ≤ (if nat_lt j (length rows) && (is_child rows i j && test j) then 1 else 0)
  pub rests : All (λ child. child.rest ≡ rest child.row.0) children
  pub after : All (λ child. (i < child.row.0) × (child.row.0 < length rows)) children
  pub above : All (λ child. floor ≤ child.rest) children
  pub left_out : (j : ℕ) → j < length rows → is_child rows i j ≡ true → test j ≡ true → row_count j children ≡ 0
      → (rest j ≤ floor) × (most ≤ length children)

-- what it takes to meet one more child: some are wanted, none of those here has less than the floor, and there is a
-- floor only where they are enough
pub record CanMeet (hottest : Hottest) (most : ℕ) : Type 0 where
  pub some : 0 < most
  pub above : All (λ child. hottest.floor ≤ child.rest) hottest.children.items
  pub full : 0 < hottest.floor → most ≤ length hottest.children.items

-- one more child was met, and some were forgotten
pub record IsMet (old new : Hottest) (child : Child) (most : ℕ) : Type 0 where
  pub forgotten : List Child
  pub same : IsPermutation (old.children.items ++ child ∷ []) (new.children.items ++ forgotten)
  pub cooler : All (λ other. other.rest ≤ new.floor) forgotten
  pub enough : 0 < length forgotten → most ≤ length new.children.items
  pub up : old.floor ≤ new.floor
  pub kept : CanMeet new most
