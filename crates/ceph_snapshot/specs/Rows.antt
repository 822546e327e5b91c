-- The directories as the planner takes them.
use Rattle.std.specs.Prelude.{◌≡◌, ◌<◌, ◌-◌, ◌^◌, ℕ, Bool, true, false, List, length, min, if◌then◌else◌}
use Rattle.mds_types.specs.declared.problem.ProblemRow.{ProblemRow}
use Rattle.mds_types.specs.Problem.{row_at}
use Rattle.ceph_snapshot.specs.declared.directory.Directory.{Directory}
use Rattle.ceph_snapshot.specs.declared.held.Held.{Held}
use Rattle.ceph_snapshot.specs.declared.held.Held.TheVariants.{Free, Pinned, Spread}
use Rattle.ceph_snapshot.specs.Holding.{held_at, heat_at, inodes_at, now_at, parent_at}

abbrev pub is_free : Held → Bool
is_free Free = true
is_free (Pinned rank) = false
is_free (Spread rank) = false

-- the heat of directory i if nothing holds it
abbrev pub free_heat : List Directory → List Held → ℕ → ℕ
free_heat directories holds i = if is_free (held_at holds i) then heat_at directories i else 0

-- where directory i has this heat, what of it is planned: what a row can count, if nothing holds it
abbrev pub planned_heat : List Held → (ℕ → ℕ) → ℕ → ℕ
planned_heat holds heat i = if is_free (held_at holds i) then min (heat i) (2 ^ 40) else 0

-- what nothing holds is planned with its heat and inodes, as far as a row can count them; what is held with none
abbrev pub planned_row : List Directory → List Held → ℕ → ProblemRow
planned_row directories holds i = record {
  parent = parent_at directories i;
  heat = planned_heat holds (heat_at directories) i;
  inodes = if is_free (held_at holds i) then min (inodes_at directories i) (2 ^ 32 - 1) else 0;
  now = now_at directories i;
}

-- the rows of the first n directories, and no more
pub record AreRowsOf (directories : List Directory) (holds : List Held) (n : ℕ) (rows : List ProblemRow) : Type 0 where
  pub size : length rows ≡ n
  pub planned : (i : ℕ) → i < n → row_at rows i ≡ planned_row directories holds i
