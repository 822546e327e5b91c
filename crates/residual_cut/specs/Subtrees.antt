-- The heat of each row's subtree, in accesses.
use Rattle.std.specs.Prelude.{◌≡◌, ◌==◌, ◌<◌, ◌≤◌, ◌+◌, ◌-◌, if◌then◌else◌, ℕ, List, length, slice_index}
use Rattle.mds_types.specs.declared.problem.ProblemRow.{ProblemRow}
use Rattle.mds_types.specs.CutTable.{sum_of_children}
use Rattle.mds_types.specs.Problem.{IsForest, heat_at}
use Rattle.residual_cut.specs.Links.{IsLinked}
use Rattle.residual_cut.specs.declared.subtrees.Subtrees.{Subtrees}

-- a row's subtree has its own heat and that of its children's subtrees
abbrev pub AreSums : List ProblemRow → (ℕ → ℕ) → Type 0
AreSums rows heat = (v : ℕ) → v < length rows → heat v ≡ heat_at rows v + sum_of_children rows v heat

-- the row before which the k-th of these rows is: the one before it in the list, or the end
abbrev pub limit_of : ℕ → List ℕ → ℕ → ℕ
limit_of n hot k = if k == 0 then n else slice_index hot (k - 1)

-- the rows from row m on whose subtree is hotter than that, the last one first
pub record AreHot (n : ℕ) (heat : ℕ → ℕ) (low m : ℕ) (hot : List ℕ) : Type 0 where
  pub inside : (k : ℕ) → k < length hot → slice_index hot k < n
  pub from : (k : ℕ) → k < length hot → m ≤ slice_index hot k
  pub falls : (k : ℕ) → k < length hot → slice_index hot k < limit_of n hot k
  pub hotter : (k : ℕ) → k < length hot → low < heat (slice_index hot k)
  pub light : (k v : ℕ) → k ≤ length hot → m ≤ v → v < limit_of n hot k → (k < length hot → slice_index hot k < v)
      → heat v ≤ low

-- the rows whose subtree is no hotter than that have all its heat
abbrev pub AreLightWhole : ℕ → ℕ → (ℕ → ℕ) → (ℕ → ℕ) → Type 0
AreLightWhole n low heat rest = (v : ℕ) → v < n → heat v ≤ low → rest v ≡ heat v

-- the children of each row, the heat of each row's subtree, and the rows with a hot one
pub record AreSubtrees (rows : List ProblemRow) (trees : Subtrees) : Type 0 where
  pub linked : IsLinked rows trees.links.first.items trees.links.next.items 1
  pub size : length trees.heat.items ≡ length rows
  pub sums : AreSums rows (slice_index trees.heat.items)
  pub hot : AreHot (length rows) (slice_index trees.heat.items) trees.low 1 trees.hot.items

-- what a search's probes need: there are rows and ranks, the subtrees are those of the rows, and no row is hotter than
-- the lower end
pub record CanProbe (rows : List ProblemRow) (trees : Subtrees) (ranks : ℕ) : Type 0 where
  pub forest : IsForest rows
  pub some : 0 < length rows
  pub trees_are : AreSubtrees rows trees
  pub cool : (i : ℕ) → i < length rows → heat_at rows i ≤ trees.low
  pub ranked : 0 < ranks

-- the room of the walks: a number for each row, and all the heat of the light subtrees
pub record AreRests (rows : List ProblemRow) (trees : Subtrees) (rest : List ℕ) : Type 0 where
  pub size : length rest ≡ length rows
  pub light : AreLightWhole (length rows) trees.low (slice_index trees.heat.items) (slice_index rest)
